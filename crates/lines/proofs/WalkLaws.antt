-- Laws of a walk over lines: whether a line is left, and that the next line is the first of those left. Assumes nothing.
use Prim.Native.Nat.{ℕ, ◌+◌}
use mathlib.Core.Path.{◌≡◌, refl, sym, ap, ◌∙◌}
use mathlib.Core.Bool.{Bool, true, false}
use mathlib.Core.List.{List, [], ◌∷◌}
use lib.Dec.{ltb}
use lib.ListN.{length}
use borrow.Author.Tests.{ltb-true, ltb-false}
use Rattle.text.specs.declared.lines.Line.{Line}
use Rattle.text.proofs.LineLaws.{Known, known, lines_none}
use Rattle.lines.specs.Walk.{left, has_more, line_here, past}
use Rattle.lines.specs.declared.lines.Lines.{Lines}

module _ (w : Lines) where
  abbrev text : List ℕ
  text = w.text.now

  -- there is one exactly where the place is no end
  pub more_is : ltb w.at (length text) ≡ has_more (left w)
  unfolding left has_more
  more_is = go (ltb w.at (length text)) refl
    where
      go : (b : Bool) → ltb w.at (length text) ≡ b → b ≡ has_more (left w)
      go true e = rw (known text w.at w.number (line_here w) (ltb-true w.at (length text) e) refl).more
      go false e = rw (lines_none text w.at w.number (ltb-false w.at (length text) e))

  -- then the line lies inside the text, and the next begins behind it
  module _ (m : has_more (left w) ≡ true) where
    pub here : Known text w.at w.number (line_here w)
    here = known text w.at w.number (line_here w) (ltb-true w.at (length text) (more_is ∙ m)) refl

    pub next_left : left w ≡ line_here w ∷ left (past w)
    unfolding left
    next_left = here.more

    -- past the line there
    module _ (l : Line) (e : l ≡ line_here w) where
      abbrev after : Lines
      after = record { text = w.text; at = l.next; number = w.number + 1 }

      pub past_is : after ≡ past w
      past_is = ap (λ (k : Line). record { text = w.text; at = k.next; number = w.number + 1 }) e

      pub left_is : left w ≡ l ∷ left after
      left_is = next_left ∙ ap (λ (k : Line). k ∷ left (past w)) (sym e) ∙ ap (λ (v : Lines). l ∷ left v) (sym past_is)
