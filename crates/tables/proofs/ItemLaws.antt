-- Laws of items: how the items of a set are those of its parts. Assumes nothing.
use Prim.Native.Nat.{ℕ, ◌+◌, ◌-◌, ◌≤◌}
use mathlib.Core.Path.{◌≡◌, refl, sym, ap, ◌∙◌}
use mathlib.Core.Bool.{Bool, true, false}
use mathlib.Core.List.{List, [], ◌∷◌}
use native.Mathlib.Omega.{arith}
use lib.Dec.{eqb}
use lib.ListN.{length}
use borrow.Author.Tests.{eqb-true}
use Rattle.std.specs.Prelude.{if◌then◌else◌, None, Option, Some}
use Rattle.text.specs.Base.{◌&◌}
use Rattle.text.specs.Parts.{span, starts_with, ends_with, position}
use Rattle.text.specs.declared.parts.Span.{Span}
use Rattle.text.proofs.LiteralLaws.{codes, begins_as}
use Rattle.text.proofs.Scan.{both, never}
use Rattle.script.specs.Pieces.{cut_at, place, bytes, is_empty, inner, begins, ends, behind, trim}
use Rattle.script.specs.Pieces as Pieces
use Rattle.script.specs.Sets.{CLOSING-BRACE, PathSet, non_empty, trimmed_items, path_items, braced_set, plain_set, path_set, features}
use Rattle.script.specs.Contents.{items_in}
use Rattle.script.specs.Inside.{In}
use Rattle.script.proofs.Inside.{length-bytes}
use Rattle.pieces.proofs.BehindLaws.{behind-none, behind-some, cut-none, cut-some}
use Rattle.pieces.specs.declared.pieces.Piece.{Piece}
use Rattle.tables.specs.Items.{item_of, items_for, items_of}
use Rattle.tables.specs.SetRead.{items_or, braced_items, items_by}

-- ---- path sets

module _ (text : List ℕ) (p : Span) where
  -- the items of a piece in which nothing stands, and of another
  pub path_none : is_empty p ≡ true → items_for (path_items text p) ≡ []
  unfolding path_items items_for
  path_none e = rw e

  pub path_parts : is_empty p ≡ false → items_for (path_items text p) ≡ items_for (trimmed_items text p)
  unfolding path_items
  path_parts e = rw e

-- f is the answer of `pieces::find_in` behind the opening brace
module _ (text : List ℕ) (p : Span) (f : Option ℕ) (e : f ≡ position CLOSING-BRACE (bytes text p)) where
  -- no closing brace; the first one
  pub braced-none : f ≡ None → items_for (braced_items text p) ≡ []
  unfolding braced_items items_or braced_set items_for
  braced-none h = rw (cut-none text p.start p.end CLOSING-BRACE f e h)

  pub braced_path : (n : ℕ) (q : Span) → f ≡ Some n → q ≡ trim text (span p.start (p.start + n)) → items_for (braced_items text p) ≡ items_for (path_items text q)
  unfolding braced_items items_or braced_set cut_at
  braced_path n q h z = rw (cut-some text p.start p.end CLOSING-BRACE f e n h, ← z)

-- by what stands behind the opening brace
module _ (text : List ℕ) (v : Span) where
  in_braces : (r : Span) → behind text "{" (trim text v) ≡ Some r → (o : Option PathSet) → braced_set text r ≡ o → items_in text v ≡ items_or o
  unfolding items_in path_set items_or
  in_braces r e None h = rw (e, path_set, h, items_in)
  in_braces r e (Some s) h = rw (e, path_set, h, items_in)

  pub items_by_lem : (o : Option Span) → behind text "{" (trim text v) ≡ o → items_in text v ≡ items_by text (trim text v) o
  unfolding items_in path_set items_by braced_items items_or
  items_by_lem None e = rw (e, path_set, items_in)
  items_by_lem (Some r) e = in_braces r e (braced_set text r) refl

  -- q is the value trimmed, b whether it begins with a brace
  module _ (q : Span) (z : q ≡ trim text v) (b : Bool) (e : b ≡ starts_with (codes "{") (bytes text q)) where
    -- a value in braces
    pub set-braced : b ≡ true → items_of text v ≡ items_for (braced_items text (span (q.start + 1) q.end))
    unfolding items_of items_by
    set-braced t = ap items_for (items_by_lem (Some (span (q.start + 1) q.end)) (rw (← z) (behind-some text q "{" b e t)))

    set-plain : b ≡ false → items_of text v ≡ items_for (if is_empty q then [] else (q ∷ []))
    unfolding items_of items_by plain_set
    set-plain f = rw z (ap items_for (items_by_lem None (rw (← z) (behind-none text q "{" b e f))))

    -- without braces: an empty value, and another
    pub set-none : b ≡ false → is_empty q ≡ true → items_of text v ≡ []
    unfolding items_for
    set-none f h = rw h at (set-plain f)

    pub set_one : b ≡ false → is_empty q ≡ false → items_of text v ≡ item_of (place q) ∷ []
    unfolding items_for
    set_one f h = rw h at (set-plain f)

pub ruleset set_laws = (path_none, path_parts, braced-none, braced_path, set-braced, set-none, set_one)

-- ---- feature sets

-- no byte is both an opening and a closing brace
two_braces : (s : List ℕ) → starts_with (0x7B ∷ []) s ≡ true → ends_with s CLOSING-BRACE ≡ true → 2 ≤ length s
unfolding starts_with ends_with
two_braces [] b d = never (sym b)
two_braces (x ∷ []) b d =
    let k = eqb-true x 0x7B (both (eqb x 0x7B) true b).0 in
    let l = eqb-true x CLOSING-BRACE d in
    absurd (omega arith)
two_braces (x ∷ y ∷ s) b d = omega arith

-- b and d tell whether it begins and ends with a brace
module _ (text : List ℕ) (q : Span) (b : Bool) (e : b ≡ starts_with (codes "{") (bytes text q)) where
  -- no opening brace: not in braces
  pub unbraced : b ≡ false → begins text "{" q & ends text q CLOSING-BRACE ≡ false
  unfolding begins
  unbraced f = rw (begins_as "{" (bytes text q), ← e, f)

  module _ (d : Bool) (k : d ≡ ends_with (bytes text q) CLOSING-BRACE) (t : b ≡ true) where
    -- an opening brace: the last byte decides, and it is another byte
    pub by_end : d ≡ begins text "{" q & ends text q CLOSING-BRACE
    unfolding begins ends
    by_end = rw (begins_as "{" (bytes text q), ← e, t, ← k)

    pub end_fits : In text q → d ≡ true → q.start + 2 ≤ q.end
    end_fits i f = omega (arith, two_braces (bytes text q) (sym e ∙ t) (sym k ∙ f), length-bytes text q i, i.forward)

    -- what stands between the braces lies inside the text
    pub inner_in : In text q → d ≡ true → In text (span (q.start + 1) (q.end - 1))
    inner_in i f = record { forward = omega (arith, end_fits i f); inside = omega (arith, i.inside) }

-- q is the value trimmed
module _ (v q : Piece) (same : q.text ≡ v.text) (z : q.at ≡ trim v.text.now v.at) where
  -- in braces, items between commas; else words
  pub features-braced : (p : Piece) → begins q.text.now "{" q.at & ends q.text.now q.at CLOSING-BRACE ≡ true → p.text ≡ q.text → p.at ≡ inner q.at
      → features v.text.now v.at ≡ non_empty (trimmed_items p.text.now p.at)
  unfolding features
  features-braced p t a b = let t' = rw same at t in rw (a, b, same, ← z, t')

  pub features_apart : begins q.text.now "{" q.at & ends q.text.now q.at CLOSING-BRACE ≡ false → features v.text.now v.at ≡ Pieces.words q.text.now q.at
  unfolding features
  features_apart f = let f' = rw same at f in rw (same, ← z, f')
