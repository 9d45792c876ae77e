-- Laws of words at the front of a piece: from what the code found there to what the definitions say of the piece. For `search` to use. Assumes nothing.
use Rattle.std.specs.Prelude.{None, Option, Some}
use Prim.Native.Nat.{ℕ, ◌+◌, ◌≤◌, ◌<◌}
use Prim.Native.String.{String}
use mathlib.Core.Path.{◌≡◌, refl, sym, ◌∙◌}
use mathlib.Core.Bool.{Bool, true, false}
use mathlib.Core.List.{List, [], ◌∷◌}
use native.Mathlib.Omega.{arith}
use lib.Dec.{eqb, ltb}
use lib.ListN.{length, get_or}
use borrow.Author.Tests.{eq-eqb, ltb-true}
use Rattle.text.specs.Parts.{span, starts_with, position}
use Rattle.text.specs.declared.parts.Span.{Span}
use Rattle.text.proofs.Scan.{never}
use Rattle.text.proofs.LiteralLaws.{codes, begins_as, length_as}
use Rattle.script.specs.Pieces.{bytes, begins, behind, cut, cut_at}
use Rattle.script.specs.Inside.{In}
use Rattle.script.proofs.Inside.{length-bytes, position_in}
use Rattle.pieces.proofs.PieceLaws.{word_fits}

-- ---- a word that the code has compared: r is the answer of `pieces::begins`

module _ (text : List ℕ) (p : Span) (w : String) (r : Bool) (e : r ≡ starts_with (codes w) (bytes text p)) where
  pub begins-is : begins text w p ≡ r
  unfolding begins
  begins-is = begins_as w (bytes text p) ∙ sym e

  pub behind-some : r ≡ true → behind text w p ≡ Some (span (p.start + length (codes w)) p.end)
  unfolding behind
  behind-some t = rw (begins-is ∙ t, length_as w)

  pub behind-none : r ≡ false → behind text w p ≡ None
  unfolding behind
  behind-none f = rw (begins-is ∙ f)

-- and where it leaves off: w is the code's word, of n bytes
module _ (text : List ℕ) (start end n : ℕ) (r : Bool) (w : List ℕ) (e : r ≡ starts_with w (bytes text (span start end))) (t : r ≡ true) where
  pub behind-fits : In text (span start end) → length w ≡ n → start + n ≤ end
  behind-fits i l = rw (← l) (word_fits text (span start end) w r i e t)

  pub behind_in : In text (span start end) → length w ≡ n → In text (span (start + n) end)
  behind_in i l = record { forward = behind-fits i l; inside = i.inside }

-- ---- the first byte of a piece, 0 where there is none

-- whether a word can stand where the byte x does
abbrev pub fronts : ℕ → List ℕ → Bool
fronts x [] = true
fronts x (c ∷ w) = eqb x c

other_front : (w s : List ℕ) (x : ℕ) → x ≡ get_or s 0 0 → fronts x w ≡ false → starts_with w s ≡ false
unfolding starts_with
other_front [] s x e f = never f
other_front (c ∷ w) [] x e f = refl
other_front (c ∷ w) (y ∷ s) x e f = rw (← e, f)

pub one_front : (c : ℕ) (s : List ℕ) → get_or s 0 0 ≡ c → ltb 0 c ≡ true → starts_with (c ∷ []) s ≡ true
unfolding starts_with
one_front c [] e z = let k = ltb-true 0 c z in absurd (omega arith)
one_front c (y ∷ s) e z = rw (eq-eqb y c e)

module _ (text : List ℕ) (p : Span) (x : ℕ) (e : x ≡ get_or (bytes text p) 0 0) where
  -- another first byte than the word's
  pub front_begins : (w : String) → fronts x (codes w) ≡ false → begins text w p ≡ false
  front_begins w f = begins-is text p w false (sym (other_front (codes w) (bytes text p) x e f))

  pub front_behind : (w : String) → fronts x (codes w) ≡ false → behind text w p ≡ None
  front_behind w f = behind-none text p w false (sym (other_front (codes w) (bytes text p) x e f)) refl

  -- the word is that one byte
  pub front_is : (w : String) (c : ℕ) → codes w ≡ c ∷ [] → x ≡ c → ltb 0 c ≡ true → behind text w p ≡ Some (span (p.start + 1) p.end)
  front_is w c k q z = rw k at (behind-some text p w true (sym (rw k (one_front c (bytes text p) (sym e ∙ q) z))) refl)

-- a first byte that is not 0 stands in the piece
pub front_fits : (text : List ℕ) (p : Span) (c : ℕ) → In text p → get_or (bytes text p) 0 0 ≡ c → ltb 0 c ≡ true → p.start + 1 ≤ p.end
front_fits text p c i e z = word_fits text p (c ∷ []) true i (sym (one_front c (bytes text p) e z)) refl

pub byte_fits : (text : List ℕ) (p : Span) (x c : ℕ) → In text p → x ≡ get_or (bytes text p) 0 0 → x ≡ c → ltb 0 c ≡ true → p.start + 1 ≤ p.end
byte_fits text p x c i e q z = front_fits text p c i (sym e ∙ q) z

-- ---- the first b of a piece: f is the answer of `pieces::find_in`

module _ (text : List ℕ) (start end b : ℕ) (f : Option ℕ) (e : f ≡ position b (bytes text (span start end))) where
  pub cut-none : f ≡ None → cut text b (span start end) ≡ None
  unfolding cut
  cut-none h = rw (← e, h)

  module _ (n : ℕ) (h : f ≡ Some n) where
    pub cut-some : cut text b (span start end) ≡ Some (cut_at (span start end) n)
    unfolding cut
    cut-some = rw (← e, h)

    pub cut_fits : In text (span start end) → start + n < end
    unfolding position
    cut_fits i =
        let k = position_in b 0 n (bytes text (span start end)) (sym e ∙ h) in
        omega (arith, k, length-bytes text (span start end) i, i.forward)

    pub cut-before : In text (span start end) → In text (span start (start + n))
    cut-before i = record { forward = omega arith; inside = omega (arith, cut_fits i, i.inside) }

    pub cut-after : In text (span start end) → In text (span (start + n + 1) end)
    cut-after i = record { forward = omega (arith, cut_fits i); inside = i.inside }

    -- the machine holds both places
    pub found_holds : (limit : ℕ) → end < limit → In text (span start end) → start + n < limit
    found_holds limit l i = omega (arith, cut_fits i)

    pub next_holds : (limit : ℕ) → end < limit → In text (span start end) → start + n + 1 < limit
    next_holds limit l i = omega (arith, cut_fits i)

-- for the needs of calls and the bounds of pieces
pub ruleset front_bounds = (front_fits, byte_fits, behind-fits, behind_in)

pub ruleset cut_bounds = (cut_fits, cut-before, cut-after)

pub ruleset sums = (found_holds, next_holds)
