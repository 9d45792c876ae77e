-- Laws of pieces for the proofs of code that holds spans: what a call on the slice of a piece says of the piece. For `search` to use. Assumes nothing.
use Rattle.std.specs.Prelude.{Option, None, Some, IfSome}
use Prim.Native.Nat.{ℕ, ◌+◌, ◌-◌, ◌≤◌, ◌<◌}
use mathlib.Core.Path.{◌≡◌, sym, ◌∙◌}
use mathlib.Core.Bool.{Bool, true}
use mathlib.Core.List.{List, [], ◌∷◌}
use native.Mathlib.Omega.{arith}
use lib.Dec.{eqb}
use lib.ListN.{length}
use Rattle.text.specs.Trim.{trim_place}
use Rattle.text.specs.Parts.{span, starts_with, position}
use Rattle.text.specs.declared.parts.Span.{Span}
use Rattle.text.specs.declared.trim.Place.{Place}
use Rattle.text.proofs.Scan.{both, never}
use Rattle.text.proofs.TrimLaws.{trim-inside}
use Rattle.script.specs.Pieces.{bytes, trim}
use Rattle.script.specs.Inside.{In}
use Rattle.script.proofs.Inside.{length-bytes, position_in}

-- t is where the code trims s, the bytes of the piece
module _ (text : List ℕ) (p : Span) (s : List ℕ) (t : Place) (k : s ≡ bytes text p) (e : t ≡ trim_place s) where
  pub trim_is : span (p.start + t.start) (p.start + t.start + t.len) ≡ trim text p
  unfolding trim
  trim_is = rw (← k, ← e)

  pub trim_end : In text p → p.start + t.start + t.len ≤ p.end
  trim_end i =
      let inside : t.start + t.len ≤ length s = rw e (trim-inside s) in
      let n : length s ≡ p.end - p.start = rw k (length-bytes text p i) in
      omega (arith, inside, n, i.forward)

  pub trim_in : In text p → In text (span (p.start + t.start) (p.start + t.start + t.len))
  trim_in i = record { forward = omega arith; inside = omega (arith, trim_end i, i.inside) }

  -- the machine holds both places
  pub trim_holds : (limit : ℕ) → p.end < limit → In text p → p.start + t.start + t.len < limit
  trim_holds limit l i = omega (arith, trim_end i)

-- a word that a text begins with is no longer than the text
pub starts_fits : (w s : List ℕ) → starts_with w s ≡ true → length w ≤ length s
unfolding starts_with
starts_fits [] s e = omega arith
starts_fits (c ∷ w) [] e = never (sym e)
starts_fits (c ∷ w) (x ∷ s) e = omega (arith, starts_fits w s (both (eqb x c) (starts_with w s) e).1)

pub word_fits : (text : List ℕ) (p : Span) (w : List ℕ) (r : Bool) → In text p → r ≡ starts_with w (bytes text p) → r ≡ true → p.start + length w ≤ p.end
word_fits text p w r i e t = omega (arith, starts_fits w (bytes text p) (sym e ∙ t), length-bytes text p i, i.forward)

-- the first b stands inside: f is what the code found in s, the bytes of the piece
pub found_inside : (text : List ℕ) (p : Span) (s : List ℕ) (b : ℕ) (f : Option ℕ) → In text p → s ≡ bytes text p → f ≡ position b s → IfSome f (λ n. p.start + n < p.end)
unfolding position
found_inside text p s b None i k e = tt
found_inside text p s b (Some n) i k e =
    let inside = position_in b 0 n s (sym e) in
    let l : length s ≡ p.end - p.start = rw k (length-bytes text p i) in
    omega (arith, inside, l, i.forward)

pub ruleset piece_steps = (trim_is, trim_in, word_fits)
