-- Laws for `number::parse_i64`. Assumes nothing.
use Rattle.std.specs.Prelude.{None, Option, Some, option_map}
use Rattle.std.specs.Option.{SomeIff}
use Rattle.std.proofs.lemmas.List.{take_rest}
use Prim.Native.Nat.{ℕ, zero, suc, ◌+◌, ◌^◌, ◌≤◌}
use mathlib.Core.Path.{◌≡◌, refl, sym, ap, ◌∙◌}
use mathlib.Core.List.{List, [], ◌∷◌}
use native.Mathlib.Omega.{arith}
use lib.IntN.{ℤ, pos, neg_ℤ, ◌-ℤ◌, +ℤ_idl}
use lib.ListN.{length, get_or, drop}
use mir.Syntax.{w64}
use mir.Val.{SFits}
use borrow.Author.Tests.{eq-eqb, ne_eqb}
use Rattle.text.specs.Base.{MINUS}
use Rattle.values.specs.Numbers.{digits, number, minus, signed}
use Rattle.values.proofs.NumberLaws.{digits-below, number-below}

-- with a `-` in front, and without
pub below : (s : List ℕ) → 1 ≤ length s → get_or s 0 0 ≡ MINUS → signed s ≡ option_map minus (digits (2 ^ 63 + 1) (drop 1 s))
unfolding signed
below [] l e = absurd (omega arith)
below (y ∷ s) l e = rw (eq-eqb y MINUS e)

pub above : (s : List ℕ) → (1 ≤ length s → get_or s 0 0 ≡ MINUS → ⊥) → signed s ≡ option_map pos (number (2 ^ 63) s)
unfolding signed number
above [] n = refl
above (y ∷ s) n = rw (ne_eqb y MINUS (n (omega arith)))

-- what is taken from 0
pub negated : (v : ℕ) → pos 0 -ℤ pos v ≡ minus v
unfolding minus
negated v = +ℤ_idl (neg_ℤ (pos v)) ∙ go v
  where
    go : (v : ℕ) → neg_ℤ (pos v) ≡ minus v
    go zero = refl
    go (suc n) = refl

pub minus-fits : (v : ℕ) → v ≤ 2 ^ 63 → SFits w64 (minus v)
unfolding minus
minus-fits zero h = record { sfits = omega arith }
minus-fits (suc n) h = record { sfits = omega arith }

pub plus-fits : (s : List ℕ) (v : ℕ) → Some v ≡ number (2 ^ 63) s → SFits w64 (pos v)
plus-fits s v q = record { sfits = omega (arith, number-below (2 ^ 63) s v (sym q)) }

-- what is made of the unsigned answer r
pub taken : (s : List ℕ) (v : ℕ) (r : Option ℤ) → Some v ≡ digits (2 ^ 63 + 1) s → SomeIff r (SFits w64 (pos 0 -ℤ pos v)) (pos 0 -ℤ pos v) → r ≡ option_map minus (digits (2 ^ 63 + 1) s)
taken s v None q h = let k : v ≤ 2 ^ 63 = omega (arith, digits-below (2 ^ 63 + 1) s v (sym q)) in absurd (h (rw (negated v) (minus-fits v k)))
taken s v (Some z) q h = ap Some (h.1 ∙ negated v) ∙ ap (option_map minus) q

pub ruleset parse_i64_steps = (below, above, plus-fits, taken, take_rest, pos, drop, number-below)
