-- Numbers: what a walk over the digits keeps, and that a number that is read is below its limit. Every law is over the limit. Assumes nothing.
use Prim.Native.Nat.{ℕ, ◌+◌, ◌-◌, ◌*◌, ◌≤◌, ◌<◌}
use mathlib.Core.Path.{◌≡◌, refl, sym, ◌∙◌}
use mathlib.Core.Bool.{Bool, true, false}
use mathlib.Core.List.{List, [], ◌∷◌}
use native.Mathlib.Omega.{arith}
use native.Mathlib.Nat.{le_trans, le_refl}
use lib.Dec.{eqb, leb, ltb}
use lib.ListN.{length, get_or, drop}
use borrow.Author.Tests.{eqb-true, lt-ltb, le-ltb, ltb-true}
use Rattle.std.specs.Prelude.{if◌then◌else◌, None, Option, Some}
use Rattle.text.specs.Base.{◌&◌, within, PLUS}
use Rattle.values.specs.Numbers.{all_digits, decimal_from, digits, number}
use Rattle.std.specs.Char.{is_ascii_digit}
use Rattle.text.proofs.Scan.{rest_more, rest-none, never, and_false, by_cases}
use Rattle.text.proofs.StdLaws.{both_ways}

-- the digits of `rest`, after those that spelled v
unfoldable pub digits_from : (limit v : ℕ) → List ℕ → Option ℕ
digits_from limit v rest = if all_digits rest & ltb (decimal_from v rest) limit then Some (decimal_from v rest) else None

-- ---- a number that is read is below its limit

abbrev Below : ℕ → Option ℕ → Type 0
Below limit o = (v : ℕ) → o ≡ Some v → v < limit

none_below : (limit : ℕ) → Below limit None
none_below limit v e = let z : ◌≡◌ {A = ℕ} 0 1 = cc in absurd (omega arith)

pub digits-below : (limit : ℕ) (s : List ℕ) (v : ℕ) → digits limit s ≡ Some v → v < limit
unfolding digits
digits-below limit [] = none_below limit
digits-below limit (x ∷ rest) = go (all_digits (x ∷ rest)) (ltb w limit) refl
  where
    w : ℕ
    w = decimal_from 0 (x ∷ rest)

    go : (all below : Bool) → ltb w limit ≡ below → Below limit (if all & below then Some w else None)
    go true true e = λ v p. let q : w ≡ v = cc in let l : w < limit = ltb-true w limit e in omega arith
    go true false e = none_below limit
    go false below e = none_below limit

pub number-below : (limit : ℕ) (s : List ℕ) (v : ℕ) → number limit s ≡ Some v → v < limit
unfolding number
number-below limit [] = none_below limit
number-below limit (x ∷ rest) = by_cases (Below limit) (eqb x PLUS) _ _ (digits-below limit rest) (digits-below limit (x ∷ rest))

-- ---- the walk

digit_is : (x : ℕ) → is_ascii_digit x ≡ within 0x30 0x39 x
unfolding within
digit_is x = both_ways (leb 0x30 x) refl

-- more digits make no smaller number
grows : (v : ℕ) (rest : List ℕ) → v ≤ decimal_from v rest
unfolding decimal_from
grows v [] = le_refl v
grows v (x ∷ rest) = le_trans (omega arith) (grows (v * 10 + (x - 0x30)) rest)

beyond : (limit v : ℕ) (rest : List ℕ) → limit ≤ v → digits_from limit v rest ≡ None
unfolding digits_from
beyond limit v rest h = rw (le-ltb (decimal_from v rest) limit (le_trans h (grows v rest)), and_false (all_digits rest))

pub no_digit : (limit : ℕ) (s : List ℕ) → true ≡ eqb (length s) 0 → None ≡ digits limit s
unfolding digits
no_digit limit [] e = refl
no_digit limit (x ∷ rest) e = let z = eqb-true (length (x ∷ rest)) 0 (sym e) in absurd (omega arith)

pub begun : (limit : ℕ) (s : List ℕ) → false ≡ eqb (length s) 0 → digits_from limit 0 s ≡ digits limit s
unfolding digits digits_from
begun limit [] e = never (sym e)
begun limit (x ∷ rest) e = refl

module _ (s : List ℕ) (i limit v : ℕ) (whole : Option ℕ) where
  abbrev pub Here : Type 0
  Here = digits_from limit v (drop i s) ≡ whole

  pub done : Here → length s ≤ i → v < limit → Some v ≡ whole
  unfolding digits_from all_digits decimal_from
  done e h l = rw (rest-none s i h, lt-ltb v limit l) at e

  module _ (e : Here) (h : i < length s) where
    pub other : false ≡ is_ascii_digit (get_or s i 0) → None ≡ whole
    unfolding digits_from all_digits
    other x = rw (rest_more s i h, ← digit_is (get_or s i 0), ← x) at e

    pub a_digit : true ≡ is_ascii_digit (get_or s i 0) → digits_from limit (v * 10 + (get_or s i 0 - 0x30)) (drop (i + 1) s) ≡ whole
    unfolding digits_from all_digits decimal_from
    a_digit x = rw (rest_more s i h, ← digit_is (get_or s i 0), ← x) at e

    pub too_large : true ≡ is_ascii_digit (get_or s i 0) → limit ≤ v * 10 + (get_or s i 0 - 0x30) → None ≡ whole
    too_large x l = sym (beyond _ _ _ l) ∙ a_digit x

pub ruleset digits_up_to_laws = (no_digit, begun, done, other, a_digit, too_large)
