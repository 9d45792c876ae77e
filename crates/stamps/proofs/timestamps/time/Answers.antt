-- `stamps::timestamps::time` meets its contract: each way out is a law of what was found up to there. Assumes nothing.
use Rattle.std.specs.Prelude.{Err, Ok}
use Prim.Native.Nat.{ℕ, ◌+◌, ◌-◌, ◌*◌, ◌^◌, ◌≤◌, ◌<◌}
use mathlib.Core.Path.{◌≡◌, sym, ap, ◌∙◌}
use mathlib.Core.Bool.{Bool, true, false}
use mathlib.Core.List.{List, [], ◌∷◌, ◌++◌}
use native.Mathlib.Omega.{arith}
use lib.ListN.{length, length-append}
use native.Mathlib.Nat.{le_trans}
use mir.Syntax.{w64}
use mir.Val.{to_z}
use mir.ValLaws.{to_z_pos}
use borrow.Author.Tests.{eq-eqb, ne_eqb, le-leb, lt-leb}
use Rattle.std.proofs.lemmas.Bool.Decides.{nat_tests}
use Rattle.values.specs.Numbers.{all_digits, decimal_from}
use Rattle.script.specs.Timestamps.{Run, run, digit_run, fraction, unsigned, negative, no_finite, exponent, carried, time}
use Rattle.stamps.proofs.TimeLaws.{run_digits, fraction_digits, run_length, fraction_length, room_after, room_of}
use borrow.Author.Rules.{rules}
use Rattle.stamps.proofs.timestamps.time.Goals as goal
use Rattle.script.specs.declared.refusals.Reason.TheVariants.{NoF64, NotCarried}

decimal-append : (v : ℕ) (xs ys : List ℕ) → decimal_from v (xs ++ ys) ≡ decimal_from (decimal_from v xs) ys
unfolding decimal_from
decimal-append v [] ys = cc
decimal-append v (x ∷ xs) ys = decimal-append (v * 10 + (x - 0x30)) xs ys

module _ (u whole behind : List ℕ) (r : run whole behind ≡ digit_run u) where
  whole_digits : all_digits whole ≡ true
  whole_digits = ap (λ (x : Run). all_digits x.digits) r ∙ run_digits u

  whole_length : length whole + length behind ≡ length u
  whole_length = ap (λ (x : Run). length x.digits + length x.rest) r ∙ run_length u

module _ (behind decimals rest : List ℕ) (f : run decimals rest ≡ fraction behind) where
  decimal_digits : all_digits decimals ≡ true
  decimal_digits = ap (λ (x : Run). all_digits x.digits) f ∙ fraction_digits behind

  decimal_length : length decimals ≤ length behind
  decimal_length = rw (sym f) at (fraction_length behind)

-- there are at most 18 digits
module _ (whole decimals : List ℕ) (few : length whole + length decimals ≤ 18) where
  room : (0 + 1) * 10 ^ length whole ≤ 10 ^ 18
  room = room_of _ (omega arith)

  room-2 : all_digits whole ≡ true → (v : ℕ) → v ≡ decimal_from 0 whole → (v + 1) * 10 ^ length decimals ≤ 10 ^ 18
  room-2 d v e = rw e (le_trans (room_after whole 0 (length decimals) d) (room_of _ few))

module _ (s u : List ℕ) (a : u ≡ unsigned s) (b : Bool) (e : b ≡ no_finite u) where
  no_number : b ≡ true → Err NotCarried ≡ time s
  unfolding time
  no_number t = rw (← a, ← e, t)

  module _ (t : b ≡ false) (whole behind : List ℕ) (r : run whole behind ≡ digit_run u) (decimals rest : List ℕ) (f : run decimals rest ≡ fraction behind) where
    as-carried : time s ≡ carried (negative s) whole decimals rest
    unfolding time
    as-carried = rw (← a, ← e, t, ← r, ← f)

    counted : length whole + length decimals ≡ length (whole ++ decimals)
    counted = sym (length-append whole decimals)

    nothing : length whole + length decimals ≡ 0 → Err NoF64 ≡ time s
    unfolding carried
    nothing c = sym (as-carried ∙ rw (eq-eqb _ _ (sym counted ∙ c)))

    module _ (c : length whole + length decimals ≡ 0 → ⊥) where
      some-digit : length (whole ++ decimals) ≡ 0 → ⊥
      some-digit k = c (counted ∙ k)

      module _ (m : length rest ≡ 0 → ⊥) (x : Bool) (y : x ≡ exponent rest) where
        with-exponent : x ≡ true → Err NotCarried ≡ time s
        unfolding carried
        with-exponent k = sym (as-carried ∙ rw (ne_eqb _ _ some-digit, ne_eqb _ _ m, ← y, k))

        no_form : x ≡ false → Err NoF64 ≡ time s
        unfolding carried
        no_form k = sym (as-carried ∙ rw (ne_eqb _ _ some-digit, ne_eqb _ _ m, ← y, k))

      module _ (z : length rest ≡ 0) where
        too_many : 18 < length whole + length decimals → Err NotCarried ≡ time s
        unfolding carried
        too_many k =
            let l : 18 < length (whole ++ decimals) = omega (arith, counted) in
            sym (as-carried ∙ rw (ne_eqb _ _ some-digit, eq-eqb _ _ z, lt-leb _ _ l))

        module _ (few : length whole + length decimals ≤ 18) (v w : ℕ) (p : v ≡ decimal_from 0 whole) (q : w ≡ decimal_from v decimals) where
          all_read : (g : Bool) → g ≡ negative s → Ok (record { negative = g; digits = w; decimals = to_z w64 (length decimals) }) ≡ time s
          unfolding carried
          all_read g k =
              let l : length (whole ++ decimals) ≤ 18 = omega (arith, counted) in
              let j : w ≡ decimal_from 0 (whole ++ decimals) = q ∙ ap (λ (n : ℕ). decimal_from n decimals) p ∙ sym (decimal-append 0 whole decimals) in
              rw (k, j, to_z_pos w64 (length decimals) (omega arith))
              (sym (as-carried ∙ rw (ne_eqb _ _ some-digit, eq-eqb _ _ z, le-leb _ _ l)))

ruleset walk = (no_number, nothing, with-exponent, no_form, too_many, all_read, room, room-2, whole_digits, decimal_digits)

pub spelt-requires : goal.spelt-requires
spelt-requires c = search (rules, walk)

pub spelt-requires-2 : goal.spelt-requires-2
spelt-requires-2 c = search (rules, walk)

pub returns : goal.returns
returns c =
    let z : length c.fraction.result.1.now ≡ 0 = grind (arith, nat_tests) in
    all_read _ _ c.behind_sign-unsigned.ensures _ c.no_finite.ensures c.if-no_finite.false _ _ c.digit_run.ensures _ _ c.fraction.ensures
    c.if-count-eq0.false z (omega arith) _ _ c.spelt.ensures c.spelt-2.ensures _ c.is_negative.ensures
