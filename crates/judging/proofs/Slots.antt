-- The laws of the counts of slots. Assumes nothing.
use Rattle.std.specs.Prelude.{None, Option, Some}
use mathlib.Core.Path.{◌≡◌, refl, sym, ap, ◌∙◌}
use mathlib.Core.Logic.{◌↔◌}
use mathlib.Core.Bool.{false}
use mathlib.Core.List.{List, [], ◌∷◌}
use Prim.Native.Nat.{ℕ, zero, suc, ◌+◌, ◌-◌, ◌≤◌}
use native.Mathlib.Omega.{arith}
use native.Mathlib.Numerals.{add-one}
use lib.ListN.{length, replicate}
use Rattle.verdicts.specs.declared.Verdict.{Verdict}
use Rattle.verdicts.specs.declared.Verdict.TheVariants.{Passed, Failed, Undecided}
use Rattle.tallies.specs.declared.tally.Outcome.TheVariants as Outcome
use Rattle.tallies.specs.Tally.{no_counts, added, added_all, outcome_of, over_limit}
use Rattle.tallies.proofs.Counting.{count, unit, count_added, within_limit, all_added, says-passed, outcome_passed}
use Rattle.judging.specs.Claim.{verdicts_in, counted}

-- ---- all passed

all_passed : (os : List (Option Verdict)) → (counted os).failed ≡ 0 → (counted os).undecided ≡ 0 → verdicts_in os ≡ replicate (counted os).passed Passed
unfolding counted verdicts_in
all_passed [] f u = refl
all_passed (None ∷ os) f u = all_passed os f u
all_passed (Some Passed ∷ os) f u = rw add-one (ap (λ (r : List Verdict). Passed ∷ r) (all_passed os f u))
all_passed (Some Failed ∷ os) f u = let z : ⊥ = omega arith in absurd z
all_passed (Some Undecided ∷ os) f u = let z : ⊥ = omega arith in absurd z

only-passed : (k : ℕ) → added_all (replicate k Passed) no_counts ≡ record { passed = k; failed = 0; undecided = 0 }
unfolding added_all
only-passed zero = refl
only-passed (suc k) = ap (added Passed) (only-passed k) ∙ rw (add-one k) refl

-- ---- the slots that are counted

-- a slot's part in a count
pub worth : Verdict → Option Verdict → ℕ
worth v None = 0
worth v (Some w) = unit v w

pub count_slot : (v : Verdict) (o : Option Verdict) (os : List (Option Verdict)) → (count v (counted (o ∷ os)) ≡ worth v o + count v (counted os)) × (worth v o ≤ 1)
unfolding worth counted
count_slot v None os = omega arith
count_slot v (Some w) os = count_added v w (counted os)

count_le : (v : Verdict) (os : List (Option Verdict)) → count v (counted os) ≤ length os
unfolding counted
count_le Passed [] = omega arith
count_le Failed [] = omega arith
count_le Undecided [] = omega arith
count_le v (o ∷ os) = omega (arith, count_slot v o os, count_le v os)

pub few_counted : (os : List (Option Verdict)) → length os ≤ 0x8000 → over_limit (counted os) ≡ false
few_counted os h = within_limit (counted os) (λ v. omega (arith, count_le v os))

-- a slot that stays as it was
pub slot_stays : (o : Option Verdict) (vs : List Verdict) (os ps : List (Option Verdict)) → counted os ≡ added_all vs (counted ps) → counted (o ∷ os) ≡ added_all vs (counted (o ∷ ps))
unfolding counted
slot_stays None vs os ps e = e
slot_stays (Some w) vs os ps e = ap (added w) e ∙ sym (all_added vs w (counted ps))

counted-given : (os : List (Option Verdict)) → counted os ≡ added_all (verdicts_in os) no_counts
unfolding counted verdicts_in added_all
counted-given [] = refl
counted-given (None ∷ os) = counted-given os
counted-given (Some v ∷ os) = ap (added v) (counted-given os)

pub passed_exactly : (os : List (Option Verdict)) → (outcome_of (counted os) ≡ Outcome.Passed) ↔ ((n : ℕ) × (verdicts_in os ≡ replicate (suc n) Passed))
passed_exactly os = (
  λ e. let w = outcome_passed (counted os) e in ((counted os).passed - 1, all_passed os w.0 w.1 ∙ ap (λ (k : ℕ). replicate k Passed) w.2),
  λ w.
      let c : counted os ≡ record { passed = suc w.0; failed = 0; undecided = 0 } = counted-given os ∙ ap (λ (vs : List Verdict). added_all vs no_counts) w.1 ∙ only-passed (suc w.0) in
      rw c (sym (says-passed (record { passed = suc w.0; failed = 0; undecided = 0 }) (omega arith) (omega arith) (λ h. omega arith))),
)
