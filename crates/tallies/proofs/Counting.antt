-- The laws of the counts of verdicts. Assumes nothing.
use mathlib.Core.Path.{◌≡◌, refl, ap, ◌∙◌}
use mathlib.Core.Bool.{Bool, true, false}
use mathlib.Core.List.{List, [], ◌∷◌}
use Prim.Native.Nat.{ℕ, suc, ◌+◌, ◌-◌, ◌≤◌}
use native.Mathlib.Omega.{arith}
use lib.Dec.{ltb, eqb}
use borrow.Author.Tests.{le-ltb, ne_eqb, ltb-false, eqb-false}
use Rattle.std.specs.Prelude.{if◌then◌else◌}
use Rattle.verdicts.specs.declared.Verdict.{Verdict}
use Rattle.verdicts.specs.declared.Verdict.TheVariants.{Passed, Failed, Undecided}
use Rattle.tallies.specs.declared.tally.Counts.{Counts}
use Rattle.tallies.specs.declared.tally.Outcome.{Outcome}
use Rattle.tallies.specs.Tally.{no_counts, added, added_all, outcome_of, over_limit}

-- ---- kind by kind

-- the count of a kind
abbrev pub count : Verdict → Counts → ℕ
count Passed c = c.passed
count Failed c = c.failed
count Undecided c = c.undecided

counts_same : (c d : Counts) → ((v : Verdict) → count v c ≡ count v d) → c ≡ d
counts_same c d e = λ i. record { passed = e Passed i; failed = e Failed i; undecided = e Undecided i }

-- 1 where the kinds are the same, and else 0
pub unit : Verdict → Verdict → ℕ
unit v w = count v (added w no_counts)

pub count_added : (v w : Verdict) (c : Counts) → (count v (added w c) ≡ unit v w + count v c) × (unit v w ≤ 1)
unfolding unit
count_added Passed Passed c = omega arith
count_added Passed Failed c = omega arith
count_added Passed Undecided c = omega arith
count_added Failed Passed c = omega arith
count_added Failed Failed c = omega arith
count_added Failed Undecided c = omega arith
count_added Undecided Passed c = omega arith
count_added Undecided Failed c = omega arith
count_added Undecided Undecided c = omega arith

-- no count goes up by more than 1
pub count_most : (v : Verdict) (c : Counts) → ((added v c).passed ≤ c.passed + 1) × ((added v c).failed ≤ c.failed + 1) × ((added v c).undecided ≤ c.undecided + 1)
count_most Passed c = (omega arith, omega arith, omega arith)
count_most Failed c = (omega arith, omega arith, omega arith)
count_most Undecided c = (omega arith, omega arith, omega arith)

-- ---- the limit

pub over_last : (c : Counts) → c.passed ≤ 0x8000 → c.failed ≤ 0x8000 → over_limit c ≡ ltb 0x8000 c.undecided
unfolding over_limit
over_last c f g = rw (le-ltb 0x8000 c.passed f, le-ltb 0x8000 c.failed g)

pub over_none : (c : Counts) → c.passed ≤ 0x8000 → c.failed ≤ 0x8000 → c.undecided ≤ 0x8000 → over_limit c ≡ false
over_none c f g h = over_last c f g ∙ le-ltb 0x8000 c.undecided h

pub within_limit : (c : Counts) → ((v : Verdict) → count v c ≤ 0x8000) → over_limit c ≡ false
within_limit c h = over_none c (h Passed) (h Failed) (h Undecided)

-- ---- what closing says

module _ (c : Counts) (none-failed : c.failed ≤ 0) where
  pub says-passed : c.undecided ≤ 0 → (c.passed ≡ 0 → ⊥) → Outcome.Passed ≡ outcome_of c
  unfolding outcome_of
  says-passed g h = rw (le-ltb 0 c.failed none-failed, le-ltb 0 c.undecided g, ne_eqb c.passed 0 h)

pub outcome_passed : (c : Counts) → outcome_of c ≡ Outcome.Passed → (c.failed ≡ 0) × (c.undecided ≡ 0) × (c.passed ≡ suc (c.passed - 1))
unfolding outcome_of
outcome_passed c e = go (ltb 0 c.failed) (ltb 0 c.undecided) (eqb c.passed 0) refl refl refl e
  where
    go : (f u p : Bool) → ltb 0 c.failed ≡ f → ltb 0 c.undecided ≡ u → eqb c.passed 0 ≡ p
        → (if f then Outcome.Failed else if u then Outcome.Undecided else if p then Outcome.NothingChecked else Outcome.Passed) ≡ Outcome.Passed
        → (c.failed ≡ 0) × (c.undecided ≡ 0) × (c.passed ≡ suc (c.passed - 1))
    go true u p x y z w = (cc, cc, cc)
    go false true p x y z w = (cc, cc, cc)
    go false false true x y z w = (cc, cc, cc)
    go false false false x y z w = (
      omega (arith, ltb-false 0 c.failed x),
      omega (arith, ltb-false 0 c.undecided y),
      let q : c.passed ≡ 0 → ⊥ = eqb-false c.passed 0 z in omega arith,
    )

-- ---- in any order

pub all_added : (vs : List Verdict) (w : Verdict) (c : Counts) → added_all vs (added w c) ≡ added w (added_all vs c)
unfolding added_all
all_added [] w c = refl
all_added (v ∷ vs) w c = ap (added v) (all_added vs w c) ∙ swap v w (added_all vs c)
  where
    swap : (v w : Verdict) (c : Counts) → added v (added w c) ≡ added w (added v c)
    swap v w c = counts_same _ _ (λ x. omega (arith, count_added x v (added w c), count_added x w c, count_added x w (added v c), count_added x v c))
