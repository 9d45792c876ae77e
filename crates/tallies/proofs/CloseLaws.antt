-- What Close answers, test by test. Assumes nothing.
use Rattle.std.specs.Prelude.{Err, Ok, Option}
use mathlib.Core.Path.{◌≡◌, sym, ap, ◌∙◌}
use mathlib.Core.Logic.{◌≢◌}
use mathlib.Core.Bool.{true, false}
use Prim.Native.Nat.{ℕ, ◌+◌}
use borrow.Author.Tests.{eq-eqb, ne_eqb}
use Rattle.script.specs.declared.records.Refusal.{Refusal}
use Rattle.script.specs.Refusals.{refusal}
use Rattle.script.specs.declared.refusals.Reason.TheVariants.{CountTooHigh, NotAllJudged}
use Rattle.tallies.specs.declared.tally.Counts.{Counts}
use Rattle.tallies.specs.declared.calls.Answer.TheVariants.{Closed}
use Rattle.tallies.specs.Tally.{outcome_of, over_limit}
use Rattle.tallies.specs.Answers.{closed_or, close_refusal, close_answer}
use Rattle.tallies.proofs.Refusals.{no_test, hit, pass}

module _ (next : ℕ) (counts : Counts) (entries : ℕ) where
  pub close-count_too_high : over_limit counts ≡ true → Err (refusal CountTooHigh 0) ≡ close_answer next counts entries
  unfolding close_answer close_refusal closed_or
  close-count_too_high e = rw e (sym (ap (λ (o : Option Refusal). closed_or o (outcome_of counts)) (hit CountTooHigh _)))

  module _ (few : over_limit counts ≡ false) where
    pub close-not_all_judged : next ≢ entries + 1 → Err (refusal NotAllJudged 0) ≡ close_answer next counts entries
    unfolding close_answer close_refusal closed_or
    close-not_all_judged h = rw (few, ne_eqb next (entries + 1) h) (sym (ap (λ (o : Option Refusal). closed_or o (outcome_of counts)) (pass CountTooHigh _ ∙ hit NotAllJudged _)))

    pub close-says : next ≡ entries + 1 → Ok (Closed (outcome_of counts)) ≡ close_answer next counts entries
    unfolding close_answer close_refusal closed_or
    close-says h = rw (few, eq-eqb next (entries + 1) h) (sym (ap (λ (o : Option Refusal). closed_or o (outcome_of counts)) (pass CountTooHigh _ ∙ pass NotAllJudged _ ∙ no_test)))

pub ruleset close_laws = (close-count_too_high, close-not_all_judged, close-says)
