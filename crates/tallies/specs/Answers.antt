-- The refusals of a call, of which the first that applies counts; and what Close answers. Assumes nothing.
use Rattle.std.specs.Prelude.{ℕ, ◌+◌, Bool, not, List, [], ◌∷◌, eqb, if◌then◌else◌, Option, None, Some, Result, Ok, Err}
use Rattle.script.specs.declared.records.Refusal.{Refusal}
use Rattle.script.specs.Refusals.{refusal}
use Rattle.script.specs.declared.refusals.Reason.{Reason}
use Rattle.script.specs.declared.refusals.Reason.TheVariants.{CountTooHigh, NotAllJudged}
use Rattle.tallies.specs.declared.tally.Counts.{Counts}
use Rattle.tallies.specs.declared.tally.Outcome.{Outcome}
use Rattle.tallies.specs.declared.calls.Answer.{Answer}
use Rattle.tallies.specs.declared.calls.Answer.TheVariants.{Closed}
use Rattle.tallies.specs.Tally.{outcome_of, over_limit}

-- a refusal of a call has line 0
unfoldable pub refused_if : Reason → (applies : Bool) → Option Refusal
refused_if reason applies = if applies then Some (refusal reason 0) else None

-- the first that applies
unfoldable pub first_refusal : List (Option Refusal) → Option Refusal
first_refusal [] = None
first_refusal (None ∷ later) = first_refusal later
first_refusal (Some r ∷ later) = Some r

-- ---- Close

unfoldable pub closed_or : Option Refusal → Outcome → Result Answer Refusal
closed_or None o = Ok (Closed o)
closed_or (Some r) o = Err r

-- a count above the limit, then a next number that is not the count of entries plus 1
unfoldable pub close_refusal : (next : ℕ) → Counts → (entries : ℕ) → Option Refusal
close_refusal next counts entries = first_refusal (refused_if CountTooHigh (over_limit counts) ∷ refused_if NotAllJudged (not (eqb next (entries + 1))) ∷ [])

-- Close: its answer; it changes nothing
unfoldable pub close_answer : (next : ℕ) → Counts → (entries : ℕ) → Result Answer Refusal
close_answer next counts entries = closed_or (close_refusal next counts entries) (outcome_of counts)
