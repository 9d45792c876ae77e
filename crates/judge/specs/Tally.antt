-- The tally beside the state that the definitions of Judge and Close speak of: its next number and counts. Assumes nothing.
use Rattle.std.specs.Prelude.{ℕ, List, Result}
use Rattle.tallies.specs.declared.calls.Answer.{Answer}
use Rattle.tallies.specs.Tally.{no_counts}
use Rattle.judging.specs.Judge.{JudgeState}
use Rattle.ranges.specs.declared.steps.Step.{Step}
use Rattle.script.specs.declared.records.Refusal.{Refusal}
use Rattle.judge.specs.declared.tally.Tally.{Tally}
use Rattle.judge.specs.declared.calls.Turn.{Turn}

-- where every list of calls begins
abbrev pub fresh_tally : Tally
fresh_tally = record { next = 0; counts = no_counts }

-- the state of a tally and a list of verdicts
abbrev pub state_of : Tally → (verdicts : List ℕ) → JudgeState
state_of t verdicts = record { next = t.next; counts = t.counts; verdicts = verdicts }

-- the tally of a state
abbrev pub tally_of : JudgeState → Tally
tally_of s = record { next = s.next; counts = s.counts }

-- what a call answered, and what it left
abbrev pub turned : Turn → (verdicts : List ℕ) → Result Answer Refusal × JudgeState
turned t verdicts = (t.answer, state_of t.tally verdicts)

-- what a judging answered, with the tally that it left
abbrev pub turn_of : Step → Turn
turn_of s = record { tally = record { next = s.next; counts = s.counts }; answer = s.answer }
