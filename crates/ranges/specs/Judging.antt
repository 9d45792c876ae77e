-- What only the code of Judge needs. Assumes nothing.
use Rattle.std.specs.Prelude.{ℕ, List, Result}
use Rattle.script.specs.declared.records.Refusal.{Refusal}
use Rattle.tallies.specs.declared.calls.Answer.{Answer}
use Rattle.ranges.specs.declared.steps.Step.{Step}
use Rattle.script.specs.declared.records.Entry.{Entry}
use Rattle.script.specs.declared.records.Expectation.{Expectation}
use Rattle.script.specs.declared.records.Script.{Script}
use Rattle.verdicts.specs.declared.handed.Handed.{Handed}
use Rattle.judging.specs.Calls.{Judging}
use Rattle.judging.specs.Judge.{Lent, JudgeState}

-- what a step answered, and what it left
abbrev pub stepped : Step → (verdicts : List ℕ) → Result Answer Refusal × JudgeState
stepped s verdicts = (s.answer, record { next = s.next; counts = s.counts; verdicts = verdicts })

-- what is lent to a judging to read
abbrev pub lent_of : (text : List ℕ) → Script → List Entry → List Expectation → Lent
lent_of text script entries expectations = record { text = text; script = script; entries = entries; expectations = expectations }

-- what it is asked
abbrev pub asked_of : (number : ℕ) → Handed → (bytes : List ℕ) → (lists : List (List ℕ)) → (scratch : ℕ) → Judging
asked_of number h bytes lists scratch = record { number = number; handed = h; bytes = bytes; lists = lists; scratch = scratch }
