-- A script read and judged by a list of calls: what the plain judge of demand 3, which sees the text alone, leaves, and what is answered. Assumes nothing.
use Rattle.std.specs.Prelude.{ℕ, List, length, ltb, if◌then◌else◌, Result, Err, Ok}
use Rattle.script.specs.declared.records.Script.{Script}
use Rattle.judge.specs.Tally.{tally_of}
use Rattle.judge.specs.declared.tally.Tally.{Tally}
use Rattle.judging.specs.Calls.{Call}
use Rattle.judging.specs.Judge.{JudgeState}
use Rattle.judging.specs.PlainJudge.{plain_run}
use Rattle.judging.specs.Claim.{state_over}
use Rattle.asking.specs.Asking.{asks_more}
use Rattle.script.specs.Reading.{Parsed}
use Rattle.ran.specs.declared.RunError.{RunError}
use Rattle.ran.specs.declared.RunError.TheVariants.{FewAnswers, MuchScratch, Refused}

-- what a run answers: why it is not done, or the tally that is left
abbrev pub Ran : Type 0
Ran = Result Tally RunError

-- what the plain judge leaves: its tally, and the verdict list that held `verdicts` before the first call
abbrev pub plain_left : (text verdicts : List ℕ) → List Call → JudgeState
plain_left text verdicts calls = state_over verdicts (plain_run text (length verdicts) calls).1

-- what Read refuses, or that all is done
unfoldable pub ran_as : Parsed Script → JudgeState → Ran
ran_as (Err r) left = Err (Refused r)
ran_as (Ok s) left = Ok (tally_of left)

-- too few places for the answers; else a call that asks for more of the scratch than is lent; else what Read refuses; else done, with the tally that is left
unfoldable pub ran_of : (slots lent : ℕ) → (rows : List (List ℕ)) → Parsed Script → (left : JudgeState) → Ran
ran_of slots lent rows p left = if ltb slots (length rows) then Err FewAnswers else if asks_more lent rows then Err MuchScratch else ran_as p left

-- what is lent stays as it was unless all is done
unfoldable pub if_done : {A : Type 0} → Ran → (after before : A) → A
if_done (Err e) after before = before
if_done (Ok t) after before = after
