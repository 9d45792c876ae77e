-- A list of calls as a host hands it over, in rows of 22 numbers: the kind (0 close, 1 handshake, any other an entry), the number, how many bytes of the
-- scratch the call is lent, and from 3 on the row of the handshake's information or of the response (crates/rows). Its texts stand in the lent bytes, its
-- lists in the lent table. Assumes nothing.
use Rattle.std.specs.Prelude.{ℕ, List, map, drop, eqb, if◌then◌else◌, Err, Ok, Result}
use Rattle.script.specs.Refusals.{reason_number}
use Rattle.script.specs.declared.records.Refusal.{Refusal}
use Rattle.told.specs.Told.{counted}
use Rattle.rows.specs.Rows.{at, info_row, response_row}
use Rattle.tallies.specs.declared.tally.Outcome.{Outcome}
use Rattle.tallies.specs.declared.tally.Outcome.TheVariants.{Failed, Undecided, NothingChecked, Passed}
use Rattle.verdicts.specs.declared.handed.Handed.{Handed}
use Rattle.verdicts.specs.declared.handed.Handed.TheVariants.{Info, Response}
use Rattle.tallies.specs.declared.calls.Answer.{Answer}
use Rattle.tallies.specs.declared.calls.Answer.TheVariants.{Judged, Closed}
use Rattle.judging.specs.Calls.{Judging, Call, judge, close}

-- ---- a call

-- what is handed over: the handshake's information, or a response
unfoldable pub handed_of : (kind : ℕ) → (row : List ℕ) → Handed
handed_of kind row = if eqb kind 1 then Info (info_row row) else Response (response_row row)

module _ (bytes : List ℕ) (lists : List (List ℕ)) where
  -- what Judge is given, where the row's kind is no close
  unfoldable pub judging_of : (number scratch : ℕ) → Handed → Judging
  judging_of number scratch handed = record { number = number; handed = handed; bytes = bytes; lists = counted lists; scratch = scratch }

  -- the call that a row stands for
  unfoldable pub call_of : (row : List ℕ) → Call
  call_of row = if eqb (at row 0) 0 then close else judge (judging_of (at row 1) (at row 2) (handed_of (at row 0) (drop 3 row)))

  -- and the list of calls
  unfoldable pub calls_of : (rows : List (List ℕ)) → List Call
  calls_of rows = map call_of rows

-- ---- an answer: the number of a refusal's reason, 0 for judged, above 100 what closing says

-- what closing says
unfoldable pub outcome_code : Outcome → ℕ
outcome_code Passed = 101
outcome_code Failed = 102
outcome_code Undecided = 103
outcome_code NothingChecked = 104

-- an answer
unfoldable pub answer_code : Result Answer Refusal → ℕ
answer_code (Err r) = reason_number r.reason
answer_code (Ok Judged) = 0
answer_code (Ok (Closed o)) = outcome_code o
