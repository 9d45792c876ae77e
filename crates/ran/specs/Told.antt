-- What a host is given of a run. Assumes nothing.
use Rattle.std.specs.Prelude.{ℕ, Err, Ok}
use Rattle.judge.specs.declared.tally.Tally.{Tally}
use Rattle.judge.specs.Tally.{fresh_tally}
use Rattle.script.specs.Refusals.{reason_number}
use Rattle.ran.specs.Ran.{Ran}
use Rattle.ran.specs.declared.RunError.TheVariants.{FewAnswers, MuchScratch, Refused}

-- 0 where it is done, the number of Read's refusal, or one beyond all refusals
unfoldable pub status_of : Ran → ℕ
status_of (Err FewAnswers) = 201
status_of (Err MuchScratch) = 202
status_of (Err (Refused r)) = reason_number r.reason
status_of (Ok t) = 0

-- the line of Read's refusal, else 0
unfoldable pub ran_line : Ran → ℕ
ran_line (Err FewAnswers) = 0
ran_line (Err MuchScratch) = 0
ran_line (Err (Refused r)) = r.line
ran_line (Ok t) = 0

-- the tally; a fresh one, whose numbers are 0, where the run is not done
unfoldable pub ran_tally : Ran → Tally
ran_tally (Err e) = fresh_tally
ran_tally (Ok t) = t
