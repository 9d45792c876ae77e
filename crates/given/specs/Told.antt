-- How a host is given the answer of Message: the number of a refusal or 0, the verdict's number, and how many bytes the message has; the two are 0 where
-- it is refused. Assumes nothing.
use Rattle.std.specs.Prelude.{ℕ, Result, Ok, Err}
use Rattle.script.specs.Refusals.{reason_number}
use Rattle.script.specs.declared.records.Refusal.{Refusal}
use Rattle.verdicts.specs.Verdicts.{code}
use Rattle.told.specs.declared.Told.{Told}

unfoldable pub refusal_of : Result Told Refusal → ℕ
refusal_of (Err r) = reason_number r.reason
refusal_of (Ok t) = 0

unfoldable pub verdict_of : Result Told Refusal → ℕ
verdict_of (Err r) = 0
verdict_of (Ok t) = code t.verdict

unfoldable pub length_of : Result Told Refusal → ℕ
length_of (Err r) = 0
length_of (Ok t) = t.len
