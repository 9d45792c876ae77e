-- How a host is given the answer of Measure: the number of a refusal or 0, its line or 0, and the counts, which are 0 where the text is refused.
-- Assumes nothing.
use Rattle.std.specs.Prelude.{ℕ, Err, Ok}
use Rattle.script.specs.declared.records.Counts.{Counts}
use Rattle.measuring.specs.Measure.{zeros}
use Rattle.script.specs.Reading.{Parsed}
use Rattle.script.specs.Refusals.{reason_number}

unfoldable pub refused_as : {A : Type 0} → Parsed A → ℕ
refused_as (Err r) = reason_number r.reason
refused_as (Ok a) = 0

unfoldable pub line_of : {A : Type 0} → Parsed A → ℕ
line_of (Err r) = r.line
line_of (Ok a) = 0

unfoldable pub counts_or : Parsed Counts → Counts
counts_or (Err r) = zeros
counts_or (Ok t) = t
