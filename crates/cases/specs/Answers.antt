-- What a stored answer of the Rust to Measure is compared with. Assumes nothing.
use Rattle.std.specs.Prelude.{ℕ, Bool, eqb, Err, Ok}
use Rattle.text.specs.Base.{◌&◌}
use Rattle.script.specs.Refusals.{reason_number}
use Rattle.script.specs.declared.records.Counts.{Counts}
use Rattle.cases.specs.declared.Answer.{Answer}
use Rattle.script.specs.Reading.{Parsed}

abbrev pub answer : (number line entries items expectations store : ℕ) → Answer
answer number line entries items expectations store =
    record { number = number; line = line; entries = entries; items = items; expectations = expectations; store = store }

-- an answer in the numbers of a line: those of a refusal and no counts, or no refusal and the counts
unfoldable pub answer_of : Parsed Counts → Answer
answer_of (Err r) = answer (reason_number r.reason) r.line 0 0 0 0
answer_of (Ok t) = answer 0 0 t.entries t.items t.expectations t.store

-- all six numbers are equal
unfoldable pub same_answer : Answer → Answer → Bool
same_answer a b =
    eqb a.number b.number
    & eqb a.line b.line
    & eqb a.entries b.entries
    & eqb a.items b.items
    & eqb a.expectations b.expectations
    & eqb a.store b.store

-- Measure answered what is stored
abbrev pub matched : Parsed Counts → Answer → Bool
matched p stored = same_answer (answer_of p) stored
