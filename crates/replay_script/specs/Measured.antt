-- Whether Measure answers what is stored. On a line, behind the word `measure`: the refusal's number or 0, its line, entries, items, expectations, store
-- bytes; and the text in hex. Assumes nothing.
use Rattle.std.specs.Prelude.{ℕ, List, eqb, get_or, drop, if◌then◌else◌, None, Option, Some}
use Rattle.text.specs.Trim.{trimmed}
use Rattle.script.specs.Reading.{measured, Parsed}
use Rattle.script.specs.declared.records.Counts.{Counts}
use Rattle.fields.specs.Fields.{after, numbers_at, hex_for}
use Rattle.cases.specs.Answers.{answer, matched}
use Rattle.cases.specs.declared.Answer.{Answer}
use Rattle.cases.specs.declared.Case.{Case}
use Rattle.cases.specs.declared.Case.TheVariants.{Read, Refused, Wrong}

-- a case that agrees counts as what it is, a text that is read or one that is refused
unfoldable pub replayed : Parsed Counts → Answer → Case
replayed p stored =
    if matched p stored then (if eqb stored.number 0 then Read else Refused) else Wrong

unfoldable pub replayed_text : Option (List ℕ) → Answer → Case
replayed_text None stored = Wrong
replayed_text (Some text) stored = replayed (measured text) stored

-- the six numbers of a line
abbrev pub answer_by : List ℕ → Answer
answer_by n = answer (get_or n 0 0) (get_or n 1 0) (get_or n 2 0) (get_or n 3 0) (get_or n 4 0) (get_or n 5 0)

-- a text in hex, of at most so many bytes
unfoldable pub hex_replayed : (most : ℕ) → (hex : List ℕ) → Answer → Case
hex_replayed most hex stored = replayed_text (hex_for most hex) stored

-- what follows the word `measure`: six numbers, and the rest of the line is the text, of at most 1,024 bytes
unfoldable pub measure_replayed : (line : List ℕ) → (at : ℕ) → Case
measure_replayed line at = after (numbers_at 6 line at) Wrong (λ n end. hex_replayed 1024 (trimmed (drop end line)) (answer_by n))
