-- What a run answers that reads into tables of its own. Assumes nothing.
use Rattle.std.specs.Prelude.{ℕ, List}
use Rattle.script.specs.Reading.{read_into}
use Rattle.read.specs.Read.{script_or}
use Rattle.calls.specs.CallRows.{calls_of}
use Rattle.blanks.specs.Own.{own_tables}
use Rattle.ran.specs.Ran.{Ran, plain_left, ran_of}

-- of a text, rows of calls, what they hand over, the verdict list, and how many bytes of scratch and places for answers are lent
unfoldable pub ran_alone : (text : List ℕ) → (rows : List (List ℕ)) → (bytes : List ℕ) → (lists : List (List ℕ)) → (verdicts : List ℕ) → (scratch answers : ℕ) → Ran
ran_alone text rows bytes lists verdicts scratch answers =
    ran_of answers scratch rows (script_or (read_into own_tables text)) (plain_left text verdicts (calls_of bytes lists rows))
