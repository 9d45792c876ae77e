-- What a line of the sample comes to. Assumes nothing.
use Rattle.std.specs.Prelude.{ℕ, List, if◌then◌else◌}
use Rattle.text.specs.Literal.{spells}
use Rattle.text.specs.Words.{word_at}
use Rattle.fields.specs.Fields.{word_bytes}
use Rattle.cases.specs.declared.Case.{Case}
use Rattle.cases.specs.declared.Case.TheVariants.{Dumped, Judged, Wrong}
use Rattle.replay_script.specs.Measured.{measure_replayed}
use Rattle.replay_script.specs.Dumped.{agreed}
use Rattle.replay_script.specs.Judged as Judged

-- what follows the word `read`
unfoldable pub read_replayed : (line : List ℕ) → (at : ℕ) → Case
read_replayed line at = if agreed line at then Dumped else Wrong

-- what follows the word `judged`
unfoldable pub judged_replayed : (line : List ℕ) → (at : ℕ) → Case
judged_replayed line at = if Judged.agreed line at then Judged else Wrong

-- a line by its first word; one with another word is wrong
unfoldable pub line_replayed : (line : List ℕ) → Case
line_replayed line =
    let w = word_at line 0 in
    if spells "measure" (word_bytes line w) then measure_replayed line w.end
    else if spells "read" (word_bytes line w) then read_replayed line w.end
    else if spells "judged" (word_bytes line w) then judged_replayed line w.end
    else Wrong
