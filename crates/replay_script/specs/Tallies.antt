-- Every line is counted. Assumes nothing.
use Rattle.std.specs.Prelude.{ℕ, List, [], ◌∷◌}
use Rattle.text.specs.Lines.{lines, line_bytes}
use Rattle.text.specs.declared.lines.Line.{Line}
use Rattle.cases.specs.declared.Tally.{Tally}
use Rattle.cases.specs.Cases.{tally, counted}
use Rattle.replay_script.specs.Answers.{line_replayed}

-- every line is a case
unfoldable pub counted_on : (input : List ℕ) → List Line → Tally → Tally
counted_on input [] t = t
counted_on input (l ∷ ls) t = counted_on input ls (counted t (line_replayed (line_bytes input l)))

unfoldable pub all_counted : (input : List ℕ) → Tally
all_counted input = counted_on input (lines input) (tally 0 0 0 0 0)
