-- What an iterator over lines says: the lines that are left. Assumes nothing.
use Rattle.std.specs.Prelude.{ℕ, ◌+◌, ◌≤◌, Bool, true, false, List, [], ◌∷◌, drop}
use Rattle.std.specs.Borrow.{Bor}
use Rattle.text.specs.Lines.{lines_from, line_at}
use Rattle.text.specs.declared.lines.Line.{Line}
use Rattle.lines.specs.declared.lines.Lines.{Lines}

-- the lines that are left: those from the iterator's place on, the first of them called by its number
unfoldable pub left : Lines → List Line
left w = lines_from w.number w.at w.at w.at (drop w.at w.text.now)

-- whether there is one
unfoldable pub has_more : List Line → Bool
has_more [] = false
has_more (l ∷ ls) = true

-- before the first line of a text
abbrev pub begun : Bor (List ℕ) → Lines
begun text = record { text = text; at = 0; number = 1 }

-- no more lines are numbered than bytes are past
abbrev pub few : Lines → Type 0
few w = w.number ≤ w.at + 1

-- the line at the iterator's place, and the iterator past it
abbrev pub line_here : Lines → Line
line_here w = line_at w.text.now w.at w.number

abbrev pub past : Lines → Lines
past w = record { text = w.text; at = (line_here w).next; number = w.number + 1 }
