-- Document 01, "Lines and words": lines. Assumes nothing.
use Rattle.std.specs.Prelude.{ℕ, ◌+◌, ◌-◌, Bool, List, [], ◌∷◌, eqb, length, drop, if◌then◌else◌}
use Rattle.text.specs.Base.{◌or◌, part, LF, CR}
use Rattle.text.specs.Literal.{utf8}
use Rattle.text.specs.Parts.{starts_with}
use Rattle.text.specs.Trim.{trimmed}
use Rattle.text.specs.declared.lines.Line.{Line}

-- a line by its number; its bytes stand from start up to, not including, end; the next line begins at next
abbrev pub line : (number start end next : ℕ) → Line
line number start end next = record { number = number; start = start; end = end; next = next }

-- Lines end at LF; a CR just before it belongs to the ending; text after the last LF is a line if not empty.
-- A walk over the text: the line at hand began at start, `at` is the place of the first byte of `rest`, and `end` is where the line ends if an LF comes next.
unfoldable pub lines_from : (number start at end : ℕ) → List ℕ → List Line
lines_from number start at end [] = if eqb start at then [] else (line number start at at ∷ [])
lines_from number start at end (x ∷ rest) =
    let ended = line number start end (at + 1) ∷ lines_from (number + 1) (at + 1) (at + 1) (at + 1) rest in
    let longer = lines_from number start (at + 1) (if eqb x CR then at else at + 1) rest in
    if eqb x LF then ended else longer

-- Lines count from 1.
unfoldable pub lines : List ℕ → List Line
lines text = lines_from 1 0 0 0 text

-- The line that begins at `at`: the first of those from there on; at the end of the text, or past it, one with no bytes.
unfoldable pub line_from : (number start at end : ℕ) → List ℕ → Line
line_from number start at end [] = line number start at at
line_from number start at end (x ∷ rest) =
    let longer = line_from number start (at + 1) (if eqb x CR then at else at + 1) rest in
    if eqb x LF then line number start end (at + 1) else longer

unfoldable pub line_at : List ℕ → (at number : ℕ) → Line
line_at text at number = line_from number at at at (drop at text)

-- the bytes of a line
abbrev pub line_bytes : List ℕ → Line → List ℕ
line_bytes text l = part text l.start (l.end - l.start)

-- Indented means: begins with two spaces or a tab.
unfoldable pub indented : List ℕ → Bool
indented s = starts_with (utf8 "  ") s or starts_with (utf8 "\t") s

-- how many bytes some lines have once each is trimmed
unfoldable pub trimmed_length : List ℕ → List Line → ℕ
trimmed_length text [] = 0
trimmed_length text (l ∷ ls) = length (trimmed (line_bytes text l)) + trimmed_length text ls
