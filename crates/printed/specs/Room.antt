-- How many bytes the code sets aside for what it prints: a number of the machine has at most 20 digits. Assumes nothing.
use Rattle.std.specs.Prelude.{ℕ, ◌≤◌, ◌≡◌, List, length, take}

-- `refused `, ` line ` and LF, with two numbers
abbrev pub refusal_room : ℕ
refusal_room = 55

-- `version ` and a dot, with two numbers
abbrev pub version_room : ℕ
version_room = 49

-- then ` handshake `, ` entries `, ` expects ` and LF, with three
abbrev pub header_room : ℕ
header_room = 139

-- three numbers, two blanks and LF
abbrev pub line_room : ℕ
line_room = 63

-- n bytes stand at the front of a slice. The second part follows from the first; with both, a caller lends that front with no proof.
abbrev pub Front : ℕ → List ℕ → Type 0
Front n out = (n ≤ length out) × (n ≡ length (take n out))
