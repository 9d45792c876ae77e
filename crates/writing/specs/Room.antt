-- How many bytes the code sets aside for a number, and what is left of a room. Assumes nothing.
use Rattle.std.specs.Prelude.{ℕ, ◌-◌, leb, if◌then◌else◌, None, Option, Some}

-- a number of the machine has at most 20 digits
abbrev pub number_room : ℕ
number_room = 20

-- and one with a sign a byte more
abbrev pub integer_room : ℕ
integer_room = 21

-- what is left of a room once n bytes stand in it
unfoldable pub left : (room n : ℕ) → Option ℕ
left room n = if leb n room then Some (room - n) else None

-- and once n more do
unfoldable pub less_by : Option ℕ → (n : ℕ) → Option ℕ
less_by (Some k) n = left k n
less_by None n = None
