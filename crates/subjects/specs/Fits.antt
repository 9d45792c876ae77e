-- Whether a value has a place in a scratch. Assumes nothing.
use Rattle.std.specs.Prelude.{ℕ, Bool, List, length, leb, Option}
use Rattle.verdicts.specs.Lookup.{present_bytes}

-- a value, unless it is missing, has a place in so much room
unfoldable pub fits : (room : ℕ) → Option (List ℕ) → Bool
fits room value = leb (length (present_bytes value)) room
