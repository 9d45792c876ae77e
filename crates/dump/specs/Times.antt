-- What reading a text again and again answers. Assumes nothing.
use Rattle.std.specs.Prelude.{ℕ, zero, suc, List, Err, Ok}
use Rattle.script.specs.Reading.{read_into, Parsed}
use Rattle.script.specs.Refusals.{reason_number}
use Rattle.script.specs.declared.records.Counts.{Counts}

unfoldable pub refusal_number : {A : Type 0} → Parsed A → ℕ
refusal_number (Err r) = reason_number r.reason
refusal_number (Ok a) = 0

-- the tables that are lent each time
abbrev pub many_lent : Counts
many_lent = record { entries = 4096; items = 16384; expectations = 4096; store = 32768 }

-- the number of the last refusal, or 0
unfoldable pub last_number : (text : List ℕ) → (times : ℕ) → ℕ
last_number text zero = 0
last_number text (suc n) = refusal_number (read_into many_lent text)
