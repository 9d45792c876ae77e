-- Document 01, "Lines and words": numbers are as Rust's `parse`: digits, at least one, in range; `+` allowed; `-` only for i64.
-- Assumes nothing.
use Rattle.std.specs.Prelude.{ℕ, zero, suc, ◌+◌, ◌-◌, ◌*◌, ◌^◌, Bool, true, List, [], ◌∷◌, eqb, ltb, ℤ, pos, negsuc, if◌then◌else◌, None, Option, Some, option_map}
use Rattle.text.specs.Base.{◌&◌, within, PLUS, MINUS}

-- every byte is one of the digits 0 to 9
unfoldable pub all_digits : List ℕ → Bool
all_digits [] = true
all_digits (x ∷ rest) = within 0x30 0x39 x & all_digits rest

-- the number that digits spell, after those that spelled v
unfoldable pub decimal_from : ℕ → List ℕ → ℕ
decimal_from v [] = v
decimal_from v (x ∷ rest) = decimal_from (v * 10 + (x - 0x30)) rest

-- digits, at least one, that spell a number below the limit
unfoldable pub digits : (limit : ℕ) → List ℕ → Option ℕ
digits limit [] = None
digits limit (x ∷ rest) =
    let v = decimal_from 0 (x ∷ rest) in
    if all_digits (x ∷ rest) & ltb v limit then Some v else None

-- an unsigned number below the limit, `+` allowed
unfoldable pub number : (limit : ℕ) → List ℕ → Option ℕ
number limit [] = None
number limit (x ∷ rest) = if eqb x PLUS then digits limit rest else digits limit (x ∷ rest)

-- minus n
unfoldable pub minus : ℕ → ℤ
minus zero = pos zero
minus (suc n) = negsuc n

-- an i64: from minus 2 ^ 63 to 2 ^ 63 - 1, `-` allowed as well
unfoldable pub signed : List ℕ → Option ℤ
signed [] = None
signed (x ∷ rest) =
    if eqb x MINUS then option_map minus (digits (2 ^ 63 + 1) rest) else option_map pos (number (2 ^ 63) (x ∷ rest))
