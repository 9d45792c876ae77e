-- A number in decimal digits, with no zero in front. Assumes nothing.
use Rattle.std.specs.Prelude.{ℕ, zero, suc, ◌+◌, ◌/◌, ◌%◌, List, [], ◌∷◌, ◌++◌, ltb, if◌then◌else◌}

-- The digits of n in at most so many steps: the last digit stands behind the digits of the tenth.
unfoldable pub decimal_by : (steps n : ℕ) → List ℕ
decimal_by zero n = []
decimal_by (suc steps) n =
    let front = decimal_by steps (n / 10) in
    if ltb n 10 then (0x30 + n) ∷ [] else front ++ ((0x30 + n % 10) ∷ [])

-- a number has no more digits than steps down to it
unfoldable pub decimal : ℕ → List ℕ
decimal n = decimal_by (suc n) n
