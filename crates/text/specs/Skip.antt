-- What only the code that looks for a byte needs (src/skip.rt). Assumes nothing.
use Rattle.std.specs.Prelude.{ℕ, ◌≤◌, ◌<◌, ◌≡◌, List, eqb, get_or, if◌then◌else◌}

-- b does not stand from i up to, not including, j
unfoldable pub Without : (b : ℕ) → List ℕ → (i j : ℕ) → Type 0
Without b s i j = (k : ℕ) → i ≤ k → k < j → get_or s k 0 ≡ b → ⊥

-- 1 for the byte b, 0 for any other
abbrev pub one_if : (b x : ℕ) → ℕ
one_if b x = if eqb x b then 1 else 0
