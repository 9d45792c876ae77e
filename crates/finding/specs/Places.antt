-- What only the code that looks for a pattern, many places at a time, needs. Assumes nothing.
use Rattle.std.specs.Prelude.{ℕ, ◌+◌, ◌≤◌, ◌<◌, ◌≡◌, List, eqb, get_or, if◌then◌else◌}
use Rattle.text.specs.Base.{◌&◌}

-- At no place from i up to, not including, j stands the first byte with the last one `reach` bytes behind it.
unfoldable pub Apart : (first last reach : ℕ) → List ℕ → (i j : ℕ) → Type 0
Apart first last reach s i j = (k : ℕ) → i ≤ k → k < j → get_or s k 0 ≡ first → get_or s (k + reach) 0 ≡ last → ⊥

-- 1 where both bytes are the ones that are looked for, else 0
abbrev pub one_if_both : (first last x y : ℕ) → ℕ
one_if_both first last x y = if eqb x first & eqb y last then 1 else 0
