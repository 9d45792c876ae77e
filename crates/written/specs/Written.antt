-- What a lent table or slice holds once something is written into it. Assumes nothing.
use Rattle.std.specs.Prelude.{ℕ, ◌+◌, List, ◌++◌, length, take, drop}

-- a table once xs stand in it from `at` on; all else is as it was
unfoldable pub written_at : {A : Type 0} → (at : ℕ) → (xs table : List A) → List A
written_at at xs table = take at table ++ xs ++ drop (at + length xs) table
