-- What an expectation says, its texts as bytes. Assumes nothing.
use Rattle.std.specs.Prelude.{ℕ, List, ℤ}

-- how a value is compared
pub data Matching : Type 0 where
  exact regex : List ℕ → Matching
  greater_than less_than greater_or_equal less_or_equal : ℤ → Matching

-- what is expected: the name of the last message, with no matcher; a result, or a field of it; an error's message; the count of messages; what the
-- handshake told
pub data Expected : Type 0 where
  terminal : List ℕ → Expected
  result : Matching → Expected
  result_field : (field : List ℕ) → Matching → Expected
  error stderr_count daemon trust server_features : Matching → Expected
