-- The dump of Read on a line: its numbers as words, and the bytes of the store apart. Assumes nothing.
use Rattle.std.specs.Prelude.{ℕ, ◌^◌, Bool, false, List, [], ◌∷◌, drop, None, Option, Some}
use Rattle.text.specs.Base.{◌&◌}
use Rattle.text.specs.Parts.{same_bytes, starts_with}
use Rattle.text.specs.declared.parts.Span.{Span}
use Rattle.values.specs.Numbers.{number}
use Rattle.numbers.specs.Numbers.{bytes_of}
use Rattle.fields.specs.Fields.{word_bytes}

-- a number stands at the front, in its 8 bytes
unfoldable pub in_front : Option ℕ → (found : List ℕ) → Bool
in_front None found = false
in_front (Some n) found = starts_with (bytes_of n) found

-- the numbers that the words spell are found one after another, and behind them the bytes of the store and nothing else
unfoldable pub is_dump : (line : List ℕ) → List Span → (store found : List ℕ) → Bool
is_dump line [] store found = same_bytes found store
is_dump line (w ∷ ws) store found = in_front (number (2 ^ 64) (word_bytes line w)) found & is_dump line ws store (drop 8 found)
