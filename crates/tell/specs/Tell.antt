-- Document 01, *Message*: which expectation of the lent table is judged. Its place counts from 0. Assumes nothing.
use Rattle.std.specs.Prelude.{ℕ, Bool, List, length, get_or, ltb}
use Rattle.text.specs.Base.{◌&◌}
use Rattle.script.specs.Reading.{room}
use Rattle.script.specs.declared.records.Expect.{Expect}
use Rattle.script.specs.declared.records.Expectation.{Expectation}
use Rattle.slots.specs.Blank.{blank_expectation}

-- an expectation counts at that place: only the first 32,768 records of the table do, and only as many as the script has
unfoldable pub placed : List Expectation → (count at : ℕ) → Bool
placed table count at = ltb at (room (length table)) & ltb at count

-- what the expectation at that place expects
unfoldable pub expect_at : List Expectation → ℕ → Expect
expect_at table at = (get_or table at blank_expectation).expect
