-- What only the code of Message needs. Assumes nothing.
use Rattle.std.specs.Prelude.{ℕ, List, if◌then◌else◌, None, Option, Some}
use Rattle.script.specs.declared.records.Expectation.{Expectation}
use Rattle.tell.specs.Tell.{placed, expect_at}
use Rattle.script.specs.declared.records.Expect.{Expect}

unfoldable pub picked_at : List Expectation → (count at : ℕ) → Option Expect
picked_at table count at = if placed table count at then Some (expect_at table at) else None
