-- A range that lies inside. Assumes nothing.
use Prim.Native.Nat.{ℕ, ◌+◌, ◌-◌, ◌≤◌}
use mathlib.Core.Path.{◌≡◌}
use mathlib.Core.Bool.{true}
use native.Mathlib.Omega.{arith}
use lib.Dec.{leb}
use borrow.Author.Tests.{leb-true}
use Rattle.text.proofs.Scan as Scan
use Rattle.script.specs.Reading.{room}
use Rattle.verdicts.specs.Held.{inside}

-- a range inside the records that count ends inside the table
pub in_table : (size first count : ℕ) → inside (room size) first count ≡ true → first + count ≤ size
unfolding inside room
in_table size first count h =
    let p = Scan.both (leb first (room size)) (leb count (room size - first)) h in
    omega (arith, leb-true first (room size) p.0, leb-true count (room size - first) p.1)
