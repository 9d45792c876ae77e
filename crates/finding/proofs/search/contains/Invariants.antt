use Prim.Native.Nat.{◌+◌, ◌-◌, ◌≤◌}
use mathlib.Core.Path.{◌≡◌}
use lib.ListN.{length, drop}
use Rattle.verdicts.specs.Decisions.{contains}
use Rattle.finding.proofs.search.contains.Given as goal

abbrev pub invariant-loop-i : goal.invariant-loop-i
invariant-loop-i l = (l.i ≤ length l.value + 1) × (contains l.pattern (drop l.i l.value) ≡ contains l.pattern l.value)

abbrev pub decreases-loop-i : goal.decreases-loop-i
decreases-loop-i l = length l.value + 1 - l.i
