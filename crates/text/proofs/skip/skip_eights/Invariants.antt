use Prim.Native.Nat.{◌-◌, ◌≤◌}
use Rattle.text.specs.Skip.{Without}
use Rattle.text.proofs.skip.skip_eights.Given as goal

abbrev pub invariant-loop-i : goal.invariant-loop-i
invariant-loop-i l = (l.at ≤ l.i) × (l.i ≤ l.near) × Without l.b l.s l.at l.i

abbrev pub decreases-loop-i : goal.decreases-loop-i
decreases-loop-i l = l.near - l.i
