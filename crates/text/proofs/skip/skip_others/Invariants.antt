use Prim.Native.Nat.{◌≤◌}
use Rattle.text.specs.Skip.{Without}
use Rattle.text.proofs.skip.skip_others.Given as goal

abbrev pub invariant-loop-i : goal.invariant-loop-i
invariant-loop-i l = (l.at ≤ l.i) × Without l.b l.s l.at l.i
