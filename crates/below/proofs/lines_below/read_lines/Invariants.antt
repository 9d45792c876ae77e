use Prim.Native.Nat.{◌+◌, ◌-◌, ◌≤◌}
use lib.ListN.{length}
use Rattle.below.specs.Below.{roles_at}
use Rattle.below.proofs.LinesLaws.{Led}
use Rattle.below.proofs.lines_below.read_lines.Given as goal

abbrev pub invariant-loop-at : goal.invariant-loop-at
invariant-loop-at l = (l.at ≤ length l.m.text.now)
    × (l.from ≤ l.at)
    × (l.number ≤ l.at + 1)
    × Led l.options l.initial.heard l.initial.items l.initial.expectations (roles_at l.m.text.now l.initial.w l.initial.at l.initial.number) l.heard l.items l.expectations (roles_at l.m.text.now l.w l.at l.number)

abbrev pub decreases-loop-at : goal.decreases-loop-at
decreases-loop-at l = length l.m.text.now - l.at
