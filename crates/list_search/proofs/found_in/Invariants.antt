use Prim.Native.Nat.{◌-◌, ◌≤◌}
use mathlib.Core.Path.{◌≡◌}
use mathlib.Core.List.{◌++◌}
use lib.ListN.{length, drop}
use Rattle.verdicts.specs.Decisions.{contains}
use Rattle.list_pieces.specs.Left.{shown}
use Rattle.list_search.proofs.found_in.Given as goal

abbrev pub invariant-loop-i : goal.invariant-loop-i
invariant-loop-i l = (l.i ≤ length l.piece) × (contains l.pattern (drop l.i (l.piece ++ shown l.behind)) ≡ contains l.pattern (l.piece ++ shown l.behind))

abbrev pub decreases-loop-i : goal.decreases-loop-i
decreases-loop-i l = length l.piece - l.i
