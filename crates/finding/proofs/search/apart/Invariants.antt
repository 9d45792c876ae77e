use mathlib.Core.Path.{◌≡◌}
use Rattle.finding.specs.Places.{Apart}
use Rattle.finding.proofs.search.apart.Given as goal

abbrev pub invariant-loop-i : goal.invariant-loop-i
invariant-loop-i l = l.seen ≡ 0 → Apart l.first l.last l.reach l.s l.at l.i
