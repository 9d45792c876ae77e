use mathlib.Core.Path.{◌≡◌}
use lib.ListN.{length}
use Rattle.verdicts.specs.Decisions.{contains}
use Rattle.list_pieces.specs.Left.{left, shown}
use Rattle.list_search.proofs.contains.Given as goal

abbrev pub invariant-loop-piece : goal.invariant-loop-piece
invariant-loop-piece l = contains l.pattern (shown l.behind) ≡ contains l.pattern (shown l.fn.list)

abbrev pub decreases-loop-piece : goal.decreases-loop-piece
decreases-loop-piece l = length (left l.behind)
