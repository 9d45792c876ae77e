use mathlib.Core.Path.{◌≡◌}
use mathlib.Core.List.{◌++◌}
use lib.ListN.{length}
use Rattle.list_pieces.specs.Pieces.{row, opens}
use Rattle.list_pieces.specs.Left.{left}
use Rattle.list_pieces.proofs.compare.opens_at.Given as goal

abbrev pub invariant-loop-rest : goal.invariant-loop-rest
invariant-loop-rest l = opens l.whole l.rest (l.here ++ row (left l.behind)) ≡ opens l.fn.whole l.fn.pattern (l.fn.piece ++ row (left l.fn.behind))

abbrev pub decreases-loop-rest : goal.decreases-loop-rest
decreases-loop-rest l = length (left l.behind)
