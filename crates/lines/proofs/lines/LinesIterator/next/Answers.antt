-- `next` of the iterator over lines meets its contract: the next line begins later, so fewer are left. Assumes nothing.
use mathlib.Core.Path.{ap}
use native.Mathlib.Omega.{arith}
use lib.ListN.{length}
use Rattle.text.proofs.LineLaws.{known}
use Rattle.lines.specs.Walk.{left}
use Rattle.lines.proofs.lines.LinesIterator.next.Goals as goal

pub returns-clause-goes : goal.returns-clause-goes
unfolding left
returns-clause-goes c =
    let k = known _ _ _ _ c.if-self.false c.line_at-line.ensures in
    record { on = λ f. (omega arith, tt, omega (arith, ap length k.more)); keeps = omega arith; rests = λ f. tt }
