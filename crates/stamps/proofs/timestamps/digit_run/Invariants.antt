use Rattle.stamps.proofs.TimeLaws.{Walked}
use Rattle.stamps.proofs.timestamps.digit_run.Given as goal

abbrev pub invariant-loop-i : goal.invariant-loop-i
invariant-loop-i l = Walked l.s l.i
