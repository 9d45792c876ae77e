use Prim.Native.Nat.{◌+◌, ◌≤◌}
use mathlib.Core.Path.{◌≡◌}
use lib.ListN.{length}
use Rattle.text.proofs.LineLaws.{AllIn}
use Rattle.lines.specs.Walk.{left}
use Rattle.replay.proofs.read_cases.Given as goal

abbrev pub invariant-loop-line : goal.invariant-loop-line
invariant-loop-line l = record {
  callable : (goal.iterator-loop-line).can_next l.line-iterator;
  ends : (goal.iterator-loop-line).is_finite l.line-iterator;
  inside : AllIn l.input (left l.line-iterator);
  few : l.tally.white + l.tally.good + l.tally.bad + l.tally.wrong + length (left l.line-iterator) ≤ length l.input;
}
