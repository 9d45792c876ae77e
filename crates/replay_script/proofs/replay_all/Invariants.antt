use Prim.Native.Nat.{◌+◌, ◌≤◌}
use mathlib.Core.Path.{◌≡◌}
use lib.ListN.{length}
use Rattle.text.proofs.LineLaws.{AllIn}
use Rattle.lines.specs.Walk.{left}
use Rattle.cases.specs.Cases.{total}
use Rattle.replay_script.specs.Tallies.{counted_on, all_counted}
use Rattle.replay_script.proofs.replay_all.Given as goal

abbrev pub invariant-loop-line : goal.invariant-loop-line
invariant-loop-line l = record {
  callable : (goal.iterator-loop-line).can_next l.line-iterator;
  ends : (goal.iterator-loop-line).is_finite l.line-iterator;
  inside : AllIn l.input (left l.line-iterator);
  few : total l.tally + length (left l.line-iterator) ≤ length l.input;
  counted : counted_on l.input (left l.line-iterator) l.tally ≡ all_counted l.input;
}
