use Prim.Native.Nat.{◌+◌}
use mathlib.Core.Path.{◌≡◌}
use lib.ListN.{length}
use Rattle.text.proofs.LineLaws.{AllIn}
use Rattle.script.specs.Plain.{beginning_lines}
use Rattle.lines.specs.Walk.{left}
use Rattle.walker.proofs.CountLaws.{all}
use Rattle.walker.proofs.expect_lines.Given as goal

-- The lines past are counted, and the others are left.
abbrev pub invariant-loop-line : goal.invariant-loop-line
invariant-loop-line l = record {
  callable : (goal.iterator-loop-line).can_next l.line-iterator;
  ends : (goal.iterator-loop-line).is_finite l.line-iterator;
  inside : AllIn l.text (left l.line-iterator);
  counted : l.n + length (beginning_lines l.text (left l.line-iterator)) ≡ all l.text;
}
