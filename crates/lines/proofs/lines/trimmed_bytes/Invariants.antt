use Prim.Native.Nat.{◌+◌}
use mathlib.Core.Path.{◌≡◌}
use Rattle.text.specs.Lines.{lines, trimmed_length}
use Rattle.text.proofs.LineLaws.{AllIn}
use Rattle.lines.specs.Walk.{left}
use Rattle.lines.proofs.lines.trimmed_bytes.Given as goal

abbrev pub invariant-loop-line : goal.invariant-loop-line
invariant-loop-line l = record {
  callable : (goal.iterator-loop-line).can_next l.line-iterator;
  ends : (goal.iterator-loop-line).is_finite l.line-iterator;
  inside : AllIn l.text (left l.line-iterator);
  total : l.sum + trimmed_length l.text (left l.line-iterator) ≡ trimmed_length l.text (lines l.text);
}
