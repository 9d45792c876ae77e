use mathlib.Core.Path.{◌≡◌}
use lib.ListN.{length}
use Rattle.text.specs.Lines.{lines}
use Rattle.script.specs.declared.roles.Where.TheVariants.{InPreamble}
use Rattle.kept.specs.Kept.{Memo}
use Rattle.lines.specs.Walk.{left}
use Rattle.measuring.specs.Measure.{zeros, preamble_open, walk_from}
use Rattle.parse.proofs.WalkLaws.{Turn}
use Rattle.parse.proofs.measure.walk.Given as goal

abbrev pub invariant-loop-l : goal.invariant-loop-l
invariant-loop-l l = record {
  callable : (goal.iterator-loop-l).can_next l.l-iterator;
  ends : (goal.iterator-loop-l).is_finite l.l-iterator;
  turn : Turn l.text l.t l.o l.w (left l.l-iterator) (walk_from l.text zeros preamble_open InPreamble (lines l.text));
  memo : Memo l.text l.kept;
  room : length l.kept ≡ length l.initial.kept;
}
