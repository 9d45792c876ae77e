use mathlib.Core.Path.{◌≡◌}
use lib.ListN.{drop}
use Rattle.text.specs.Parts.{part_from, part_at}
use Rattle.text.proofs.parts.part_at.Given as goal

abbrev pub invariant-loop-i : goal.invariant-loop-i
invariant-loop-i l = part_from l.b l.at l.i (drop l.i l.s) ≡ part_at l.b l.s l.at
