use mathlib.Core.Path.{◌≡◌}
use mathlib.Core.Bool.{false}
use mathlib.Core.List.{map}
use lib.ListN.{length, drop}
use Rattle.verdicts.specs.Lookup.{looked}
use Rattle.verdicts.specs.Verdicts.{verdict}
use Rattle.judging.specs.Calls.{said, too_long}
use Rattle.subjects.specs.Against.{against}
use Rattle.ranges.proofs.RangeLaws.{Judging-on}
use Rattle.ranges.proofs.each.judge_range.Given as goal

abbrev pub invariant-loop-i : goal.invariant-loop-i
invariant-loop-i l = let g = looked (against l.s) in
    (length l.scratch ≡ length l.initial.scratch)
    × (too_long (length l.initial.scratch) (map g (said l.text (drop l.i l.expectations))) ≡ false)
    × Judging-on l.text l.expectations (verdict (against l.s)) g l.initial.slots l.initial.scratch l.initial.c l.slots l.scratch l.c l.i
