use Prim.Native.Nat.{◌+◌, ◌<◌}
use mathlib.Core.Path.{◌≡◌}
use lib.ListN.{drop}
use Rattle.values.specs.Numbers.{digits}
use Rattle.values.proofs.NumberLaws.{digits_from}
use Rattle.values.proofs.number.digits_up_to.Given as goal

abbrev pub invariant-loop-x : goal.invariant-loop-x
invariant-loop-x l = record {
  below : l.v < l.max + 1;
  walk : digits_from (l.max + 1) l.v (drop l.x-index l.s) ≡ digits (l.max + 1) l.s;
}
