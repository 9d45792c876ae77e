use Prim.Native.Nat.{◌+◌, ◌*◌, ◌^◌, ◌≤◌}
use mathlib.Core.Path.{◌≡◌}
use mathlib.Core.Bool.{true}
use lib.ListN.{length, drop}
use Rattle.values.specs.Numbers.{all_digits, decimal_from}
use Rattle.stamps.proofs.timestamps.spelt.Given as goal

abbrev pub invariant-loop-x : goal.invariant-loop-x
invariant-loop-x l = record {
  all : all_digits (drop l.x-index l.digits) ≡ true;
  room : (l.number + 1) * 10 ^ length (drop l.x-index l.digits) ≤ 10 ^ 18;
  walk : decimal_from l.number (drop l.x-index l.digits) ≡ decimal_from l.before l.digits;
}
