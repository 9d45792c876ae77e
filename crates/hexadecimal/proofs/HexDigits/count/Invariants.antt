use Prim.Native.Nat.{◌+◌, ◌≤◌}
use mathlib.Core.Path.{◌≡◌}
use lib.ListN.{length, drop}
use Rattle.values.specs.Hex.{hex_decoded}
use Rattle.hexadecimal.specs.HexWalk.{hex_from}
use Rattle.hexadecimal.proofs.HexDigits.count.Given as goal

abbrev pub invariant-loop-x : goal.invariant-loop-x
invariant-loop-x l = record {
  few : l.n ≤ l.x-index;
  counted : l.n + length (hex_from l.held (drop l.x-index l.s)) ≡ length (hex_decoded l.s);
}
