use lib.ListN.{drop}
use Rattle.values.specs.Hex.{hex_decoded}
use Rattle.hexadecimal.specs.HexWalk.{hex_from}
use Rattle.text.proofs.Front.{Written}
use Rattle.hexadecimal.proofs.HexDigits.fill.Given as goal

abbrev pub invariant-loop-x : goal.invariant-loop-x
invariant-loop-x l = Written l.out l.o (hex_from l.held (drop l.x-index l.s)) (hex_decoded l.s)
