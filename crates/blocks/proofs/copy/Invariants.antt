use mathlib.Core.Path.{◌≡◌}
use lib.ListN.{length, take}
use Rattle.blocks.proofs.copy.Given as goal

abbrev pub invariant-loop-i : goal.invariant-loop-i
invariant-loop-i l = (length l.out ≡ length l.word) × (take l.i l.out ≡ take l.i l.word)
