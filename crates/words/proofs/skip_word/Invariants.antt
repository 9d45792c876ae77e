use Prim.Native.Nat.{◌≤◌, max}
use mathlib.Core.Path.{◌≡◌}
use lib.ListN.{length, drop}
use Rattle.text.specs.Words.{word_from}
use Rattle.words.proofs.skip_word.Given as goal

abbrev pub invariant-loop-i : goal.invariant-loop-i
invariant-loop-i l = (l.i ≤ max l.start (length l.s)) × (word_from 0 l.start l.i (drop l.i l.s) ≡ word_from 0 l.start l.start (drop l.start l.s))
