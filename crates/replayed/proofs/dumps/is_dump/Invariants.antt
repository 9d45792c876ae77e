use Prim.Native.Nat.{◌-◌}
use mathlib.Core.Path.{◌≡◌}
use lib.ListN.{length}
use Rattle.text.proofs.WordLaws.{words_at}
use Rattle.replayed.specs.Dumps.{is_dump}
use Rattle.replayed.proofs.dumps.is_dump.Given as goal

abbrev pub invariant-loop-word : goal.invariant-loop-word
invariant-loop-word l = is_dump l.left.line.now (words_at l.left.line.now l.left.at) l.store l.bytes ≡ is_dump l.rest.line.now (words_at l.rest.line.now l.rest.at) l.store l.found

abbrev pub decreases-loop-word : goal.decreases-loop-word
decreases-loop-word l = length l.left.line.now - l.left.at
