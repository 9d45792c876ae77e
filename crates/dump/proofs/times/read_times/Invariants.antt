use Prim.Native.Nat.{◌-◌, ◌≤◌}
use mathlib.Core.Path.{◌≡◌}
use lib.ListN.{length}
use Rattle.dump.specs.Times.{last_number}
use Rattle.dump.proofs.times.read_times.Given as goal

abbrev pub invariant-loop-n : goal.invariant-loop-n
invariant-loop-n l = (length l.es ≡ 4096) × (length l.is ≡ 16384) × (length l.xs ≡ 4096) × (length l.bs ≡ 32768) × (l._n ≤ l.times) × (l.last ≡ last_number l.text l._n)

abbrev pub decreases-loop-n : goal.decreases-loop-n
decreases-loop-n l = l.times - l._n
