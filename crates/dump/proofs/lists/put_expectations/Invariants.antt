use mathlib.Core.Path.{◌≡◌}
use mathlib.Core.List.{flat_map}
use lib.ListN.{take}
use Rattle.written.specs.Writing.{wrote}
use Rattle.dump.specs.Dump.{expectation_bytes}
use Rattle.dump.proofs.lists.put_expectations.Given as goal

abbrev pub invariant-loop-x : goal.invariant-loop-x
invariant-loop-x l = l.w ≡ wrote (flat_map expectation_bytes (take l.x-index l.expectations)) l.fn.w
