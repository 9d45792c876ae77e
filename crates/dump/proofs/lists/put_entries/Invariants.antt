use mathlib.Core.Path.{◌≡◌}
use mathlib.Core.List.{flat_map}
use lib.ListN.{take}
use Rattle.written.specs.Writing.{wrote}
use Rattle.dump.specs.Dump.{entry_bytes}
use Rattle.dump.proofs.lists.put_entries.Given as goal

abbrev pub invariant-loop-e : goal.invariant-loop-e
invariant-loop-e l = l.w ≡ wrote (flat_map entry_bytes (take l.e-index l.entries)) l.fn.w
