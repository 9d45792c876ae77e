use mathlib.Core.Path.{◌≡◌}
use mathlib.Core.List.{flat_map}
use lib.ListN.{take}
use Rattle.written.specs.Writing.{wrote}
use Rattle.dump.specs.Dump.{item_bytes}
use Rattle.dump.proofs.lists.put_items.Given as goal

abbrev pub invariant-loop-item : goal.invariant-loop-item
invariant-loop-item l = l.w ≡ wrote (flat_map item_bytes (take l.item-index l.items)) l.fn.w
