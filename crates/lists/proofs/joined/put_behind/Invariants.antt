use mathlib.Core.Path.{◌≡◌}
use lib.ListN.{take}
use Rattle.written.specs.Writing.{wrote}
use Rattle.lists.specs.Lists.{item_texts, behind}
use Rattle.lists.proofs.joined.put_behind.Given as goal

abbrev pub invariant-loop-item : goal.invariant-loop-item
invariant-loop-item l = l.w ≡ wrote (behind (item_texts l.bytes (take l.item-index l.items))) l.fn.w
