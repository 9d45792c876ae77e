use mathlib.Core.Path.{◌≡◌}
use lib.ListN.{drop}
use Rattle.lists.specs.Lists.{item_texts}
use Rattle.lists.proofs.ListRoomLaws.{left_behind}
use Rattle.lists.proofs.list_rooms.rest_room.Given as goal

-- what is left, less the texts still to come, is what is left in the end
abbrev pub invariant-loop-item : goal.invariant-loop-item
invariant-loop-item l = left_behind l.left (item_texts l.bytes (drop l.item-index l.items)) ≡ left_behind l.fn.room (item_texts l.bytes l.items)
