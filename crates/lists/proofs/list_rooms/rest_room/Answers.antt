-- `lists::list_rooms::rest_room` meets its contract. Assumes nothing.
use borrow.Author.Rules.{rules}
use Rattle.verdicts.specs.Held.{item_text}
use Rattle.lists.proofs.ListRoomLaws.{room_on, room_over}
use Rattle.lists.proofs.list_rooms.rest_room.Goals as goal

pub loop-item-preserved : goal.loop-item-preserved
unfolding item_text
loop-item-preserved c =
    let A = c.args in
    room_on A.bytes.now A.items.now c.loop-item.left _ c.loop-item.item-index c.loop-item.invariant c.less-left.result c.part_of-text.result.now (search rules) c.part_of-text.ensures c.less-left.ensures

pub returns : goal.returns
returns c = let A = c.args in room_over A.bytes.now A.items.now c.loop-item.left _ c.loop-item.item-index c.loop-item.invariant (search rules)
