-- `lists::list_rooms::joined_room` meets its contract. Assumes nothing.
use Rattle.verdicts.specs.Held.{item_text}
use Rattle.lists.proofs.ListRoomLaws.{joined_none, joined_some}
use Rattle.lists.proofs.list_rooms.joined_room.Goals as goal

pub returns-in-None : goal.returns-in-None
returns-in-None c = joined_none _ _ _ c.in-None.ensures.cases

pub returns-in-Some : goal.returns-in-Some
unfolding item_text
returns-in-Some c = joined_some _ _ _ _ _ _ _ _ c.in-Some.ensures.cases.0 c.part_of-text.ensures c.less.ensures c.rest_room.ensures
