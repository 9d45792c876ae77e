-- `lists::joined::put_joined` meets its contract: the first text, then the others. Assumes nothing.
use Rattle.verdicts.specs.Held.{item_text}
use Rattle.lists.proofs.JoinedLaws.{joined_none, one_room, rest_room, joined_wrote}
use Rattle.lists.proofs.joined.put_joined.Goals as goal

pub put-requires : goal.put-requires
unfolding item_text
put-requires c = one_room c.args.bytes.now _ c.args.w.now _ _ c.in-Some.ensures.cases.0 _ c.part_of.ensures c.requires

pub put_behind-requires : goal.put_behind-requires
unfolding item_text
put_behind-requires c = rest_room c.args.bytes.now _ c.args.w.now _ _ c.in-Some.ensures.cases.0 _ c.part_of.ensures c.requires _ c.put.ensures

pub returns-in-Some : goal.returns-in-Some
unfolding item_text
returns-in-Some c = joined_wrote c.args.bytes.now _ c.args.w.now _ _ c.in-Some.ensures.cases.0 _ c.part_of.ensures c.requires _ c.put.ensures _ c.put_behind.ensures

pub returns-in_default : goal.returns-in_default
returns-in_default c = joined_none _ _ _ c.in_default.ensures.cases
