-- `lists::joined::put_behind` meets its contract: the texts of the items passed are written. Assumes nothing.
use borrow.Author.Rules.{rules}
use mathlib.Core.Path.{refl}
use Rattle.written.proofs.WriterLaws.{wrote_none}
use Rattle.verdicts.specs.Held.{item_text}
use Rattle.lists.specs.Lists.{behind}
use Rattle.lists.proofs.JoinedLaws.{comma_room, text_room, text_wrote}
use Rattle.lists.proofs.joined.put_behind.Goals as goal

pub loop-item-init : goal.loop-item-init
unfolding behind
loop-item-init c = wrote_none c.args.w.now

pub put-requires : goal.put-requires
unfolding item_text
put-requires c = comma_room c.args.bytes.now c.args.items.now _ _ _ c.loop-item.invariant c.requires (search rules) _ refl

pub put-requires-in-loop-item : goal.put-requires-in-loop-item
unfolding item_text
put-requires-in-loop-item c = text_room c.args.bytes.now c.args.items.now _ _ _ c.loop-item.invariant c.requires (search rules) _ c.part_of.ensures _ c.put.ensures

pub loop-item-preserved : goal.loop-item-preserved
unfolding item_text
loop-item-preserved c = text_wrote c.args.bytes.now c.args.items.now _ _ _ c.loop-item.invariant c.requires (search rules) _ c.part_of.ensures _ c.put.ensures _ c.put-in-loop-item.ensures
