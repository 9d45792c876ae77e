-- `dump::lists::put_items` meets its contract: what stands for each that was passed is written. Assumes nothing.
use mathlib.Core.Path.{ap}
use borrow.Author.Rules.{rules}
use Rattle.written.proofs.WriterLaws.{each_none, each_all, each_room, each_wrote}
use Rattle.numbers.specs.Numbers.{in_bytes}
use Rattle.dump.specs.Dump.{item_bytes}
use Rattle.dump.proofs.lists.put_items.Goals as goal

pub loop-item-init : goal.loop-item-init
loop-item-init c = each_none item_bytes c.args.w.now

pub put_numbers-requires : goal.put_numbers-requires
put_numbers-requires c = each_room item_bytes c.args.items.now _ c.args.w.now _ c.loop-item.invariant c.requires _ (search rules) _ (ap in_bytes c.item_numbers.ensures)

pub loop-item-preserved : goal.loop-item-preserved
loop-item-preserved c = each_wrote item_bytes c.args.items.now _ c.args.w.now _ c.loop-item.invariant c.requires _ (search rules) _ (ap in_bytes c.item_numbers.ensures) _ c.put_numbers.ensures

pub returns : goal.returns
returns c = each_all item_bytes c.args.items.now _ c.args.w.now _ c.loop-item.invariant c.requires (search rules)
