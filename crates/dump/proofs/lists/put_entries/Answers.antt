-- `dump::lists::put_entries` meets its contract: what stands for each that was passed is written. Assumes nothing.
use mathlib.Core.Path.{refl}
use borrow.Author.Rules.{rules}
use Rattle.written.proofs.WriterLaws.{each_none, each_all, each_room, each_wrote}
use Rattle.dump.specs.Dump.{entry_bytes}
use Rattle.dump.proofs.lists.put_entries.Goals as goal

pub loop-e-init : goal.loop-e-init
loop-e-init c = each_none entry_bytes c.args.w.now

pub put_entry-requires : goal.put_entry-requires
put_entry-requires c = each_room entry_bytes c.args.entries.now _ c.args.w.now _ c.loop-e.invariant c.requires _ (search rules) _ refl

pub loop-e-preserved : goal.loop-e-preserved
loop-e-preserved c = each_wrote entry_bytes c.args.entries.now _ c.args.w.now _ c.loop-e.invariant c.requires _ (search rules) _ refl _ c.put_entry.ensures

pub returns : goal.returns
returns c = each_all entry_bytes c.args.entries.now _ c.args.w.now _ c.loop-e.invariant c.requires (search rules)
