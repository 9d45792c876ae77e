-- `dump::lists::put_entry` meets its contract: its head, and behind it its call. Assumes nothing.
use mathlib.Core.Path.{refl}
use Rattle.dump.proofs.DumpLaws.{head_fits, call_fits, entry_put}
use Rattle.dump.proofs.lists.put_entry.Goals as goal

pub put_numbers-requires : goal.put_numbers-requires
put_numbers-requires c = head_fits c.args.e _ _ c.entry_head.ensures refl c.args.w.now c.requires

pub put_numbers-requires-2 : goal.put_numbers-requires-2
put_numbers-requires-2 c = call_fits c.args.e _ _ c.entry_head.ensures c.call_numbers.ensures c.args.w.now c.requires _ c.put_numbers.ensures

pub returns : goal.returns
returns c = entry_put c.args.e _ _ c.entry_head.ensures c.call_numbers.ensures c.args.w.now c.requires _ c.put_numbers.ensures _ c.put_numbers-2.ensures
