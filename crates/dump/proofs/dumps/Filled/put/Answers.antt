-- `dump::dumps::Filled::put` meets its contract: the answer and the tables, one behind the other. Assumes nothing.
use mathlib.Core.Path.{ap}
use Rattle.numbers.specs.Numbers.{in_bytes}
use Rattle.written.proofs.WriterLaws.{room_as, wrote_as}
use Rattle.dump.proofs.DumpLaws.{head_room, entries_room, items_room, expectations_room, store_room, dump_wrote}
use Rattle.dump.proofs.dumps.Filled.put.Goals as goal

pub put_numbers-requires : goal.put_numbers-requires
put_numbers-requires c = room_as _ _ (ap in_bytes c.head_numbers.ensures) c.args.w.now (head_room c.args.a c.args.self.entries.now c.args.self.items.now c.args.self.expectations.now c.args.self.store.now c.args.w.now c.requires)

pub put_entries-requires : goal.put_entries-requires
put_entries-requires c = entries_room _ _ c.args.self.items.now c.args.self.expectations.now c.args.self.store.now c.args.w.now c.requires _ (wrote_as _ _ (ap in_bytes c.head_numbers.ensures) _ _ c.put_numbers.ensures)

pub put_items-requires : goal.put_items-requires
put_items-requires c = items_room _ _ _ c.args.self.expectations.now c.args.self.store.now c.args.w.now c.requires _ (wrote_as _ _ (ap in_bytes c.head_numbers.ensures) _ _ c.put_numbers.ensures) _ c.put_entries.ensures

pub put_expectations-requires : goal.put_expectations-requires
put_expectations-requires c =
    expectations_room _ _ _ _ c.args.self.store.now c.args.w.now c.requires _ (wrote_as _ _ (ap in_bytes c.head_numbers.ensures) _ _ c.put_numbers.ensures) _ c.put_entries.ensures _ c.put_items.ensures

pub put-requires : goal.put-requires
put-requires c =
    store_room _ _ _ _ _ c.args.w.now c.requires _ (wrote_as _ _ (ap in_bytes c.head_numbers.ensures) _ _ c.put_numbers.ensures) _ c.put_entries.ensures _ c.put_items.ensures _ c.put_expectations.ensures

pub returns : goal.returns
returns c =
    dump_wrote _ _ _ _ _ c.args.w.now c.requires _ (wrote_as _ _ (ap in_bytes c.head_numbers.ensures) _ _ c.put_numbers.ensures) _ c.put_entries.ensures _ c.put_items.ensures _ c.put_expectations.ensures _ c.put.ensures
