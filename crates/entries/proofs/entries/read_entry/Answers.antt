-- `entries::entries::read_entry` meets its contract. Assumes nothing.
use borrow.Author.Rules.{rules}
use Rattle.below.proofs.LeftLaws.{went_up}
use Rattle.entries.specs.Laid.{lent}
use Rattle.entries.proofs.InsideLaws.{left_by}
use Rattle.entries.proofs.EntryLaws.{expects_room, entry_place, pairs_room, said_in, set_room, stored_room, entry_fits, entry_written}
use Rattle.entries.proofs.entries.read_entry.Goals as goal

pub read_lines-next-requires-clause-room : goal.read_lines-next-requires-clause-room
read_lines-next-requires-clause-room c =
    let w = lent c.args.entries.now c.args.items.now c.args.expectations.now c.args.store.now in
    pairs_room c.args.m.text.now c.args.a w c.requires.room _ c.takes_pairs.ensures

pub read_lines-next-requires-clause-expectations_room : goal.read_lines-next-requires-clause-expectations_room
read_lines-next-requires-clause-expectations_room c =
    let w = lent c.args.entries.now c.args.items.now c.args.expectations.now c.args.store.now in
    expects_room c.args.m.text.now c.args.a w c.requires.room

pub overflow_sub-pairs : goal.overflow_sub-pairs
overflow_sub-pairs c = rw c.position-i.ensures (went_up _ _ _ c.read_lines-next.ensures.after _ c.position.ensures)

pub invariant_of-said : goal.invariant_of-said
invariant_of-said c =
    let w = lent c.args.entries.now c.args.items.now c.args.expectations.now c.args.store.now in
    let U = left_by _ _ _ c.new-heard.ensures c.read_lines-next.ensures.heard_after in
    record { inside = said_in c.args.m.text.now c.args.a w c.requires.room _ c.takes_pairs.ensures _ U c.requires.at_in_bounds }

pub put_values-sizes-requires-clause-room : goal.put_values-sizes-requires-clause-room
put_values-sizes-requires-clause-room c =
    let w = lent c.args.entries.now c.args.items.now c.args.expectations.now c.args.store.now in
    let U = left_by _ _ _ c.new-heard.ensures c.read_lines-next.ensures.heard_after in
    set_room c.args.m.text.now c.args.a w c.requires.room _ c.takes_pairs.ensures _ U _ c.read_lines-next.ensures.after

pub put_values-sizes-requires-clause-store_room : goal.put_values-sizes-requires-clause-store_room
put_values-sizes-requires-clause-store_room c =
    let w = lent c.args.entries.now c.args.items.now c.args.expectations.now c.args.store.now in
    let U = left_by _ _ _ c.new-heard.ensures c.read_lines-next.ensures.heard_after in
    stored_room c.args.m.text.now c.args.a w c.requires.room _ c.takes_pairs.ensures _ U

pub overflow_sub-n : goal.overflow_sub-n
overflow_sub-n c = rw c.position-x.ensures (went_up _ _ _ c.read_lines-next.ensures.expectations_after _ c.position-2.ensures)

pub invariant_of-share : goal.invariant_of-share
invariant_of-share c =
    let w = lent c.args.entries.now c.args.items.now c.args.expectations.now c.args.store.now in
    let U = left_by _ _ _ c.new-heard.ensures c.read_lines-next.ensures.heard_after in
    let z = rw c.position-i.ensures at c.put_values-sizes.ensures.value in
    record { within = rw c.position-b.ensures (entry_fits c.args.m.text.now c.args.a w c.requires.room _ c.takes_pairs.ensures _ U _ c.read_lines-next.ensures.after _ c.position.ensures _ z (search rules)) }

pub put_one-requires : goal.put_one-requires
put_one-requires c =
    let w = lent c.args.entries.now c.args.items.now c.args.expectations.now c.args.store.now in
    entry_place c.args.m.text.now c.args.a w c.requires.room

pub returns : goal.returns
returns c =
    let w = lent c.args.entries.now c.args.items.now c.args.expectations.now c.args.store.now in
    let R = c.read_lines-next.ensures in
    let U = left_by _ _ _ c.new-heard.ensures R.heard_after in
    let P = c.put_values-sizes.ensures in
    let z = rw c.position-i.ensures at P.value in
    let e = rw (c.position-i.ensures, c.position-x.ensures, c.position-b.ensures) at c.entry_of.ensures in
    record {
      next_value = R.next_value;
      next_in = R.next_in;
      after =
          entry_written c.args.m.text.now c.args.a w c.requires.room _ c.takes_pairs.ensures _ U _ R.after _ c.position.ensures _ z
          _ R.expectations_after _ c.position-2.ensures _ e _ c.put_one.ensures _ P.after _ P.store_after;
    }
