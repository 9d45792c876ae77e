-- `entries::entries::read_entries` meets its contract. Assumes nothing.
use Rattle.entries.specs.Laid.{lent}
use Rattle.entries.proofs.LaidLaws.{gone_first, gone_over}
use Rattle.entries.proofs.EntriesLaws.{next_falls, next_in, next_weaker, none_ahead, entry_room, gone_more}
use borrow.Author.Rules.{rules}
use Rattle.entries.proofs.entries.read_entries.Goals as goal

pub loop-next-init : goal.loop-next-init
loop-next-init c = (c.requires.next_in, gone_first _ _ c.requires.room)

pub returns : goal.returns
returns c =
    let L = c.loop-next in
    gone_over L.invariant.1 (none_ahead c.args.m.text.now L.next (lent L.entries L.items L.expectations L.store) (search rules))

pub read_entry-next-requires : goal.read_entry-next-requires
read_entry-next-requires c =
    let L = c.loop-next in
    let N = c.in-Some.is in
    let i = next_in c.args.m.text.now L.next _ N L.invariant.0 in
    record {
      at_in_bounds = i.0;
      line_le_at = i.1;
      fact = i.2;
      room = entry_room c.args.m.text.now L.next L.invariant.1 N;
    }

pub loop-next-smaller : goal.loop-next-smaller
loop-next-smaller c =
    let L = c.loop-next in
    let N = c.in-Some.is in
    next_falls c.args.m.text.now L.next _ N _ (next_in c.args.m.text.now L.next _ N L.invariant.0).0 c.read_entry-next.ensures.next_in

pub loop-next-preserved : goal.loop-next-preserved
loop-next-preserved c =
    let R = c.read_entry-next.ensures in
    (next_weaker c.args.m.text.now _ _ R.next_in, gone_more c.args.m.text.now c.loop-next.next c.loop-next.invariant.1 c.in-Some.is _ _ R.next_value R.after)
