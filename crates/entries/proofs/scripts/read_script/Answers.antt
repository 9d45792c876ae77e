-- `entries::scripts::read_script` meets its contract. Assumes nothing.
use mathlib.Core.Path.{refl}
use Rattle.entries.specs.Laid.{Lent, lent, RoomFor}
use Rattle.entries.specs.Whole.{reading_of}
use Rattle.entries.proofs.InsideLaws.{left_by}
use Rattle.entries.proofs.ScriptLaws.{AtStart, no_pairs_room, early_room, said_in, front_room, preamble-laid, entries_room, script_written, script-laid, room_lent, entries_written, items_written, expectations_written, store_written}
use borrow.Author.Rules.{rules}
use Rattle.entries.proofs.scripts.read_script.Goals as goal
use Rattle.entries.proofs.scripts.read_script.Goals.{After-new-heard}

-- the four writers, at the start of what is lent
abbrev made : After-new-heard → Lent
made c = lent c.new-entries.result c.new-items.result c.new-expectations.result c.new-store.result

start : (c : After-new-heard) → AtStart (made c)
start c = rw (c.new-items.ensures, c.new-expectations.ensures, c.new-store.ensures) (refl, refl, refl)

room : (c : After-new-heard) → RoomFor (reading_of c.args.m.text.now).tables (made c)
room c =
    let Q = c.requires in
    rw (c.new-entries.ensures, c.new-items.ensures, c.new-expectations.ensures, c.new-store.ensures)
    (room_lent (reading_of c.args.m.text.now).tables c.args.entries c.args.items c.args.expectations c.args.store Q.entries_room Q.items_room Q.expectations_room Q.store_room)

pub read_lines-next-requires-clause-room : goal.read_lines-next-requires-clause-room
read_lines-next-requires-clause-room c =
    let m = (goal.at.read_lines-next-requires-clause-room c).After-new-heard in
    no_pairs_room c.args.m.text.now (made m) (start m) (room m)

pub read_lines-next-requires-clause-expectations_room : goal.read_lines-next-requires-clause-expectations_room
read_lines-next-requires-clause-expectations_room c =
    let m = (goal.at.read_lines-next-requires-clause-expectations_room c).After-new-heard in
    early_room c.args.m.text.now (made m) (start m) (room m)

pub invariant_of-said : goal.invariant_of-said
invariant_of-said c =
    let m = (goal.at.invariant_of-said c).After-new-heard in
    let U = left_by _ _ _ c.new-heard.ensures c.read_lines-next.ensures.heard_after in
    record { inside = said_in c.args.m.text.now (made m) (start m) (room m) _ U }

pub put_front-f-requires : goal.put_front-f-requires
put_front-f-requires c =
    let m = (goal.at.put_front-f-requires c).After-new-heard in
    let U = left_by _ _ _ c.new-heard.ensures c.read_lines-next.ensures.heard_after in
    front_room c.args.m.text.now (made m) (start m) (room m) _ U _ c.read_lines-next.ensures.after

pub read_entries-requires-clause-room : goal.read_entries-requires-clause-room
read_entries-requires-clause-room c =
    let m = (goal.at.read_entries-requires-clause-room c).After-new-heard in
    let R = c.read_lines-next.ensures in
    let U = left_by _ _ _ c.new-heard.ensures R.heard_after in
    entries_room c.args.m.text.now (made m) (start m) (room m) _ U _ R.after _ R.expectations_after _ c.put_front-f.ensures.after _ R.next_value

pub returns : goal.returns
returns c =
    let m = (goal.at.returns c).After-new-heard in
    let R = c.read_lines-next.ensures in
    let U = left_by _ _ _ c.new-heard.ensures R.heard_after in
    let F = c.put_front-f.ensures in
    let p = rw c.position-expects.ensures at c.preamble_of-preamble.ensures in
    let W = script_written c.args.m.text.now (made m) (start m) (room m) _ U _ R.after _ R.expectations_after _ F.after _ R.next_value _ c.read_entries.ensures in
    record {
      value = script-laid c.args.m.text.now _ c.args.counts _ (preamble-laid c.args.m.text.now (made m) (start m) (room m) _ U _ R.after _ R.expectations_after _ _ F.features_value F.server_value _ p) c.requires.counts_value refl;
      entries_after = entries_written _ _ _ W _ c.new-entries.ensures _ (search rules);
      after = items_written _ _ _ W _ c.new-items.ensures _ (search rules);
      expectations_after = expectations_written _ _ _ W _ c.new-expectations.ensures _ (search rules);
      store_after = store_written _ _ _ W _ c.new-store.ensures _ (search rules);
    }
