-- `read::reading::read` meets its contract. Assumes nothing.
use mathlib.Core.Path.{refl}
use mathlib.Core.List.{map}
use Rattle.script.specs.Layout.{Tables}
use Rattle.tables.specs.Items.{item_of}
use Rattle.kept.proofs.KeptLaws.{blank_memo}
use Rattle.read.proofs.ReadLaws.{Enough, enough, measure_refuses, short_refuses, refused-answer, as_was, read_answer, tables-read}
use borrow.Author.Rules.{rules}
use Rattle.read.proofs.reading.read.Goals as goal
use Rattle.read.proofs.reading.read.Goals.{In_ok-room_for}

pub measure_keeping-requires : goal.measure_keeping-requires
measure_keeping-requires c = blank_memo _ 1024

-- where Measure refuses, or a table is too short, nothing is written
pub returns-in_err-needed : goal.returns-in_err-needed
returns-in_err-needed c =
    let e = measure_refuses c.args.text.now _ c.measure_keeping.result c.measure_keeping.ensures.result_value _ c.in_err-needed.was in
    record {
      result_value = search (rules, refused-answer _ _ e);
      entries_after = as_was _ _ e (λ (t : Tables). t.entries) _ refl;
      after = as_was _ _ e (λ (t : Tables). map item_of t.items) _ refl;
      expectations_after = as_was _ _ e (λ (t : Tables). t.expectations) _ refl;
      store_after = as_was _ _ e (λ (t : Tables). t.store) _ refl;
    }

pub returns-in_err-room_for : goal.returns-in_err-room_for
returns-in_err-room_for c =
    let M = c.measure_keeping in
    let f = rw c.lent_of-lent.ensures at c.room_for.ensures in
    let e = short_refuses c.args.text.now _ M.result M.ensures.result_value _ c.in_ok-needed.was c.room_for.result f _ c.in_err-room_for.was in
    record {
      result_value = search (rules, refused-answer _ _ e);
      entries_after = as_was _ _ e (λ (t : Tables). t.entries) _ refl;
      after = as_was _ _ e (λ (t : Tables). map item_of t.items) _ refl;
      expectations_after = as_was _ _ e (λ (t : Tables). t.expectations) _ refl;
      store_after = as_was _ _ e (λ (t : Tables). t.store) _ refl;
    }

-- else the tables are long enough
ready : (c : In_ok-room_for) → Enough c.args.text.now c.args.entries c.args.items c.args.expectations c.args.store c.in_ok-needed.needed
ready c =
    let M = c.measure_keeping in
    let f = rw c.lent_of-lent.ensures at c.room_for.ensures in
    enough c.args.text.now c.args.entries c.args.items c.args.expectations c.args.store M.result M.ensures.result_value _ c.in_ok-needed.was c.room_for.result f _ c.in_ok-room_for.was

pub invariant_of-m : goal.invariant_of-m
invariant_of-m c = record { short = (ready (goal.at.invariant_of-m c).In_ok-room_for).short; memo = c.measure_keeping.ensures.memo.0 }

pub read_script-requires : goal.read_script-requires
read_script-requires c =
    let k = ready (goal.at.read_script-requires c).In_ok-room_for in
    record { counts_value = k.counted; entries_room = k.entries_room; items_room = k.items_room; expectations_room = k.expectations_room; store_room = k.store_room }

pub returns : goal.returns
returns c =
    let k = ready (goal.at.returns c).In_ok-room_for in
    let Q = c.read_script.ensures in
    let same = tables-read _ _ k.reads in
    record {
      result_value = read_answer _ _ k.reads _ Q.value;
      entries_after = rw same at Q.entries_after;
      after = rw same at Q.after;
      expectations_after = rw same at Q.expectations_after;
      store_after = rw same at Q.store_after;
    }
