-- `dump::dumps::dump_into` meets its contract. Assumes nothing.
use Prim.Native.Nat.{ℕ}
use mathlib.Core.Path.{ap, ◌∙◌}
use mathlib.Core.List.{List}
use native.Mathlib.Omega.{arith}
use borrow.Author.Rules.{rules}
use lib.ListN.{length}
use Rattle.text.specs.Base.{overlaid}
use Rattle.written.proofs.WriterLaws.{handed_at, handed_back}
use Rattle.dump.proofs.DumpLaws.{is_dump, size_is, no_room, dump_room}
use Rattle.dump.proofs.dumps.dump_into.Goals as goal

pub returns-then-out-size-clause-value : goal.returns-then-out-size-clause-value
returns-then-out-size-clause-value c =
    let G = c.args in
    let R = c.read-a in
    let Z = c.size-size in
    size_is G.text.now G.entries.now G.items.now G.expectations.now G.store.now R.result R.new.entries R.new.items R.new.expectations R.new.store R.ensures.result_value R.ensures.entries_after R.ensures.after R.ensures.expectations_after R.ensures.store_after Z.result Z.ensures

pub returns-then-out-size-clause-out_after : goal.returns-then-out-size-clause-out_after
returns-then-out-size-clause-out_after c =
    let G = c.args in
    let R = c.read-a in
    let Z = c.size-size in
    no_room G.text.now G.entries.now G.items.now G.expectations.now G.store.now R.result R.new.entries R.new.items R.new.expectations R.new.store R.ensures.result_value R.ensures.entries_after R.ensures.after R.ensures.expectations_after R.ensures.store_after Z.result Z.ensures G.out.now c.if-out-size.true

pub put-requires : goal.put-requires
put-requires c =
    let R = c.read-a in
    let room = dump_room c.args.text.now c.args.entries.now c.args.items.now c.args.expectations.now c.args.store.now R.result R.new.entries R.new.items R.new.expectations R.new.store R.ensures.result_value R.ensures.entries_after R.ensures.after R.ensures.expectations_after R.ensures.store_after _ c.size-size.ensures _ c.if-out-size.false in
    rw c.new-w.ensures (omega arith)

pub returns : goal.returns
returns c =
    let G = c.args in
    let R = c.read-a in
    let same = is_dump G.text.now G.entries.now G.items.now G.expectations.now G.store.now R.result R.new.entries R.new.items R.new.expectations R.new.store R.ensures.result_value R.ensures.entries_after R.ensures.after R.ensures.expectations_after R.ensures.store_after in
    let room = dump_room G.text.now G.entries.now G.items.now G.expectations.now G.store.now R.result R.new.entries R.new.items R.new.expectations R.new.store R.ensures.result_value R.ensures.entries_after R.ensures.after R.ensures.expectations_after R.ensures.store_after _ c.size-size.ensures _ c.if-out-size.false in
    record {
      value = c.position.ensures ∙ handed_at _ _ _ _ c.put.ensures c.new-w.ensures ∙ ap length same;
      out_after = handed_back _ _ _ _ c.put.ensures c.new-w.ensures _ (search rules) room ∙ ap (λ (l : List ℕ). overlaid l G.out.now) same;
    }
