-- `listing::whole::list_entries` meets its contract: the lines of the entries passed are written. Assumes nothing.
use borrow.Author.Rules.{rules}
use native.Mathlib.Omega.{arith}
use Rattle.listing.proofs.WholeLaws.{printed_none, printed_all, printed_room, printed_more}
use Rattle.listing.proofs.whole.list_entries.Goals as goal

pub loop-entry-init : goal.loop-entry-init
loop-entry-init c = printed_none c.args.w.now

pub put_entry_line-requires : goal.put_entry_line-requires
put_entry_line-requires c = printed_room c.args.entries.now _ c.args.w.now _ c.loop-entry.invariant c.requires (search rules)

pub loop-entry-preserved : goal.loop-entry-preserved
loop-entry-preserved c =
    printed_more c.args.entries.now _ c.args.w.now _ c.loop-entry.invariant c.requires (search rules) _ _ (search rules) (c.put_entry_line.ensures.written, c.put_entry_line.ensures.upper_bound)

pub returns : goal.returns
returns c =
    let done = printed_all c.args.entries.now _ c.args.w.now _ c.loop-entry.invariant c.requires (search rules) in
    record { written = done.0; upper_bound = done.1 }
