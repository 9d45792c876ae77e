-- `listing::whole::list_script` meets its contract: the first line, then those of the entries. Assumes nothing.
use borrow.Author.Rules.{rules}
use native.Mathlib.Omega.{arith}
use mathlib.Core.Path.{◌∙◌}
use Rattle.written.proofs.WriterLaws.{handed_at, handed_written}
use Rattle.listing.proofs.WholeLaws.{entries_room, script_put}
use Rattle.listing.proofs.whole.list_script.Goals as goal

pub list_entries-requires : goal.list_entries-requires
list_entries-requires c =
    entries_room c.args.s c.args.entries.now _ c.new-w.result _ c.requires.entries_in_bounds (search rules) (c.put_header.ensures.written, c.put_header.ensures.upper_bound)

pub returns : goal.returns
returns c =
    let done =
    script_put c.args.s c.args.entries.now _ c.new-w.result _ c.requires.entries_in_bounds (search rules) (c.put_header.ensures.written, c.put_header.ensures.upper_bound)
    _ (c.list_entries.ensures.written, c.list_entries.ensures.upper_bound) in
    record {
      value = c.position.ensures ∙ handed_at _ _ _ _ done c.new-w.ensures;
      out_after = handed_written _ _ _ _ done c.new-w.ensures _ (search rules);
    }
