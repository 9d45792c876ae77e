-- `listing::whole::list_refusal` meets its contract. Assumes nothing.
use borrow.Author.Rules.{rules}
use mathlib.Core.Path.{◌∙◌}
use Rattle.written.proofs.WriterLaws.{handed_at, handed_written}
use Rattle.listing.proofs.whole.list_refusal.Goals as goal

pub returns : goal.returns
returns c =
    let done = c.put_refusal.ensures.written in
    record {
      value = c.position.ensures ∙ handed_at _ _ _ _ done c.new-w.ensures;
      out_after = handed_written _ _ _ _ done c.new-w.ensures _ (search rules);
    }
