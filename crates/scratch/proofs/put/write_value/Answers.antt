-- `scratch::put::write_value` meets its contract. Assumes nothing.
use borrow.Author.Rules.{rules}
use mathlib.Core.Path.{◌∙◌}
use Rattle.written.proofs.WriterLaws.{handed_at, handed_back}
use Rattle.scratch.proofs.put.write_value.Goals as goal

pub returns : goal.returns
returns c =
    let done = c.write_value_at.ensures in
    record {
      value = c.position.ensures ∙ handed_at _ _ _ _ done c.new-w.ensures;
      scratch_after = handed_back _ _ _ _ done c.new-w.ensures _ (search rules) c.requires;
    }
