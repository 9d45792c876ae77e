-- `messages::writes::put_frame` meets its contract: words and pieces, one behind the other. Assumes nothing.
use borrow.Author.Rules.{rules}
use mathlib.Core.Path.{◌∙◌}
use Rattle.written.proofs.WriterLaws.{wrote_as, handed_at, handed_back}
use Rattle.messages.proofs.MessageLaws.{frame_wrote}
use Rattle.messages.proofs.writes.put_frame.Goals as goal

pub returns : goal.returns
returns c =
    let done = frame_wrote _ _ _ c.args.f _ (search rules) _ (wrote_as _ _ c.head_word.ensures _ _ c.put.ensures) _ (wrote_as _ _ c.text_at.ensures _ _ c.put-2.ensures) _ (wrote_as _ _ c.middle_word.ensures _ _ c.put-3.ensures) _ c.put_piece.ensures _ c.put_ending.ensures in
    record {
      value = c.position.ensures ∙ handed_at _ _ _ _ done c.new-w.ensures;
      out_after = handed_back _ _ _ _ done c.new-w.ensures _ (search rules) c.requires;
    }
