-- `exports::message_exports::nwscript_handshake_message` meets its contract. Assumes nothing.
use mathlib.Core.Path.{ap, ◌∙◌}
use Rattle.script.specs.declared.response.HandshakeInfo.{HandshakeInfo}
use Rattle.verdicts.specs.Lookup.{looked}
use Rattle.verdicts.specs.Messages.{message}
use Rattle.verdicts.specs.Subjects.{held_by, parts_in}
use Rattle.given.specs.Told.{refusal_of, verdict_of, length_of}
use Rattle.row_messages.proofs.MessageLaws.{row_handed}
use Rattle.rows.specs.Rows.{info_row}
use Rattle.verdicts.specs.declared.handed.Handed.TheVariants.{Info}
use Rattle.exports.proofs.message_exports.nwscript_handshake_message.Goals as goal

pub returns : goal.returns
unfolding held_by parts_in looked message
returns c =
    let S = c.args in
    let M = c.message-told.ensures in
    let e = ap (λ (x : HandshakeInfo). Info x) c.info_of.ensures in
    let a = row_handed S.text.now S.bytes.now S.lists.now S.scratch.now S.buffer.now _ _ _ S.expectation.now S.n c.ranges.n _ (Info (info_row S.information.now)) e (M.value, (M.scratch_after, M.buffer_after)) in
    record {
      value = c.give_told.ensures.value ∙ ap refusal_of a.0;
      verdict_after = c.give_told.ensures.verdict_after ∙ ap verdict_of a.0;
      len_after = c.give_told.ensures.len_after ∙ ap length_of a.0;
      scratch_after = a.1.0;
      buffer_after = a.1.1;
    }
