-- `expect::message::message` meets its contract: refusals first, in the order of the paper. Assumes nothing.
use Rattle.std.proofs.Common.{rules, ◌≡◌, length, true, false, Err, Result, ap, sym, ◌∙◌}
use Rattle.script.specs.declared.records.Refusal.{Refusal}
use Rattle.verdicts.specs.Held.{expected_of, expect_in}
use Rattle.verdicts.specs.Subjects.{held_by, parts_in}
use Rattle.told.specs.Told.{counted}
use Rattle.told.specs.declared.Told.{Told}
use Rattle.told.proofs.ToldLaws.{outside_text}
use Rattle.expect.proofs.TellLaws.{message-judged, message-refused}
use Rattle.expect.proofs.message.message.Goals as goal

pub returns-then-not-expect_in : goal.returns-then-not-expect_in
returns-then-not-expect_in c =
    let S = c.args in
    let T = counted S.held.lists.now in
    let out : c.expect_in.result ≡ false = search rules in
    let a = outside_text (expect_in (length S.text.now) S.e) (parts_in S.held.bytes.now T S.h.now) (held_by S.held.bytes.now T S.h.now) (expected_of S.text.now S.e) S.scratch.now S.buffer.now _
    (sym c.expect_in.ensures ∙ out) (ap {B = Result Told Refusal} (λ (r : Refusal). Err r) c.from.ensures) in
    record { value = a.0; scratch_after = a.1.0; buffer_after = a.1.1 }

pub returns-then-not-parts_in : goal.returns-then-not-parts_in
returns-then-not-parts_in c =
    let S = c.args in
    let within : c.expect_in.result ≡ true = search rules in
    let out : c.parts_in.result ≡ false = search rules in
    let a = message-refused S.text.now S.held.bytes.now S.e S.h.now S.scratch.now S.buffer.now S.held.lists.now c.counted_of.result.now c.counted_of.ensures
    _ _ _ c.expect_in.ensures within c.parts_in.ensures out (ap {B = Result Told Refusal} (λ (r : Refusal). Err r) c.from-then-not-parts_in.ensures) in
    record { value = a.0; scratch_after = a.1.0; buffer_after = a.1.1 }

pub returns : goal.returns
returns c =
    let S = c.args in
    let within : c.expect_in.result ≡ true = search rules in
    let held : c.parts_in.result ≡ true = search rules in
    let a = message-judged S.text.now S.held.bytes.now S.e S.h.now S.scratch.now S.buffer.now S.held.lists.now c.counted_of.result.now c.counted_of.ensures
    _ _ _ c.looked_value-value.result _ _ _ _ _ c.expect_in.ensures within c.parts_in.ensures held
    (c.looked_value-value.ensures S.held.bytes.now c.counted_of.result.now)
    c.verdict-v.ensures
    c.is_missing.ensures
    c.message_frame-f.ensures
    (c.tell.ensures.value, (c.tell.ensures.scratch_after, c.tell.ensures.buffer_after)) in
    record { value = a.0; scratch_after = a.1.0; buffer_after = a.1.1 }
