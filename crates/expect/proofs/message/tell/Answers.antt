-- `expect::message::tell` meets its contract: first the rooms, then the bytes. Assumes nothing.
use Rattle.std.proofs.Common.{rules, ◌≡◌, ℕ, List, length, Err, Result, None, Some, ap, refl, ◌∙◌, arith}
use Rattle.text.specs.Base.{overlaid}
use Rattle.script.specs.Refusals.{refusal}
use Rattle.script.specs.declared.records.Refusal.{Refusal}
use Rattle.script.specs.declared.refusals.Reason.TheVariants.{MessageTooLong, ValueTooLong}
use Rattle.frames.specs.Frames.{frame_bytes}
use Rattle.sought.specs.Values.{value_text}
use Rattle.told.specs.declared.Told.{Told}
use Rattle.told.proofs.ToldLaws.{value-too_long, message-too_long, both_written}
use Rattle.expect.proofs.TellLaws.{room-left, room_short, value_in, value_sized, value_taken, frame_fits, frame_long}
use Rattle.expect.proofs.message.tell.Goals as goal

pub returns-in_err-left : goal.returns-in_err-left
returns-in_err-left c =
    let S = c.args in
    let value = value_text S.held.bytes.now S.held.lists.now S.value in
    let none : c.value_room.result ≡ None = search rules in
    let refused : ◌≡◌ {A = Result Told Refusal} c.from_residual.result (Err (refusal ValueTooLong 0)) = search rules in
    let a = value-too_long S.v value (frame_bytes S.text.now S.held.bytes.now value S.f) S.scratch.now S.buffer.now _ refused (room_short _ _ _ c.value_room.ensures none) in
    record { value = a.0; scratch_after = a.1.0; buffer_after = a.1.1 }

pub overflow_sub-long : goal.overflow_sub-long
overflow_sub-long c =
    let some : c.value_room.result ≡ Some c.in_ok-left.left = search rules in
    omega (arith, room-left _ _ _ _ c.value_room.ensures some)

pub returns-in_err-ok_or : goal.returns-in_err-ok_or
returns-in_err-ok_or c =
    let S = c.args in
    let value = value_text S.held.bytes.now S.held.lists.now S.value in
    let some : c.value_room.result ≡ Some c.in_ok-left.left = search rules in
    let none : c.frame_room.result ≡ None = search rules in
    let refused : ◌≡◌ {A = Result Told Refusal} c.from_residual-in_err-ok_or.result (Err (refusal MessageTooLong 0)) = search rules in
    let l = room-left _ _ _ _ c.value_room.ensures some in
    let a = message-too_long S.v value (frame_bytes S.text.now S.held.bytes.now value S.f) S.scratch.now S.buffer.now _ refused l.0 (frame_long _ _ value _ _ _ _ _ l.0 l.1 c.frame_room.ensures none) in
    record { value = a.0; scratch_after = a.1.0; buffer_after = a.1.1 }

pub write_value-n-requires : goal.write_value-n-requires
write_value-n-requires c =
    let some : c.value_room.result ≡ Some c.in_ok-left.left = search rules in
    (room-left _ _ _ _ c.value_room.ensures some).0

pub slice_bounds-put_frame-end : goal.slice_bounds-put_frame-end
slice_bounds-put_frame-end c =
    let some : c.value_room.result ≡ Some c.in_ok-left.left = search rules in
    value_in _ _ _ _ (room-left _ _ _ _ c.value_room.ensures some).0 c.write_value-n.ensures.value c.write_value-n.ensures.scratch_after

pub slice_bounds-put_frame-end-2 : goal.slice_bounds-put_frame-end-2
slice_bounds-put_frame-end-2 c =
    let some : c.value_room.result ≡ Some c.in_ok-left.left = search rules in
    value_sized _ _ _ _ (room-left _ _ _ _ c.value_room.ensures some).0 c.write_value-n.ensures.value c.write_value-n.ensures.scratch_after

pub put_frame-len-requires : goal.put_frame-len-requires
put_frame-len-requires c =
    let some : c.value_room.result ≡ Some c.in_ok-left.left = search rules in
    let fits : c.frame_room.result ≡ Some c.in_ok-ok_or.field-0 = search rules in
    let l = room-left _ _ _ _ c.value_room.ensures some in
    frame_fits _ _ _ _ _ _ _ _ _ _ l.0 l.1 (value_taken _ _ _ _ l.0 c.write_value-n.ensures.value c.write_value-n.ensures.scratch_after) c.frame_room.ensures fits

pub returns : goal.returns
returns c =
    let S = c.args in
    let value = value_text S.held.bytes.now S.held.lists.now S.value in
    let some : c.value_room.result ≡ Some c.in_ok-left.left = search rules in
    let fits : c.frame_room.result ≡ Some c.in_ok-ok_or.field-0 = search rules in
    let l = room-left _ _ _ _ c.value_room.ensures some in
    let t = value_taken value _ _ _ l.0 c.write_value-n.ensures.value c.write_value-n.ensures.scratch_after in
    let q = ap (λ (l : List ℕ). frame_bytes S.text.now S.held.bytes.now l S.f) t in
    let a = both_written S.v value (frame_bytes S.text.now S.held.bytes.now value S.f) S.scratch.now S.buffer.now _ _ _ l.0 (frame_fits _ _ value value _ _ _ _ _ _ l.0 l.1 refl c.frame_room.ensures fits)
    (c.put_frame-len.ensures.value ∙ ap length q)
    c.write_value-n.ensures.scratch_after
    (c.put_frame-len.ensures.out_after ∙ ap (λ (l : List ℕ). overlaid l S.buffer.now) q) in
    record { value = a.0; scratch_after = a.1.0; buffer_after = a.1.1 }
