-- Rooms that were found, and what Message answers by them. Assumes nothing.
use Rattle.std.specs.Prelude.{Err, None, Option, Result, Some}
use Prim.Native.Nat.{ℕ, ◌-◌, ◌≤◌, ◌<◌}
use mathlib.Core.Path.{◌≡◌, refl, sym, ap, subst, ◌∙◌}
use mathlib.Core.Bool.{Bool, true, false}
use mathlib.Core.List.{List}
use native.Mathlib.Omega.{arith}
use lib.Dec.{leb}
use borrow.Author.Tests.{leb-true, leb-false}
use lib.ListN.{length, take, length-take}
use Rattle.text.specs.Base.{overlaid}
use Rattle.script.specs.Refusals.{refusal}
use Rattle.writing.specs.Room.{left}
use Rattle.writing.proofs.RoomLaws.{left-fits, left_short}
use Rattle.written.proofs.WrittenLaws.{front_taken}
use Rattle.script.specs.declared.records.Expect.{Expect}
use Rattle.script.specs.declared.records.Refusal.{Refusal}
use Rattle.verdicts.specs.Held.{expected_of, expect_in}
use Rattle.verdicts.specs.Lookup.{looked, present_bytes}
use Rattle.verdicts.specs.Verdicts.{verdict}
use Rattle.verdicts.specs.Messages.{message}
use Rattle.verdicts.specs.Subjects.{held_by, parts_in}
use Rattle.verdicts.specs.declared.Verdict.{Verdict}
use Rattle.verdicts.specs.declared.handed.Handed.{Handed}
use Rattle.verdicts.specs.declared.handed.Handed.TheVariants.{Info, Response}
use Rattle.frames.specs.Frames.{is_missing, frame_bytes}
use Rattle.frames.specs.declared.frames.Frame.{Frame}
use Rattle.frames.proofs.FrameLaws.{entry_says, handshake-says}
use Rattle.message_frames.specs.MessageFrames.{message_frame}
use Rattle.messages.specs.Lengths.{frame_length}
use Rattle.messages.proofs.MessageLaws.{frame_length_lem}
use Rattle.sought.specs.Values.{value_bytes, value_text}
use Rattle.sought.specs.declared.value.Value.{Value}
use Rattle.sought.proofs.ValueLaws.{text-is}
use Rattle.told.specs.Told.{counted, told_of, unless_refused}
use Rattle.told.proofs.ToldLaws.{Answers, judged, outside_bytes}
use Rattle.expect.specs.ExpectRead.{no_value}
use Rattle.told.specs.declared.Told.{Told}
use Rattle.script.specs.declared.refusals.Reason.TheVariants.{PartOutside}

-- ---- rooms

pub room-left : (room n k : ℕ) (r : Option ℕ) → r ≡ left room n → r ≡ Some k → (n ≤ room) × (k ≡ room - n)
room-left room n k r p q = go (leb n room) refl
  where
    go : (t : Bool) → leb n room ≡ t → (n ≤ room) × (k ≡ room - n)
    go true e =
        let h = leb-true n room e in
        let f : left room n ≡ Some (room - n) = left-fits room n h in
        let z : k ≡ room - n = cc in
        (h, z)
    go false e =
        let f : left room n ≡ None = left_short room n (leb-false n room e) in
        let z : ◌≡◌ {A = ℕ} 0 1 = cc in
        absurd (omega arith)

pub room_short : (room n : ℕ) (r : Option ℕ) → r ≡ left room n → r ≡ None → room < n
room_short room n r p q = go (leb n room) refl
  where
    go : (t : Bool) → leb n room ≡ t → room < n
    go true e =
        let f : left room n ≡ Some (room - n) = left-fits room n (leb-true n room e) in
        let z : ◌≡◌ {A = ℕ} 0 1 = cc in
        absurd (omega arith)
    go false e = leb-false n room e

-- ---- values that may be missing

pub missing-is : (bytes : List ℕ) (lists : List (List ℕ)) (v : Value) → no_value v ≡ is_missing (value_bytes bytes lists v)
unfolding no_value is_missing value_bytes
missing-is bytes lists Value.Missing = refl
missing-is bytes lists (Value.Number n) = refl
missing-is bytes lists (Value.Text p) = refl
missing-is bytes lists Value.Unknown = refl
missing-is bytes lists Value.Trusted = refl
missing-is bytes lists Value.NotTrusted = refl
missing-is bytes lists (Value.List r) = refl
missing-is bytes lists (Value.Features r) = refl

-- ---- a value that stands at the front of the scratch, and its message

module _ (value scratch written : List ℕ) (n : ℕ) (fits : length value ≤ length scratch) (e : n ≡ length value) (o : written ≡ overlaid value scratch) where
  pub value_taken : take n written ≡ value
  value_taken = front_taken value scratch written n fits e o

  pub value_sized : n ≡ length (take n written)
  value_sized = e ∙ ap length (sym value_taken)

  pub value_in : n ≤ length written
  value_in = omega (arith, value_sized, length-take n written)

-- the length that was added up: k is what is left of a room of s bytes
pub frame_size : (text bytes value : List ℕ) (f : Frame) (s k : ℕ) → length value ≤ s → k ≡ s - length value → frame_length text bytes (s - k) f ≡ length (frame_bytes text bytes value f)
frame_size text bytes value f s k h e =
    let l : s - k ≡ length value = omega arith in
    ap (λ (n : ℕ). frame_length text bytes n f) l ∙ frame_length_lem text bytes value f

pub frame_fits : (text bytes value taken : List ℕ) (f : Frame) (s k room j : ℕ) (r : Option ℕ) → length value ≤ s → k ≡ s - length value → taken ≡ value
    → r ≡ left room (frame_length text bytes (s - k) f) → r ≡ Some j → length (frame_bytes text bytes taken f) ≤ room
frame_fits text bytes value taken f s k room j r h e t p q =
    let a = room-left room (frame_length text bytes (s - k) f) j r p q in
    omega (arith, a.0, frame_size text bytes value f s k h e, ap (λ (l : List ℕ). length (frame_bytes text bytes l f)) t)

pub frame_long : (text bytes value : List ℕ) (f : Frame) (s k room : ℕ) (r : Option ℕ) → length value ≤ s → k ≡ s - length value
    → r ≡ left room (frame_length text bytes (s - k) f) → r ≡ None → room < length (frame_bytes text bytes value f)
frame_long text bytes value f s k room r h e p q = omega (arith, room_short room (frame_length text bytes (s - k) f) r p q, frame_size text bytes value f s k h e)

-- ---- whole answers

-- the frame of an expectation is what document 01 says of it
subject-says : (text bytes : List ℕ) (lists : List (List ℕ)) (h : Handed) (x : Expect) (missing : Bool) (v : Verdict)
    → missing ≡ is_missing (looked (held_by bytes lists h) (expected_of text x))
    → v ≡ verdict (held_by bytes lists h) (expected_of text x)
    → frame_bytes text bytes (present_bytes (looked (held_by bytes lists h) (expected_of text x))) (message_frame x missing v h) ≡ message (held_by bytes lists h) (expected_of text x)
unfolding held_by looked message message_frame
subject-says text bytes lists (Info i) x missing v k e = handshake-says text bytes lists i x v e
subject-says text bytes lists (Response r) x missing v k e = entry_says text bytes lists r x missing v k e

module _ (text bytes : List ℕ) (x : Expect) (h : Handed) (scratch buffer : List ℕ) (lists table : List (List ℕ)) (same : table ≡ counted lists) where
  -- by a table that is the one that counts
  abbrev MessageTold : List (List ℕ) → Result Told Refusal → (scr buf : List ℕ) → Type 0
  MessageTold T t scr buf =
      (t ≡ told_of (expect_in (length text) x) (parts_in bytes T h) (held_by bytes T h) (expected_of text x) (length scratch) (length buffer))
      × ((scr ≡ unless_refused t (present_bytes (looked (held_by bytes T h) (expected_of text x))) scratch) × (buf ≡ unless_refused t (message (held_by bytes T h) (expected_of text x)) buffer))

  pub message-judged : (a b missing : Bool) (value : Value) (v : Verdict) (f : Frame) (t : Result Told Refusal) (scr buf : List ℕ) → a ≡ expect_in (length text) x → a ≡ true
      → b ≡ parts_in bytes table h → b ≡ true
      → value_bytes bytes table value ≡ looked (held_by bytes table h) (expected_of text x)
      → v ≡ verdict (held_by bytes table h) (expected_of text x)
      → missing ≡ no_value value
      → f ≡ message_frame x missing v h
      → Answers v (value_text bytes table value) (frame_bytes text bytes (value_text bytes table value) f) scratch buffer t scr buf
      → MessageTold (counted lists) t scr buf
  message-judged a b missing value v f t scr buf p p' q q' l i k g w =
      let y = text-is bytes table value _ l in
      let m = k ∙ missing-is bytes table value ∙ ap is_missing l in
      let says =
      ap (frame_bytes text bytes (value_text bytes table value)) g
      ∙ ap (λ (z : List ℕ). frame_bytes text bytes z (message_frame x missing v h)) y
      ∙ subject-says text bytes table h x missing v m i in
      subst (λ (T : List (List ℕ)). MessageTold T t scr buf) same
      (judged (expect_in (length text) x) (parts_in bytes table h) (held_by bytes table h) (expected_of text x) scratch buffer v (value_text bytes table value) (frame_bytes text bytes (value_text bytes table value) f) scr buf t (sym p ∙ p') (sym q ∙ q') i y says w)

  pub message-refused : (a b : Bool) (t : Result Told Refusal) → a ≡ expect_in (length text) x → a ≡ true → b ≡ parts_in bytes table h → b ≡ false → t ≡ Err (refusal PartOutside 0) → MessageTold (counted lists) t scratch buffer
  message-refused a b t p p' q q' r =
      subst (λ (T : List (List ℕ)). MessageTold T t scratch buffer) same
      (outside_bytes (expect_in (length text) x) (parts_in bytes table h) (held_by bytes table h) (expected_of text x) scratch buffer t (sym p ∙ p') (sym q ∙ q') r)
