-- The laws of a stored answer to Message: what is left in the buffer is what it says. Assumes nothing.
use Prim.Native.Nat.{ℕ, ◌≤◌}
use mathlib.Core.Path.{◌≡◌, refl, sym, ap, ◌∙◌}
use mathlib.Core.Bool.{Bool, true, false}
use mathlib.Core.List.{List}
use native.Mathlib.Omega.{arith}
use lib.Dec.{ltb}
use lib.IntN.{ℤ}
use lib.ListN.{length, get_or, length-take}
use mir.Syntax.{w64}
use mir.Val.{SFits, to_z, of_z}
use mir.ValLaws.{to_z-of_z}
use borrow.Author.Tests.{le-leb, ltb-false}
use Rattle.std.specs.Prelude.{if◌then◌else◌, Err, Ok, Result}
use Rattle.text.specs.Base.{part}
use Rattle.script.specs.Refusals.{refusal}
use Rattle.script.specs.declared.records.Expect.{Expect}
use Rattle.script.specs.declared.records.Refusal.{Refusal}
use Rattle.script.specs.declared.refusals.Reason.TheVariants.{MessageTooLong, ValueTooLong}
use Rattle.verdicts.specs.Told.{Subject}
use Rattle.verdicts.specs.Held.{expected_of, expect_in}
use Rattle.verdicts.specs.Subjects.{held_by, parts_in}
use Rattle.verdicts.specs.declared.handed.Handed.{Handed}
use Rattle.verdicts.specs.declared.handed.Handed.TheVariants.{Info, Response}
use Rattle.verdicts.specs.Expected.{Expected}
use Rattle.verdicts.specs.Lookup.{looked, present_bytes}
use Rattle.verdicts.specs.Messages.{message}
use Rattle.verdicts.specs.Verdicts.{verdict}
use Rattle.verdicts.specs.declared.Verdict.{Verdict}
use Rattle.written.proofs.WrittenLaws.{front_taken}
use Rattle.rows.specs.Rows.{expect_row, response_row, info_row}
use Rattle.row_messages.specs.Messages.{subject_told}
use Rattle.told.specs.Told.{counted, framed_as, told, told_of, unless_refused}
use Rattle.told.specs.declared.Told.{Told}
use Rattle.replayed.specs.Told.{of_handshake, table_of, says_so, written_as}
use Rattle.replay_script.specs.Judged.{says_of, entry_says, handshake_says, says, handed_by}

-- ---- what was left in the buffer is the message

-- an answer that is no refusal has the message's length, which the buffer has
framed-fits : (v : Verdict) (t : Told) (value said scratch buffer : ℕ) → Ok t ≡ framed_as v value said scratch buffer → (t.len ≡ said) × (said ≤ buffer)
unfolding framed_as
framed-fits v t value said scratch buffer = go (ltb scratch value) (ltb buffer said) refl
  where
    go : (a b : Bool) → ltb buffer said ≡ b
        → Ok t ≡ (if a then Err (refusal ValueTooLong 0) else if b then Err (refusal MessageTooLong 0) else Ok (told v said)) → (t.len ≡ said) × (said ≤ buffer)
    go true b f q = let z : ◌≡◌ {A = ℕ} 0 1 = cc in absurd (omega arith)
    go false true f q = let z : ◌≡◌ {A = ℕ} 0 1 = cc in absurd (omega arith)
    go false false f q = let z : t ≡ told v said = cc in (ap (λ (u : Told). u.len) z, ltb-false buffer said f)

told-fits : (a b : Bool) (s : Subject) (e : Expected) (scratch buffer : ℕ) (t : Told) → Ok t ≡ told_of a b s e scratch buffer → (t.len ≡ length (message s e)) × (length (message s e) ≤ buffer)
unfolding told_of
told-fits true true s e scratch buffer t q = framed-fits (verdict s e) t (length (present_bytes (looked s e))) (length (message s e)) scratch buffer q
told-fits true false s e scratch buffer t q = let z : ◌≡◌ {A = ℕ} 0 1 = cc in absurd (omega arith)
told-fits false b s e scratch buffer t q = let z : ◌≡◌ {A = ℕ} 0 1 = cc in absurd (omega arith)

left_is : (r : Result Told Refusal) (a b : Bool) (s : Subject) (e : Expected) (scratch buffer : ℕ) (lent left : List ℕ) → length lent ≡ buffer → r ≡ told_of a b s e scratch buffer
    → left ≡ unless_refused (told_of a b s e scratch buffer) (message s e) lent → (v : ℕ) (stored : List ℕ) → written_as r v left stored ≡ says_so r v (message s e) stored
unfolding written_as says_so unless_refused
left_is (Err r) a b s e scratch buffer lent left w q o v stored = refl
left_is (Ok t) a b s e scratch buffer lent left w q o v stored =
    let k = told-fits a b s e scratch buffer t q in
    let f = front_taken (message s e) lent left t.len (omega (arith, k.1, w)) k.0 (o ∙ ap (λ (r : Result Told Refusal). unless_refused r (message s e) lent) (sym q)) in
    rw (le-leb t.len (length left) (omega (arith, ap length f, k.0, length-take t.len left)), f)

module _ (n : List ℕ) (m : ℤ) (text bytes stored : List ℕ) where
  -- what Message says by what the expectation is judged against
  says_by : Handed → Bool
  says_by h =
      let e = expect_row (part n 2 6) m in
      let lists = counted (table_of n) in
      says_of (expect_in (length text) e) (parts_in bytes lists h) (held_by bytes lists h) (expected_of text e) (get_or n 1 0) stored

  says_handed : says_by (handed_by n) ≡ says n m text bytes stored
  unfolding handed_by says says_by entry_says handshake_says held_by parts_in
  says_handed = go (of_handshake n)
    where
      go : (b : Bool) → says_by (if b then Info (info_row (part n 8 19)) else Response (response_row (part n 8 19))) ≡ (if b then handshake_says n m text bytes stored else entry_says n m text bytes stored)
      go true = refl
      go false = refl

  -- the machine hands the matcher's number on as bits, and reads it back
  module _ (f : SFits w64 m) (e : Expect) (ee : e ≡ expect_row (part n 2 6) (to_z w64 (of_z w64 m))) where
    expect_handed : e ≡ expect_row (part n 2 6) m
    expect_handed = ee ∙ ap (expect_row (part n 2 6)) (to_z-of_z w64 m f)

    pub said_is : (table : List (List ℕ)) → table ≡ table_of n → (h : Handed) → h ≡ handed_by n → (lent left : List ℕ) → length lent ≡ 256 → (t : Result Told Refusal) (b : Bool) → b ≡ written_as t (get_or n 1 0) left stored
        → t ≡ subject_told text e bytes table h 256 256
        → left ≡ unless_refused (subject_told text e bytes table h 256 256) (message (held_by bytes (counted table) h) (expected_of text e)) lent
        → b ≡ says n m text bytes stored
    unfolding says_of says_by
    said_is table et h eh lent left k t b w q o =
        w ∙ left_is t _ _ (held_by bytes (counted table) h) (expected_of text e) 256 256 lent left k q o (get_or n 1 0) stored
        ∙ rw (q, expect_handed, eh, et) says_handed
