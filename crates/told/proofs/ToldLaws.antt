-- What Message answers, and what it leaves of what is lent, case by case. Assumes nothing.
use Rattle.std.specs.Prelude.{Result, Ok, Err}
use Prim.Native.Nat.{ℕ, ◌≤◌, ◌<◌}
use mathlib.Core.Path.{◌≡◌, refl, sym, ap, ◌∙◌}
use mathlib.Core.Bool.{Bool, true, false}
use mathlib.Core.List.{List}
use native.Mathlib.Omega.{arith}
use lib.Dec.{ltb}
use lib.ListN.{length, length-take}
use lib.Seq.{take_all, length-take-le}
use borrow.Author.Tests.{lt-ltb, le-ltb}
use Rattle.text.specs.Base.{overlaid}
use Rattle.verdicts.specs.Expected.{Expected}
use Rattle.verdicts.specs.Told.{Subject}
use Rattle.verdicts.specs.Lookup.{looked, present_bytes}
use Rattle.verdicts.specs.Verdicts.{verdict}
use Rattle.verdicts.specs.Messages.{message}
use Rattle.verdicts.specs.declared.Verdict.{Verdict}
use Rattle.script.specs.Refusals.{refusal}
use Rattle.script.specs.declared.records.Refusal.{Refusal}
use Rattle.script.specs.declared.refusals.Reason.TheVariants.{ExpectationOutside, MessageTooLong, PartOutside, ValueTooLong}
use Rattle.told.specs.Told.{counted, told, framed_as, told_of, unless_refused}
use Rattle.told.specs.declared.Told.{Told}

-- ---- tables

pub all_counted : (lists : List (List ℕ)) → length lists ≤ 0x8000 → lists ≡ counted lists
all_counted lists h = sym (take_all 0x8000 lists h)

pub counted_few : (lists : List (List ℕ)) → 0x8000 ≤ length lists → 0x8000 ≡ length (counted lists)
counted_few lists h = sym (length-take-le 0x8000 lists h)

pub few : (table lists : List (List ℕ)) → table ≡ counted lists → length table ≤ 0x8000
few table lists e = omega (arith, ap length e, length-take 0x8000 lists)

-- ---- where value and message are known by their bytes

module _ (v : Verdict) (value message scratch buffer : List ℕ) where
  abbrev pub Answers : Result Told Refusal → (s b : List ℕ) → Type 0
  Answers t s b =
      (t ≡ framed_as v (length value) (length message) (length scratch) (length buffer))
      × ((s ≡ unless_refused t value scratch) × (b ≡ unless_refused t message buffer))

  nothing_changed : (t : Result Told Refusal) (r : Refusal) → t ≡ Err r → (bytes lent : List ℕ) → lent ≡ unless_refused t bytes lent
  unfolding unless_refused
  nothing_changed t r e bytes lent = ap (λ (x : Result Told Refusal). unless_refused x bytes lent) (sym e)

  pub value-too_long : (t : Result Told Refusal) → t ≡ Err (refusal ValueTooLong 0) → length scratch < length value → Answers t scratch buffer
  unfolding framed_as
  value-too_long t e h = (e ∙ sym (first_fails (lt-ltb (length scratch) (length value) h)), (nothing_changed t _ e value scratch, nothing_changed t _ e message buffer))
    where
      first_fails : ltb (length scratch) (length value) ≡ true → framed_as v (length value) (length message) (length scratch) (length buffer) ≡ Err (refusal ValueTooLong 0)
      first_fails p = rw p

  pub message-too_long : (t : Result Told Refusal) → t ≡ Err (refusal MessageTooLong 0) → length value ≤ length scratch → length buffer < length message → Answers t scratch buffer
  unfolding framed_as
  message-too_long t e k h = (
    e ∙ sym (second_fails (le-ltb (length scratch) (length value) k) (lt-ltb (length buffer) (length message) h)),
    (nothing_changed t _ e value scratch, nothing_changed t _ e message buffer),
  )
    where
      second_fails : ltb (length scratch) (length value) ≡ false → ltb (length buffer) (length message) ≡ true → framed_as v (length value) (length message) (length scratch) (length buffer) ≡ Err (refusal MessageTooLong 0)
      second_fails p q = rw (p, q)

  pub both_written : (n : ℕ) (s b : List ℕ) → length value ≤ length scratch → length message ≤ length buffer → n ≡ length message → s ≡ overlaid value scratch → b ≡ overlaid message buffer → Answers (Ok (told v n)) s b
  unfolding framed_as unless_refused
  both_written n s b k h e p q = (ap {B = Result Told Refusal} (λ (x : ℕ). Ok (told v x)) e ∙ sym (fits (le-ltb (length scratch) (length value) k) (le-ltb (length buffer) (length message) h)), (p, q))
    where
      fits : ltb (length scratch) (length value) ≡ false → ltb (length buffer) (length message) ≡ false → framed_as v (length value) (length message) (length scratch) (length buffer) ≡ Ok (told v (length message))
      fits p q = rw (p, q)

-- ---- whole answers

module _ (in_text in_bytes : Bool) (s : Subject) (e : Expected) (scratch buffer : List ℕ) where
  abbrev pub Whole : Result Told Refusal → (scr buf : List ℕ) → Type 0
  Whole t scr buf =
      (t ≡ told_of in_text in_bytes s e (length scratch) (length buffer))
      × ((scr ≡ unless_refused t (present_bytes (looked s e)) scratch) × (buf ≡ unless_refused t (message s e) buffer))

  pub judged : (v : Verdict) (value said scr buf : List ℕ) (t : Result Told Refusal) → in_text ≡ true → in_bytes ≡ true → v ≡ verdict s e → value ≡ present_bytes (looked s e) → said ≡ message s e
      → Answers v value said scratch buffer t scr buf → Whole t scr buf
  unfolding told_of
  judged v value said scr buf t p q h k l a = rw (p, q, ← h, ← k, ← l) a

  pub outside_bytes : (t : Result Told Refusal) → in_text ≡ true → in_bytes ≡ false → t ≡ Err (refusal PartOutside 0) → Whole t scratch buffer
  unfolding told_of unless_refused
  outside_bytes t p q h = rw (p, q, h) (refl, (refl, refl))

  pub outside_text : (t : Result Told Refusal) → in_text ≡ false → t ≡ Err (refusal ExpectationOutside 0) → Whole t scratch buffer
  unfolding told_of unless_refused
  outside_text t p h = rw (p, h) (refl, (refl, refl))
