-- Document 01, *Message*: one expectation, judged afresh as handshake or entry, a present value left in the scratch; the message stands at the start of
-- its buffer, the rest untouched. Assumes nothing.
use Rattle.std.specs.Prelude.{ℕ, Bool, not, List, length, take, ltb, if◌then◌else◌, Result, Ok, Err}
use Rattle.text.specs.Base.{overlaid}
use Rattle.verdicts.specs.Expected.{Expected}
use Rattle.verdicts.specs.Told.{Subject}
use Rattle.verdicts.specs.Lookup.{looked, present_bytes}
use Rattle.verdicts.specs.Verdicts.{verdict}
use Rattle.verdicts.specs.Messages.{message}
use Rattle.verdicts.specs.declared.Verdict.{Verdict}
use Rattle.script.specs.Refusals.{refusal}
use Rattle.script.specs.declared.records.Refusal.{Refusal}
use Rattle.script.specs.declared.refusals.Reason.TheVariants.{ExpectationOutside, MessageTooLong, PartOutside, ValueTooLong}
use Rattle.told.specs.declared.Told.{Told}

-- Only the first 32,768 records of any lent table count.
abbrev pub counted : List (List ℕ) → List (List ℕ)
counted lists = take 0x8000 lists

abbrev pub told : Verdict → (len : ℕ) → Told
told v n = record { verdict = v; len = n }

-- refused where the present value is longer than the scratch, or the message longer than its buffer; else the verdict, and how long the message is
unfoldable pub framed_as : Verdict → (value message scratch buffer : ℕ) → Result Told Refusal
framed_as v value message scratch buffer =
    if ltb scratch value then Err (refusal ValueTooLong 0) else if ltb buffer message then Err (refusal MessageTooLong 0) else Ok (told v message)

-- what Message answers: whether every part of the expectation lies inside the text, whether every part of what it is judged against does in its bytes,
-- and how long the scratch and the buffer are
unfoldable pub told_of : (in_text in_bytes : Bool) → Subject → Expected → (scratch buffer : ℕ) → Result Told Refusal
told_of in_text in_bytes s e scratch buffer =
    if not in_text then Err (refusal ExpectationOutside 0)
    else if not in_bytes then Err (refusal PartOutside 0)
    else framed_as (verdict s e) (length (present_bytes (looked s e))) (length (message s e)) scratch buffer

-- bytes at the start of a lent slice, unless the answer is a refusal
unfoldable pub unless_refused : Result Told Refusal → (bytes lent : List ℕ) → List ℕ
unless_refused (Err r) bytes lent = lent
unless_refused (Ok t) bytes lent = overlaid bytes lent
