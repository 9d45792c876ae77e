-- Laws of rows and of answers. Assumes nothing.
use Prim.Native.Nat.{ℕ, ◌-◌}
use mathlib.Core.Path.{◌≡◌, refl}
use mathlib.Core.List.{List, [], ◌∷◌, map}
use native.Mathlib.Omega.{arith}
use lib.ListN.{length, take, drop, length-drop}
use lib.Seq.{take_all}
use lib.Dec.{eqb}
use Rattle.std.specs.Prelude.{if◌then◌else◌, Err, Ok, Result}
use Rattle.script.specs.Refusals.{refusal, reason_number}
use Rattle.script.specs.declared.records.Refusal.{Refusal}
use Rattle.script.specs.declared.refusals.Reason.{Reason}
use Rattle.script.specs.declared.refusals.Reason.TheVariants.{TextTooLong, NotUtf8, UnexpectedPreambleLine, UnknownExpectation, MatcherNumberUnreadable, TimestampWithoutMs, NoF64, NotCarried, UnknownOperation, BraceNotClosed, DataUnknown, FewEntries, FewItems, FewExpectations, FewStoreBytes, ExpectationOutside, PartOutside, WrongNumber, ValueTooLong, FewSlots, CountTooHigh, NotAllJudged, MessageTooLong}
use Rattle.tallies.specs.declared.tally.Outcome.{Outcome}
use Rattle.tallies.specs.declared.tally.Outcome.TheVariants.{Failed, Undecided, NothingChecked, Passed}
use Rattle.tallies.specs.declared.calls.Answer.{Answer}
use Rattle.tallies.specs.declared.calls.Answer.TheVariants.{Judged, Closed}
use Rattle.calls.specs.CallRows.{outcome_code, answer_code}

-- the part of a row from a place to its end
pub rest-is : (row : List ℕ) (i : ℕ) → take (length row - i) (drop i row) ≡ drop i row
rest-is row i = take_all (length row - i) (drop i row) (omega (arith, length-drop i row))

-- ---- an answer is told by its number

reasons : List Reason
reasons =
    TextTooLong
    ∷ NotUtf8
    ∷ UnexpectedPreambleLine
    ∷ UnknownExpectation
    ∷ MatcherNumberUnreadable
    ∷ TimestampWithoutMs
    ∷ NoF64
    ∷ NotCarried
    ∷ UnknownOperation
    ∷ BraceNotClosed
    ∷ DataUnknown
    ∷ FewEntries
    ∷ FewItems
    ∷ FewExpectations
    ∷ FewStoreBytes
    ∷ ExpectationOutside
    ∷ PartOutside
    ∷ WrongNumber
    ∷ ValueTooLong
    ∷ FewSlots
    ∷ CountTooHigh
    ∷ NotAllJudged
    ∷ MessageTooLong
    ∷ []

-- the first answer of a number
first_of_number : ℕ → List (Result Answer Refusal) → Result Answer Refusal
first_of_number n [] = Ok Judged
first_of_number n (a ∷ as') = if eqb (answer_code a) n then a else first_of_number n as'

-- the answer of a number
pub answered : ℕ → Result Answer Refusal
answered n =
    first_of_number n
    (Ok Judged ∷ Ok (Closed Passed) ∷ Ok (Closed Failed) ∷ Ok (Closed Undecided) ∷ Ok (Closed NothingChecked) ∷ map (λ r. Err (refusal r 0)) reasons)

pub tells_judged : answered (answer_code (Ok Judged)) ≡ Ok Judged
unfolding answered first_of_number answer_code
tells_judged = refl

pub tells_closed : (o : Outcome) → answered (answer_code (Ok (Closed o))) ≡ Ok (Closed o)
unfolding answered first_of_number answer_code outcome_code
tells_closed Passed = refl
tells_closed _ = refl

-- every refusal has line 0
pub tells_refused : (r : Reason) → answered (answer_code (Err (refusal r 0))) ≡ Err (refusal r 0)
unfolding answered first_of_number reasons answer_code outcome_code reason_number
tells_refused TextTooLong = refl
tells_refused _ = refl
