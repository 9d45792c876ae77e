-- Document 01, "What each operation may refuse": a refusal, and the number of each reason. Assumes nothing.
use Rattle.std.specs.Prelude.{ℕ, Option, None, Some, Result, Ok, Err, ⊤}
use Rattle.script.specs.declared.records.Refusal.{Refusal}
use Rattle.script.specs.declared.refusals.Reason.{Reason}
use Rattle.script.specs.declared.refusals.Reason.TheVariants.{TextTooLong, NotUtf8, UnexpectedPreambleLine, UnknownExpectation, MatcherNumberUnreadable, TimestampWithoutMs, NoF64, NotCarried, UnknownOperation, BraceNotClosed, DataUnknown, FewEntries, FewItems, FewExpectations, FewStoreBytes, ExpectationOutside, PartOutside, WrongNumber, ValueTooLong, FewSlots, CountTooHigh, NotAllJudged, MessageTooLong}

-- something is refused, for a reason and with a line
abbrev pub refusal : Reason → (line : ℕ) → Refusal
refusal reason line = record { reason = reason; line = line }

-- all is well unless something is refused
unfoldable pub ok_unless : Option Refusal → Result ⊤ Refusal
ok_unless None = Ok _
ok_unless (Some r) = Err r

unfoldable pub reason_number : Reason → ℕ
-- Measure
reason_number TextTooLong = 1
reason_number NotUtf8 = 2
reason_number UnexpectedPreambleLine = 3
reason_number UnknownExpectation = 4
reason_number MatcherNumberUnreadable = 5
reason_number TimestampWithoutMs = 6
reason_number NoF64 = 7
reason_number NotCarried = 8
reason_number UnknownOperation = 9
reason_number BraceNotClosed = 10
reason_number DataUnknown = 11
-- Read
reason_number FewEntries = 21
reason_number FewItems = 22
reason_number FewExpectations = 23
reason_number FewStoreBytes = 24
-- Judge, Close and Message
reason_number ExpectationOutside = 31
reason_number PartOutside = 32
reason_number WrongNumber = 33
reason_number ValueTooLong = 34
reason_number FewSlots = 35
reason_number CountTooHigh = 36
reason_number NotAllJudged = 37
reason_number MessageTooLong = 38
