-- What Message answers of an expectation and a response, or the handshake's information. Assumes nothing.
use Rattle.std.specs.Prelude.{ℕ, List, length, Result}
use Rattle.script.specs.declared.records.Expect.{Expect}
use Rattle.script.specs.declared.response.DaemonResponse.{DaemonResponse}
use Rattle.script.specs.declared.response.HandshakeInfo.{HandshakeInfo}
use Rattle.script.specs.declared.records.Refusal.{Refusal}
use Rattle.verdicts.specs.Told.{greeting, reply}
use Rattle.verdicts.specs.Held.{expected_of, response_of, info_of, expect_in, response_in, info_in}
use Rattle.verdicts.specs.Subjects.{held_by, parts_in}
use Rattle.verdicts.specs.declared.handed.Handed.{Handed}
use Rattle.told.specs.Told.{counted, told_of}
use Rattle.told.specs.declared.Told.{Told}

-- by the lengths of the scratch and of the buffer
module _ (text : List ℕ) (e : Expect) (bytes : List ℕ) (lists : List (List ℕ)) where
  abbrev pub entry_told : DaemonResponse → (scratch buffer : ℕ) → Result Told Refusal
  entry_told r scratch buffer =
      told_of
      (expect_in (length text) e)
      (response_in (length bytes) (counted lists) r)
      (reply (response_of bytes (counted lists) r))
      (expected_of text e)
      scratch
      buffer

  abbrev pub handshake_told : HandshakeInfo → (scratch buffer : ℕ) → Result Told Refusal
  handshake_told i scratch buffer =
      told_of
      (expect_in (length text) e)
      (info_in (length bytes) (counted lists) i)
      (greeting (info_of bytes (counted lists) i))
      (expected_of text e)
      scratch
      buffer

  -- by what it is judged against: each of the two above, for its kind
  abbrev pub subject_told : Handed → (scratch buffer : ℕ) → Result Told Refusal
  subject_told h scratch buffer =
      told_of
      (expect_in (length text) e)
      (parts_in bytes (counted lists) h)
      (held_by bytes (counted lists) h)
      (expected_of text e)
      scratch
      buffer
