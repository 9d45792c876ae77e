-- How a host is given a verdict alone: by its number, or by the number of the reason for which it is refused. Assumes nothing.
use Rattle.std.specs.Prelude.{ℕ, Bool, not, List, length, if◌then◌else◌}
use Rattle.script.specs.Refusals.{reason_number}
use Rattle.script.specs.declared.refusals.Reason.TheVariants.{ExpectationOutside, PartOutside}
use Rattle.script.specs.declared.records.Expect.{Expect}
use Rattle.script.specs.declared.response.DaemonResponse.{DaemonResponse}
use Rattle.script.specs.declared.response.HandshakeInfo.{HandshakeInfo}
use Rattle.verdicts.specs.Expected.{Expected}
use Rattle.verdicts.specs.Told.{Subject, greeting, reply}
use Rattle.verdicts.specs.Held.{expected_of, response_of, info_of, expect_in, response_in, info_in}
use Rattle.verdicts.specs.Subjects.{held_by, parts_in}
use Rattle.verdicts.specs.Verdicts.{verdict, code}
use Rattle.verdicts.specs.declared.handed.Handed.{Handed}
use Rattle.told.specs.Told.{counted}

-- whether every part of the expectation lies inside the text, and every part of what it is judged against inside its bytes
unfoldable pub numbered : (in_text in_bytes : Bool) → Subject → Expected → ℕ
numbered in_text in_bytes s e = if not in_text then reason_number ExpectationOutside else if not in_bytes then reason_number PartOutside else code (verdict s e)

module _ (text : List ℕ) (e : Expect) (bytes : List ℕ) (lists : List (List ℕ)) where
  abbrev pub entry_number : DaemonResponse → ℕ
  entry_number r =
      numbered
      (expect_in (length text) e)
      (response_in (length bytes) (counted lists) r)
      (reply (response_of bytes (counted lists) r))
      (expected_of text e)

  abbrev pub handshake_number : HandshakeInfo → ℕ
  handshake_number i =
      numbered
      (expect_in (length text) e)
      (info_in (length bytes) (counted lists) i)
      (greeting (info_of bytes (counted lists) i))
      (expected_of text e)

  -- by what it is judged against: each of the two above, for its kind
  abbrev pub subject_number : Handed → ℕ
  subject_number h =
      numbered
      (expect_in (length text) e)
      (parts_in bytes (counted lists) h)
      (held_by bytes (counted lists) h)
      (expected_of text e)
