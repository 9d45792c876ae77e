-- What a stored answer of the Rust to Message says, and whether Message does so. On a line, behind the word `judged`: 39 numbers; the number of the
-- matcher; in hex the text, the bytes of what it is judged against, and the message. Assumes nothing.
use Rattle.std.specs.Prelude.{ℕ, Bool, false, List, ℤ, length, get_or, if◌then◌else◌}
use Rattle.text.specs.Base.{part}
use Rattle.verdicts.specs.Told.{Subject, greeting, reply}
use Rattle.verdicts.specs.Held.{expected_of, response_of, info_of, expect_in, response_in, info_in}
use Rattle.verdicts.specs.Expected.{Expected}
use Rattle.verdicts.specs.Messages.{message}
use Rattle.verdicts.specs.declared.handed.Handed.{Handed}
use Rattle.verdicts.specs.declared.handed.Handed.TheVariants.{Info, Response}
use Rattle.rows.specs.Rows.{expect_row, response_row, info_row}
use Rattle.told.specs.Told.{counted, told_of}
use Rattle.fields.specs.Fields.{after, numbers_at, integer_at, bytes_at}
use Rattle.replayed.specs.Told.{of_handshake, table_of, says_so}

-- Message with a scratch and a buffer of 256 bytes
unfoldable pub says_of : (in_text in_bytes : Bool) → Subject → Expected → (verdict : ℕ) → (stored : List ℕ) → Bool
says_of in_text in_bytes s e verdict stored = says_so (told_of in_text in_bytes s e 256 256) verdict (message s e) stored

module _ (n : List ℕ) (m : ℤ) (text bytes stored : List ℕ) where
  unfoldable pub entry_says : Bool
  entry_says =
      let e = expect_row (part n 2 6) m in
      let r = response_row (part n 8 19) in
      let lists = counted (table_of n) in
      says_of (expect_in (length text) e) (response_in (length bytes) lists r) (reply (response_of bytes lists r)) (expected_of text e) (get_or n 1 0) stored

  unfoldable pub handshake_says : Bool
  handshake_says =
      let e = expect_row (part n 2 6) m in
      let i = info_row (part n 8 19) in
      let lists = counted (table_of n) in
      says_of (expect_in (length text) e) (info_in (length bytes) lists i) (greeting (info_of bytes lists i)) (expected_of text e) (get_or n 1 0) stored

  unfoldable pub says : Bool
  says = if of_handshake n then handshake_says else entry_says

-- what the expectation is judged against
unfoldable pub handed_by : (n : List ℕ) → Handed
handed_by n = if of_handshake n then Info (info_row (part n 8 19)) else Response (response_row (part n 8 19))

-- ---- what a line says; text, bytes and message have at most 256 bytes each

unfoldable pub message_agreed : (line : List ℕ) → (at : ℕ) → (n : List ℕ) → (m : ℤ) → (text bytes : List ℕ) → Bool
message_agreed line at n m text bytes = after (bytes_at 256 line at) false (λ stored end. says n m text bytes stored)

unfoldable pub bytes_agreed : (line : List ℕ) → (at : ℕ) → (n : List ℕ) → (m : ℤ) → (text : List ℕ) → Bool
bytes_agreed line at n m text = after (bytes_at 256 line at) false (λ bytes end. message_agreed line end n m text bytes)

unfoldable pub text_agreed : (line : List ℕ) → (at : ℕ) → (n : List ℕ) → (m : ℤ) → Bool
text_agreed line at n m = after (bytes_at 256 line at) false (λ text end. bytes_agreed line end n m text)

-- the matcher's number, then the text
unfoldable pub matcher_agreed : (line : List ℕ) → (at : ℕ) → (n : List ℕ) → Bool
matcher_agreed line at n = after (integer_at line at) false (λ m end. text_agreed line end n m)

-- the 39 numbers, then all that follows
unfoldable pub agreed : (line : List ℕ) → (at : ℕ) → Bool
agreed line at = after (numbers_at 39 line at) false (λ n end. matcher_agreed line end n)
