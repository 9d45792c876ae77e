-- The fields of a line of stored answers: words, some of which spell numbers and some bytes in hex. Assumes nothing.
use Rattle.std.specs.Prelude.{ℕ, zero, suc, ◌-◌, ◌*◌, ◌^◌, List, [], ◌∷◌, ◌++◌, eqb, leb, ℤ, length, take, if◌then◌else◌, None, Option, Some}
use Rattle.text.specs.Base.{◌&◌, part}
use Rattle.text.specs.Words.{word_at}
use Rattle.text.specs.declared.parts.Span.{Span}
use Rattle.values.specs.Numbers.{number, signed}
use Rattle.values.specs.Hex.{hex_decoded}
use Rattle.fields.specs.Field.{Field}

abbrev pub field : {A : Type 0} → A → (end : ℕ) → Field A
field a end = record { value = a; end = end }

-- a reading that goes on where the word ends; the answer where it spells nothing
unfoldable pub after : {A B : Type 0} → Option (Field A) → B → (A → (end : ℕ) → B) → B
after (Some f) otherwise more = more f.value f.end
after None otherwise more = otherwise

abbrev pub field_of : {A : Type 0} → Option A → (end : ℕ) → Option (Field A)
field_of (Some a) end = Some (field a end)
field_of None end = None

-- more in front of a list
unfoldable pub behind : {A : Type 0} → List A → Option (Field (List A)) → Option (Field (List A))
behind front (Some f) = Some (field (front ++ f.value) f.end)
behind front None = None

-- the bytes of a word
abbrev pub word_bytes : (line : List ℕ) → Span → List ℕ
word_bytes line w = part line w.start (w.end - w.start)

-- the number of 64 bits that the first word from a place on spells
unfoldable pub number_at : (line : List ℕ) → (at : ℕ) → Option (Field ℕ)
number_at line at = let w = word_at line at in field_of (number (2 ^ 64) (word_bytes line w)) w.end

-- the number of 64 bits with a sign
unfoldable pub integer_at : (line : List ℕ) → (at : ℕ) → Option (Field ℤ)
integer_at line at = let w = word_at line at in field_of (signed (word_bytes line w)) w.end

-- so many numbers, one after another
unfoldable pub numbers_at : (count : ℕ) → (line : List ℕ) → (at : ℕ) → Option (Field (List ℕ))
numbers_at zero line at = Some (field [] at)
numbers_at (suc count) line at = after (number_at line at) None (λ n end. behind (n ∷ []) (numbers_at count line end))

-- Bytes in hex and nothing else, at most so many: decoding passes over what is no pair of digits, so the lengths tell.
unfoldable pub hex_for : (most : ℕ) → List ℕ → Option (List ℕ)
hex_for most s =
    let bytes = hex_decoded s in
    if leb (length bytes) most & eqb (length s) (2 * length bytes) then Some bytes else None

-- behind an `x`, so that no bytes are a word too
unfoldable pub marked_hex : (most : ℕ) → List ℕ → Option (List ℕ)
marked_hex most [] = None
marked_hex most (x ∷ s) = if eqb x 0x78 then hex_for most s else None

-- the bytes that the first word from a place on spells
unfoldable pub bytes_at : (most : ℕ) → (line : List ℕ) → (at : ℕ) → Option (Field (List ℕ))
bytes_at most line at = let w = word_at line at in field_of (marked_hex most (word_bytes line w)) w.end

-- ---- what the code's answers say

-- the bytes at the front of the room
abbrev pub bytes_in : (room : List ℕ) → Option ℕ → Option (List ℕ)
bytes_in room (Some n) = Some (take n room)
bytes_in room None = None

abbrev pub byte_count : Option ℕ → ℕ
byte_count (Some n) = n
byte_count None = 0
