-- Document 01, "Lines and words": trimming removes the White_Space characters at both ends. Said first of scalar values, then of bytes: as long as a text
-- begins (ends) with the encoding of a White_Space character, that is taken off. The second says something of any bytes, UTF-8 or not; of the encodings of
-- scalar values both say the same (characters/proofs/TrimTheorem.antt). Assumes nothing.
use Rattle.std.specs.Prelude.{ℕ, zero, suc, ◌-◌, Bool, true, false, List, [], ◌∷◌, reverse, eqb, length, if◌then◌else◌}
use Rattle.text.specs.Base.{◌&◌, within}
use Rattle.text.specs.Utf8.{Range, ◌to◌}
use Rattle.text.specs.Unicode.{white}
use Rattle.text.specs.declared.trim.Place.{Place}

-- ---- of scalar values

-- without the White_Space at the front; at both ends
unfoldable pub front_trimmed : List ℕ → List ℕ
front_trimmed [] = []
front_trimmed (c ∷ cs) = let rest = front_trimmed cs in if white c then rest else (c ∷ cs)

unfoldable pub scalars_trimmed : List ℕ → List ℕ
scalars_trimmed cs = reverse (front_trimmed (reverse (front_trimmed cs)))

-- ---- of bytes

-- The encodings of the 25 White_Space characters: a row for each range of code points, with the range of each of its bytes.
unfoldable pub white_bytes : List (List Range)
white_bytes =
    -- U+0009 to U+000D, U+0020
    (0x09 to 0x0D ∷ []) ∷
    (0x20 to 0x20 ∷ []) ∷
    -- U+0085, U+00A0
    (0xC2 to 0xC2 ∷ 0x85 to 0x85 ∷ []) ∷
    (0xC2 to 0xC2 ∷ 0xA0 to 0xA0 ∷ []) ∷
    -- U+1680
    (0xE1 to 0xE1 ∷ 0x9A to 0x9A ∷ 0x80 to 0x80 ∷ []) ∷
    -- U+2000 to U+200A, U+2028 to U+2029, U+202F, U+205F
    (0xE2 to 0xE2 ∷ 0x80 to 0x80 ∷ 0x80 to 0x8A ∷ []) ∷
    (0xE2 to 0xE2 ∷ 0x80 to 0x80 ∷ 0xA8 to 0xA9 ∷ []) ∷
    (0xE2 to 0xE2 ∷ 0x80 to 0x80 ∷ 0xAF to 0xAF ∷ []) ∷
    (0xE2 to 0xE2 ∷ 0x81 to 0x81 ∷ 0x9F to 0x9F ∷ []) ∷
    -- U+3000
    (0xE3 to 0xE3 ∷ 0x80 to 0x80 ∷ 0x80 to 0x80 ∷ []) ∷ []

-- the rows as they are read from the back
unfoldable pub backwards : List (List Range) → List (List Range)
backwards [] = []
backwards (row ∷ rows) = reverse row ∷ backwards rows

-- the text begins with a byte of each of the ranges, in their order
unfoldable pub begins : List Range → List ℕ → Bool
begins [] s = true
begins (r ∷ rs) [] = false
begins (r ∷ rs) (x ∷ s) = within r.lo r.hi x & begins rs s

-- the length of the row that the text begins with; 0 if it begins with none
unfoldable pub size_of : List (List Range) → List ℕ → ℕ
size_of [] s = 0
size_of (row ∷ rows) s = if begins row s then length row else size_of rows s

-- A walk over the text: what is left once the rows that it begins with are off. `skip`: how many bytes of the row at hand are still to go.
unfoldable pub strip_from : List (List Range) → (skip : ℕ) → List ℕ → List ℕ
strip_from rows skip [] = []
strip_from rows (suc skip) (x ∷ rest) = strip_from rows skip rest
strip_from rows zero (x ∷ rest) =
    let size = size_of rows (x ∷ rest) in
    let less = strip_from rows (size - 1) rest in
    if eqb size 0 then (x ∷ rest) else less

-- without the White_Space at the front; at the back; at both
unfoldable pub trimmed_front : List ℕ → List ℕ
trimmed_front s = strip_from white_bytes 0 s

unfoldable pub trimmed_back : List ℕ → List ℕ
trimmed_back s = reverse (strip_from (backwards white_bytes) 0 (reverse s))

unfoldable pub trimmed : List ℕ → List ℕ
trimmed s = trimmed_back (trimmed_front s)

-- where the trimmed text stands: behind what is off the front; at the end where all of it is White_Space
unfoldable pub trim_place : List ℕ → Place
trim_place s = record { start = length s - length (trimmed_front s); len = length (trimmed s) }
