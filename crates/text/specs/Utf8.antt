-- Document 01, "Lines and words": UTF-8. A list of bytes is well formed if it is a row of ranges of table 3-7 of The Unicode Standard after the other.
-- That this is what the Standard defines, the encodings of scalar values, is proved in characters/proofs/Unicode.antt. Assumes nothing.
use Rattle.std.specs.Prelude.{ℕ, Bool, true, false, List, [], ◌∷◌, if◌then◌else◌, None, Option, Some}
use Rattle.text.specs.Base.{◌&◌, within}

-- the numbers from lo to hi, both included
pub record Range : Type 0 where
  pub lo : ℕ
  pub hi : ℕ

infix 70 ◌to◌
abbrev pub ◌to◌ : ℕ → ℕ → Range
lo to hi = record { lo = lo; hi = hi }

-- a row of the table: the range of the first byte, and the ranges of the bytes that follow it
pub record Row : Type 0 where
  pub first : Range
  pub following : List Range

abbrev pub row : Range → List Range → Row
row first following = record { first = first; following = following }

-- Table 3-7. Well-Formed UTF-8 Byte Sequences
unfoldable pub table : List Row
table =
    row (0x00 to 0x7F) [] ∷
    row (0xC2 to 0xDF) (0x80 to 0xBF ∷ []) ∷
    row (0xE0 to 0xE0) (0xA0 to 0xBF ∷ 0x80 to 0xBF ∷ []) ∷
    row (0xE1 to 0xEC) (0x80 to 0xBF ∷ 0x80 to 0xBF ∷ []) ∷
    row (0xED to 0xED) (0x80 to 0x9F ∷ 0x80 to 0xBF ∷ []) ∷
    row (0xEE to 0xEF) (0x80 to 0xBF ∷ 0x80 to 0xBF ∷ []) ∷
    row (0xF0 to 0xF0) (0x90 to 0xBF ∷ 0x80 to 0xBF ∷ 0x80 to 0xBF ∷ []) ∷
    row (0xF1 to 0xF3) (0x80 to 0xBF ∷ 0x80 to 0xBF ∷ 0x80 to 0xBF ∷ []) ∷
    row (0xF4 to 0xF4) (0x80 to 0x8F ∷ 0x80 to 0xBF ∷ 0x80 to 0xBF ∷ []) ∷ []

-- what has to follow a first byte x: the rest of its row, or none where no row has it
unfoldable pub after : List Row → ℕ → Option (List Range)
after [] x = None
after (r ∷ rows) x = if within r.first.lo r.first.hi x then Some r.following else after rows x

-- A walk over the text. `due` are the ranges of the bytes that the character begun still wants.
unfoldable pub well_formed_from : (due : List Range) → List ℕ → Bool
well_formed_from [] [] = true
well_formed_from (r ∷ due) [] = false
well_formed_from [] (x ∷ rest) = elim (after table x) [ None ↦ false | Some due ↦ well_formed_from due rest ]
well_formed_from (r ∷ due) (x ∷ rest) = within r.lo r.hi x & well_formed_from due rest

unfoldable pub well_formed : List ℕ → Bool
well_formed text = well_formed_from [] text
