-- Worked examples of UTF-8, trimming, lines, parts and words, computed. Assumes nothing.
use Rattle.std.specs.Prelude.{None, Some}
use Prim.Native.Nat.{ℕ, zero, suc, ◌+◌, ◌-◌}
use mathlib.Core.Path.{◌≡◌, refl}
use mathlib.Core.Bool.{true, false}
use mathlib.Core.List.{List, [], ◌∷◌, ◌++◌}
use Rattle.text.specs.Base.{within}
use Rattle.text.specs.Literal.{utf8}
use Rattle.text.specs.Utf8.{Range, table, after, well_formed_from, well_formed}
use Rattle.text.specs.Unicode.{encoded, scalars_from, scalars, white_space}
use Rattle.text.specs.Trim.{white_bytes, backwards, begins, size_of, strip_from, trimmed_front, trimmed_back, trimmed, trim_place}
use Rattle.text.specs.Parts.{starts_with, ends_with, same_bytes, position_from, position, pair_position_from, pair_position, span, part_of, split_from, split}
use Rattle.text.specs.Words.{words_from, words}
use Rattle.text.specs.Lines.{line, lines_from, lines, indented}

texts :
    (well_formed (utf8 "aλ€😀") ≡ true)
    × (well_formed (0xC0 ∷ 0x80 ∷ []) ≡ false)
    × (well_formed (0xE0 ∷ 0x80 ∷ 0x80 ∷ []) ≡ false)
    × (well_formed (0xED ∷ 0xA0 ∷ 0x80 ∷ []) ≡ false)
    × (well_formed (0xF4 ∷ 0x8F ∷ 0xBF ∷ 0xBF ∷ []) ≡ true)
    × (well_formed (0xF4 ∷ 0x90 ∷ 0x80 ∷ 0x80 ∷ []) ≡ false)
    × (well_formed (0xE2 ∷ 0x80 ∷ []) ≡ false)
    × (scalars (utf8 "aλ€😀") ≡ 0x61 ∷ 0x3BB ∷ 0x20AC ∷ 0x1_F600 ∷ [])
    × (trimmed (utf8 "  a b\t\r\n\u{b}") ≡ utf8 "a b")
    × (trimmed (utf8 "\u{3000}\u{2003}é\u{a0}\u{85}") ≡ utf8 "é")
    × (trimmed (utf8 "cafà") ≡ utf8 "cafà")
    × (trimmed (utf8 " \u{200b}\u{feff} ") ≡ utf8 "\u{200b}\u{feff}")
    × (trimmed (utf8 " \u{2029}\n") ≡ [])
    × (trimmed (0x80 ∷ 0x20 ∷ 0xC2 ∷ []) ≡ 0x80 ∷ 0x20 ∷ 0xC2 ∷ [])
    × (trim_place (utf8 "  a ") ≡ record { start = 2; len = 1 })
    × (trim_place (utf8 "   ") ≡ record { start = 3; len = 0 })
    × (lines (utf8 "") ≡ [])
    × (lines (utf8 "\n") ≡ line 1 0 0 1 ∷ [])
    × (lines (utf8 "a\nb\r\n\nc") ≡ line 1 0 1 2 ∷ line 2 2 3 5 ∷ line 3 5 5 6 ∷ line 4 6 7 7 ∷ [])
    × (lines (utf8 "a\r\r\n\r") ≡ line 1 0 2 4 ∷ line 2 4 5 5 ∷ [])
    × (lines (utf8 "a\u{2028}\u{85}b") ≡ line 1 0 7 7 ∷ [])
    × (indented (utf8 "  a") ≡ true)
    × (indented (utf8 "\ta") ≡ true)
    × (indented (utf8 " \ta") ≡ false)
    × (indented (utf8 "\u{3000}\u{3000}a") ≡ false)
    × (starts_with (utf8 "expect") (utf8 "expectation") ≡ true)
    × (starts_with (utf8 "expect") (utf8 "expec") ≡ false)
    × (ends_with (utf8 "{a}") 0x7D ≡ true)
    × (ends_with [] 0x7D ≡ false)
    × (same_bytes (utf8 "---") (utf8 "---") ≡ true)
    × (same_bytes (utf8 "---") (utf8 "--") ≡ false)
    × (position 0x3A (utf8 "a:b:") ≡ Some 1)
    × (position 0x3A (utf8 "ab") ≡ None)
    × (pair_position 0x6D 0x73 (utf8 "mmsms") ≡ Some 1)
    × (pair_position 0x6D 0x73 (utf8 "sm") ≡ None)
    × (split 0x2C (utf8 "a,,b") ≡ part_of 0 1 true ∷ part_of 2 2 true ∷ part_of 3 4 false ∷ [])
    × (split 0x2C [] ≡ part_of 0 0 false ∷ [])
    × (words (utf8 " a\u{3000}bc \t") ≡ span 1 2 ∷ span 5 7 ∷ [])
unfolding utf8 within well_formed well_formed_from table after scalars scalars_from trimmed trimmed_front trimmed_back strip_from size_of begins white_bytes backwards trim_place lines lines_from indented starts_with ends_with same_bytes position position_from pair_position pair_position_from split split_from words words_from
texts = (refl, refl, refl, refl, refl, refl, refl, refl, refl, refl, refl, refl, refl, refl, refl, refl, refl, refl, refl, refl, refl, refl, refl, refl, refl, refl, refl, refl, refl, refl, refl, refl, refl, refl, refl, refl, refl, refl)

-- ---- The rows of white_bytes are the encodings of the code points of white_space, in order, and nothing else; and there are 25

-- n numbers from x on
counted : (x n : ℕ) → List ℕ
counted x zero = []
counted x (suc n) = x ∷ counted (x + 1) n

-- each of some numbers before each of some lists
before : List ℕ → List (List ℕ) → List (List ℕ)
before [] ls = []
before (x ∷ xs) ls = each ls ++ before xs ls
  where
    each : List (List ℕ) → List (List ℕ)
    each [] = []
    each (l ∷ ls) = (x ∷ l) ∷ each ls

-- the byte strings of a row, and of rows
of_row : List Range → List (List ℕ)
unfolding counted before
of_row [] = [] ∷ []
of_row (r ∷ rs) = before (counted r.lo (r.hi + 1 - r.lo)) (of_row rs)

of_rows : List (List Range) → List (List ℕ)
unfolding of_row
of_rows [] = []
of_rows (row ∷ rows) = of_row row ++ of_rows rows

-- the code points of some ranges, and their encodings
of_ranges : List Range → List ℕ
unfolding counted
of_ranges [] = []
of_ranges (r ∷ rs) = counted r.lo (r.hi + 1 - r.lo) ++ of_ranges rs

each_encoded : List ℕ → List (List ℕ)
unfolding encoded
each_encoded [] = []
each_encoded (c ∷ cs) = encoded c ∷ each_encoded cs

size : List ℕ → ℕ
size [] = 0
size (c ∷ cs) = size cs + 1

white_space_lem : (of_rows white_bytes ≡ each_encoded (of_ranges white_space)) × (size (of_ranges white_space) ≡ 25)
unfolding of_rows of_ranges each_encoded size white_bytes white_space
white_space_lem = (refl, refl)
