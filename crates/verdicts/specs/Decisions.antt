-- Document 01, "Verdicts": what a matcher decides of a value. Ordering matchers compare as i64; a value that is no i64 fails. A pattern without any of
-- `\ . + * ? ( ) | [ ] { } ^ $` passes if the value contains it; with one of them it is undecided. Assumes nothing.
use Rattle.std.specs.Prelude.{ℕ, Bool, true, false, not, List, [], ◌∷◌, eqb, ℤ, if◌then◌else◌, None, Option, Some}
use Rattle.std.specs.Int.Signed.{lt_z, le_z}
use Rattle.text.specs.Base.{◌&◌, ◌or◌}
use Rattle.text.specs.Parts.{starts_with, same_bytes}
use Rattle.values.specs.Numbers.{signed}
use Rattle.verdicts.specs.Expected.{Matching, exact, regex, greater_than, less_than, greater_or_equal, less_or_equal}
use Rattle.verdicts.specs.declared.Verdict.{Verdict}
use Rattle.verdicts.specs.declared.Verdict.TheVariants.{Passed, Failed, Undecided}

unfoldable pub passed_if : Bool → Verdict
passed_if true = Passed
passed_if false = Failed

-- ---- patterns

-- the fourteen signs
abbrev pub signs : List ℕ
signs = 0x5C ∷ 0x2E ∷ 0x2B ∷ 0x2A ∷ 0x3F ∷ 0x28 ∷ 0x29 ∷ 0x7C ∷ 0x5B ∷ 0x5D ∷ 0x7B ∷ 0x7D ∷ 0x5E ∷ 0x24 ∷ []

-- b is one of these bytes
unfoldable pub one_of : List ℕ → (b : ℕ) → Bool
one_of [] b = false
one_of (x ∷ xs) b = eqb b x or one_of xs b

-- a pattern without any of the signs
unfoldable pub plain : List ℕ → Bool
plain [] = true
plain (b ∷ rest) = not (one_of signs b) & plain rest

-- the bytes of the pattern stand somewhere in the value
unfoldable pub contains : (pattern value : List ℕ) → Bool
contains pattern [] = starts_with pattern []
contains pattern (x ∷ rest) = starts_with pattern (x ∷ rest) or contains pattern rest

unfoldable pub pattern_decides : (pattern value : List ℕ) → Verdict
pattern_decides pattern value = if plain pattern then passed_if (contains pattern value) else Undecided

-- ---- order

-- by a comparison with the value, where that is an i64
unfoldable pub ordered : (ℤ → Bool) → Option ℤ → Verdict
ordered holds None = Failed
ordered holds (Some v) = passed_if (holds v)

-- ---- all matchers

unfoldable pub decides : Matching → (value : List ℕ) → Verdict
decides (exact text) value = passed_if (same_bytes value text)
decides (regex pattern) value = pattern_decides pattern value
decides (greater_than n) value = ordered (λ v. lt_z n v) (signed value)
decides (less_than n) value = ordered (λ v. lt_z v n) (signed value)
decides (greater_or_equal n) value = ordered (λ v. le_z n v) (signed value)
decides (less_or_equal n) value = ordered (λ v. le_z v n) (signed value)
