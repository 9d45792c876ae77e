-- Document 01, "The script": timestamps. Assumes nothing.
use Rattle.std.specs.Prelude.{ℕ, ◌+◌, Bool, false, List, [], ◌∷◌, ◌++◌, map, length, eqb, leb, pos, if◌then◌else◌, Err, None, Ok, Option, Some}
use Rattle.text.specs.Base.{◌&◌, ◌or◌, within, PLUS, MINUS}
use Rattle.text.specs.Literal.{spells}
use Rattle.text.specs.Parts.{span, pair_position}
use Rattle.values.specs.Numbers.{all_digits, decimal_from}
use Rattle.text.specs.declared.parts.Span.{Span}
use Rattle.version.specs.Version.{DOT}
use Rattle.script.specs.Pieces.{bytes, behind, trim}
use Rattle.script.specs.declared.records.Time.{Time}
use Rattle.script.specs.declared.roles.Stamped.{Stamped}
use Rattle.script.specs.declared.refusals.Reason.TheVariants.{NoF64, NotCarried, TimestampWithoutMs}
use Rattle.script.specs.Answers.{Answer}

-- ---- the number between `@` and `ms`

-- the digits at the front, and what follows them
pub record Run : Type 0 where
  pub digits : List ℕ
  pub rest : List ℕ

abbrev pub run : List ℕ → List ℕ → Run
run digits rest = record { digits = digits; rest = rest }

unfoldable pub digit_run : List ℕ → Run
digit_run [] = run [] []
digit_run (x ∷ xs) =
    let more = digit_run xs in
    let longer = run (x ∷ more.digits) more.rest in
    if within 0x30 0x39 x then longer else run [] (x ∷ xs)

-- the same behind a dot, if there is one
unfoldable pub fraction : List ℕ → Run
fraction [] = run [] []
fraction (x ∷ xs) = if eqb x DOT then digit_run xs else run [] (x ∷ xs)

-- without the sign in front, if there is one; whether that sign is a minus
unfoldable pub unsigned : List ℕ → List ℕ
unsigned [] = []
unsigned (x ∷ xs) = if eqb x PLUS or eqb x MINUS then xs else (x ∷ xs)

unfoldable pub negative : List ℕ → Bool
negative [] = false
negative (x ∷ xs) = eqb x MINUS

-- capital letters made small
unfoldable pub small : ℕ → ℕ
small x = if within 0x41 0x5A x then x + 0x20 else x

-- `inf`, `infinity` or `nan` in any letter case
unfoldable pub no_finite : List ℕ → Bool
no_finite xs = let w = map small xs in spells "inf" w or spells "infinity" w or spells "nan" w

-- an exponent: `e` or `E`, an optional sign, at least one digit
unfoldable pub some_digits : List ℕ → Bool
some_digits [] = false
some_digits (x ∷ xs) = all_digits (x ∷ xs)

unfoldable pub exponent : List ℕ → Bool
exponent [] = false
exponent (x ∷ xs) = eqb (small x) 0x65 & some_digits (unsigned xs)

abbrev pub time_of : Bool → (digits decimals : ℕ) → Time
time_of negative digits decimals = record { negative = negative; digits = digits; decimals = pos decimals }

-- Carried: digits with at most one dot, 1 to 18 digits in all; kept are all of them as one number, and the count of decimals.
-- 7: no f64 to Rust; 8: an f64 to Rust, but not carried.
unfoldable pub carried : (negative : Bool) → (whole decimals rest : List ℕ) → Answer Time
carried negative whole decimals rest =
    let digits = whole ++ decimals in
    let count = length digits in
    let time = time_of negative (decimal_from 0 digits) (length decimals) in
    if eqb count 0 then Err NoF64
    else if eqb (length rest) 0 then (if leb count 18 then Ok time else Err NotCarried)
    else if exponent rest then Err NotCarried
    else Err NoF64

unfoldable pub time : List ℕ → Answer Time
time xs =
    let u = unsigned xs in
    let whole = digit_run u in
    let decimals = fraction whole.rest in
    if no_finite u then Err NotCarried else carried (negative xs) whole.digits decimals.digits decimals.rest

-- ---- a line that begins with `@`

-- a line's timestamp, and what follows it
abbrev pub stamped_as : Option Time → Span → Stamped
stamped_as stamp rest = record { stamp = stamp; rest = rest }

unfoldable pub with_time : Answer Time → Span → Answer Stamped
with_time (Err n) rest = Err n
with_time (Ok t) rest = Ok (stamped_as (Some t) rest)

module _ (text : List ℕ) where
  -- A timestamp stands between `@` and the first `ms`; what follows is trimmed. 6: there is no `ms`.
  unfoldable pub stamped_at : Span → Option ℕ → Answer Stamped
  stamped_at p None = Err TimestampWithoutMs
  stamped_at p (Some n) = with_time (time (bytes text (span p.start (p.start + n)))) (trim text (span (p.start + n + 2) p.end))

  unfoldable pub stamped : Span → Answer Stamped
  stamped p = elim (behind text "@" p) [ None ↦ Ok (stamped_as None p) | Some r ↦ stamped_at r (pair_position 0x6D 0x73 (bytes text r)) ]
