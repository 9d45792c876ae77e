-- Pieces of a text. A piece is a span of places; its bytes are those that the text has there, so a piece cannot say anything that the text does not.
-- Assumes nothing.
use Rattle.std.specs.Prelude.{ℕ, zero, suc, ◌+◌, ◌-◌, Bool, List, map, eqb, if◌then◌else◌, None, Option, Some}
use Prim.Native.String.{String}
use Rattle.text.specs.Base.{part}
use Rattle.text.specs.Literal.{spells, begins_with, word_length}
use Rattle.text.specs.Trim.{trim_place}
use Rattle.text.specs.Parts.{span, ends_with, position}
use Rattle.text.specs.Parts as Parts
use Rattle.text.specs.Words as Words
use Rattle.text.specs.declared.parts.Span.{Span}
use Rattle.script.specs.Answers.{◌>>=◌}
use Rattle.script.specs.declared.records.Place.{Place}

-- The place of so many bytes that start there: an empty value has start 0 and length 0.
unfoldable pub place_of : (start len : ℕ) → Place
place_of start zero = record { start = 0; len = 0 }
place_of start (suc n) = record { start = start; len = suc n }

unfoldable pub place : Span → Place
place p = place_of p.start (p.end - p.start)

-- nothing stands there
unfoldable pub is_empty : Span → Bool
is_empty p = eqb p.start p.end

-- the piece without its first and its last byte
unfoldable pub inner : Span → Span
inner p = span (p.start + 1) (p.end - 1)

-- a piece cut in two
pub record Cut : Type 0 where
  pub before : Span
  pub after : Span

abbrev pub cut_into : (before after : Span) → Cut
cut_into before after = record { before = before; after = after }

-- at its n-th byte, which belongs to neither part
unfoldable pub cut_at : Span → ℕ → Cut
cut_at p n = cut_into (span p.start (p.start + n)) (span (p.start + n + 1) p.end)

module _ (text : List ℕ) where
  -- the bytes of a piece
  unfoldable pub bytes : Span → List ℕ
  bytes p = part text p.start (p.end - p.start)

  -- the piece is the word; it begins with the word; it ends with the byte
  unfoldable pub is : String → Span → Bool
  is word p = spells word (bytes p)

  unfoldable pub begins : String → Span → Bool
  begins word p = begins_with word (bytes p)

  unfoldable pub ends : Span → (b : ℕ) → Bool
  ends p b = ends_with (bytes p) b

  -- what stands behind the word, where the piece begins with it
  unfoldable pub behind : String → Span → Option Span
  behind word p = if begins word p then Some (span (p.start + word_length word) p.end) else None

  -- the piece without the White_Space at both ends
  unfoldable pub trim : Span → Span
  trim p =
      let t = trim_place (bytes p) in
      span (p.start + t.start) (p.start + t.start + t.len)

  -- the piece cut at the first b, which belongs to neither part
  unfoldable pub cut : (b : ℕ) → Span → Option Cut
  cut b p = do
    n ← position b (bytes p)
    Some (cut_at p n)

  -- The same where there need be no b: then all stands before it.
  unfoldable pub cut_or : (b : ℕ) → Span → Cut
  cut_or b p = elim (cut b p) [ None ↦ cut_into p (span p.end p.end) | Some c ↦ c ]

  -- the pieces between the bytes b, and those between White_Space
  unfoldable pub split : (b : ℕ) → Span → List Span
  split b p = map (λ q. span (p.start + q.start) (p.start + q.end)) (Parts.split b (bytes p))

  unfoldable pub words : Span → List Span
  words p = map (λ q. span (p.start + q.start) (p.start + q.end)) (Words.words (bytes p))
