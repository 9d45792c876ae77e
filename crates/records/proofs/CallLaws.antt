-- Laws of the record of an entry's operation: what the code's answers come to. For `search` to use. Assumes nothing.
use Rattle.std.specs.Prelude.{Some}
use Prim.Native.Nat.{ℕ, zero, suc, ◌+◌}
use mathlib.Core.Path.{◌≡◌, refl}
use mathlib.Core.Bool.{Bool, true, false}
use mathlib.Core.List.{List}
use Rattle.text.specs.Parts.{span, starts_with}
use Rattle.text.specs.declared.parts.Span.{Span}
use Rattle.text.proofs.LiteralLaws.{codes}
use Rattle.script.specs.Answers.{first_of}
use Rattle.script.specs.Pieces.{place_of, place, bytes}
use Rattle.script.specs.Values.{inline_of, framed}
use Rattle.script.specs.Contents.{given_data, data_of}
use Rattle.script.specs.Layout.{range}
use Rattle.script.specs.declared.records.Place.{Place}
use Rattle.script.specs.declared.records.FramedData.{FramedData}
use Rattle.pieces.proofs.BehindLaws.{behind-none, behind-some}
use Rattle.records.specs.Records.{sized_at, framed_sized}

-- ---- places and ranges: none is 0 and 0

module _ (start n : ℕ) where
  pub place_none : n ≡ 0 → record { start = 0; len = 0 } ≡ place_of start n
  unfolding place_of
  place_none h = rw h

  pub place_some : (n ≡ 0 → ⊥) → record { start = start; len = n } ≡ place_of start n
  unfolding place_of
  place_some = go n
    where
      go : (m : ℕ) → (m ≡ 0 → ⊥) → record { start = start; len = m } ≡ place_of start m
      go zero h = absurd (h refl)
      go (suc m) h = refl

  pub range_none : n ≡ 0 → record { first = 0; count = 0 } ≡ range start n
  unfolding range
  range_none h = rw h

  pub range_some : (n ≡ 0 → ⊥) → record { first = start; count = n } ≡ range start n
  unfolding range
  range_some = go n
    where
      go : (m : ℕ) → (m ≡ 0 → ⊥) → record { first = start; count = m } ≡ range start m
      go zero h = absurd (h refl)
      go (suc m) h = refl

-- ---- data: r and s are the answers of `Piece::starts_with`

module _ (text : List ℕ) (v : Span) (b n : ℕ) (r : Bool) (e : r ≡ starts_with (codes "x\"") (bytes text v)) where
  pub data_hex : (p : Place) → r ≡ true → p ≡ place_of b n → FramedData.Inline p ≡ framed_sized text (Some v) b n
  unfolding framed_sized sized_at data_of given_data framed first_of inline_of
  data_hex p t h = simp (behind-some text v "x\"" r e t, h)

  module _ (f : r ≡ false) (s : Bool) (d : s ≡ starts_with (codes "@file:") (bytes text v)) where
    pub data_file : (p : Place) (q : Span) → s ≡ true → q ≡ span (v.start + 6) v.end → p ≡ place q → FramedData.FileRef p ≡ framed_sized text (Some v) b n
    unfolding framed_sized sized_at data_of given_data framed first_of inline_of
    data_file p q t k h = simp (behind-none text v "x\"" r e f, behind-some text v "@file:" s d t, h, k)

    pub data_neither : (p : Place) → s ≡ false → p ≡ place_of b n → FramedData.Inline p ≡ framed_sized text (Some v) b n
    unfolding framed_sized sized_at data_of given_data framed first_of inline_of
    data_neither p m h = simp (behind-none text v "x\"" r e f, behind-none text v "@file:" s d m, h)
