-- A number is written digit by digit, its tenth first. Assumes nothing.
use Prim.Native.Nat.{ℕ, ◌+◌, ◌/◌, ◌%◌, ◌^◌, ◌≤◌, ◌<◌}
use mathlib.Core.Path.{◌≡◌, refl, ap, ◌∙◌, sym}
use mathlib.Core.List.{List, [], ◌∷◌, ◌++◌}
use native.Mathlib.Omega.{arith}
use lib.ListN.{length, length-append}
use Rattle.written.specs.declared.Writer.{Writer}
use Rattle.written.specs.Writing.{Room, wrote}
use Rattle.written.proofs.WriterLaws.{wrote_at, room_behind, wrote_behind}
use Rattle.values.specs.Decimal.{decimal}
use Rattle.writing.proofs.DecimalLaws.{decimal-small, decimal_more, digits_one, digits_longer, decimal-length}

module _ (n : ℕ) (w u : Writer ℕ) (room : Room (length (decimal n)) w) where
  pub small_room : n < 10 → Room 1 w
  small_room h = omega (arith, digits_one n h)

  pub small_wrote : n < 10 → u ≡ wrote ((0x30 + n) ∷ []) w → u ≡ wrote (decimal n) w
  small_wrote h p = p ∙ ap (λ (xs : List ℕ). wrote xs w) (sym (decimal-small n h))

  pub tenth_room : 10 ≤ n → Room (length (decimal (n / 10))) w
  tenth_room h = omega (arith, digits_longer n h)

  module _ (v : Writer ℕ) (p : v ≡ wrote (decimal (n / 10)) w) (h : 10 ≤ n) where
    pub last_room : Room 1 v
    last_room = room_behind _ w v p ((0x30 + n % 10) ∷ []) (decimal n) (decimal_more n h) room

    pub last_wrote : u ≡ wrote ((0x30 + n % 10) ∷ []) v → u ≡ wrote (decimal n) w
    last_wrote = wrote_behind _ w v p ((0x30 + n % 10) ∷ []) (decimal n) (decimal_more n h) room u

-- it takes at most 20 bytes
pub most_digits : (n : ℕ) (w u : Writer ℕ) → u ≡ wrote (decimal n) w → n < 2 ^ 64 → u.at ≤ w.at + 20
most_digits n w u p f = omega (arith, wrote_at (decimal n) w u p, decimal-length n f)

-- and a word before it
module _ (n : ℕ) (word : List ℕ) (w v : Writer ℕ) (f : n < 2 ^ 64) (room : Room (length word + 20) w) (p : v ≡ wrote word w) where
  both_room : Room (length (word ++ decimal n)) w
  both_room = omega (arith, length-append word (decimal n), decimal-length n f)

  pub after_room : Room (length (decimal n)) v
  after_room = room_behind word w v p (decimal n) (word ++ decimal n) refl both_room

  pub after_wrote : (u : Writer ℕ) → u ≡ wrote (decimal n) v → u ≡ wrote (word ++ decimal n) w
  after_wrote = wrote_behind word w v p (decimal n) (word ++ decimal n) refl both_room

  pub after_most : (u : Writer ℕ) → u ≡ wrote (decimal n) v → u.at ≤ w.at + (length word + 20)
  after_most u q = omega (arith, wrote_at word w v p, most_digits n v u q f)
