-- How a signed number is written: below 0 a minus and the digits, else the digits. Assumes nothing.
use Rattle.std.specs.Prelude.{nat_abs}
use Prim.Native.Nat.{ℕ, ◌+◌}
use mathlib.Core.Path.{◌≡◌, refl, sym, ap, ◌∙◌}
use mathlib.Core.List.{List, [], ◌∷◌, ◌++◌}
use native.Mathlib.Omega.{arith}
use lib.Dec.{ltb→lt}
use lib.ListN.{length}
use lib.IntN.{ℤ, pos, negsuc}
use lib.Signed.{◌<ℤ◌, ◌≤ℤ◌}
use Rattle.text.specs.Base.{MINUS}
use Rattle.text.specs.Literal.{utf8}
use Rattle.text.specs.Unicode.{encoded}
use Rattle.values.specs.Decimal.{decimal}
use Rattle.written.specs.declared.Writer.{Writer}
use Rattle.written.specs.Writing.{Room, wrote}
use Rattle.written.proofs.WriterLaws.{room_behind, wrote_behind}
use Rattle.verdicts.specs.Messages.{integer}

pub written_below : (z : ℤ) → z <ℤ pos 0 → integer z ≡ (MINUS ∷ []) ++ decimal (nat_abs z)
unfolding integer utf8 encoded
written_below (pos n) h = let k = ltb→lt n 0 h.lt in absurd (omega arith)
written_below (negsuc n) h = refl

pub written_above : (z : ℤ) → pos 0 ≤ℤ z → integer z ≡ decimal (nat_abs z)
unfolding integer
written_above (pos n) h = refl
written_above (negsuc n) h = absurd h.le

-- there is room for the minus
pub minus_one : (z : ℤ) (w : Writer ℕ) → Room (length (integer z)) w → z <ℤ pos 0 → Room 1 w
minus_one z w room h = omega (arith, ap length (written_below z h))

module _ (z : ℤ) (n : ℕ) (d : n ≡ nat_abs z) where
  minus_and : z <ℤ pos 0 → integer z ≡ (MINUS ∷ []) ++ decimal n
  minus_and h = written_below z h ∙ ap (λ (k : ℕ). (MINUS ∷ []) ++ decimal k) (sym d)

  alone : pos 0 ≤ℤ z → integer z ≡ decimal n
  alone h = written_above z h ∙ ap decimal (sym d)

  pub minus_length : z <ℤ pos 0 → length (integer z) ≡ length (decimal n) + 1
  minus_length h = ap length (minus_and h) ∙ omega arith

  pub plain_length : pos 0 ≤ℤ z → length (integer z) ≡ length (decimal n)
  plain_length h = ap length (alone h)

  -- a minus, then the digits
  module _ (w : Writer ℕ) (room : Room (length (integer z)) w) where
    module _ (h : z <ℤ pos 0) where
      module _ (v : Writer ℕ) (p : v ≡ wrote (MINUS ∷ []) w) where
        pub minus_room : Room (length (decimal n)) v
        minus_room = room_behind (MINUS ∷ []) w v p (decimal n) (integer z) (minus_and h) room

        pub minus_wrote : (u : Writer ℕ) → u ≡ wrote (decimal n) v → u ≡ wrote (integer z) w
        minus_wrote = wrote_behind (MINUS ∷ []) w v p (decimal n) (integer z) (minus_and h) room

    -- or the digits alone
    module _ (h : pos 0 ≤ℤ z) where
      pub plain_room : Room (length (decimal n)) w
      plain_room = omega (arith, plain_length h)

      pub plain_wrote : (u : Writer ℕ) → u ≡ wrote (decimal n) w → u ≡ wrote (integer z) w
      plain_wrote u p = p ∙ ap (λ (xs : List ℕ). wrote xs w) (sym (alone h))
