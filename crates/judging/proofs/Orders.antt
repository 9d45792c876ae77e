-- How two numbers stand to each other, with what the tests say of them. Assumes nothing.
use mathlib.Core.Path.{◌≡◌, refl}
use mathlib.Core.Bool.{Bool, true, false}
use Prim.Native.Nat.{ℕ, suc, ◌<◌}
use native.Mathlib.Omega.{arith}
use native.Mathlib.Decide.{dec_le}
use lib.Dec.{ltb, eqb}
use borrow.Author.Tests.{lt-ltb, le-ltb, eq-eqb, ne_eqb}
use Rattle.text.specs.Base.{◌or◌}
use Rattle.text.proofs.Scan.{never}

module _ (k n : ℕ) where
  pub data Order : Type 0 where
    less : k < n → ltb k n ≡ true → eqb k n ≡ false → Order
    same : k ≡ n → ltb k n ≡ false → eqb k n ≡ true → Order
    more : n < k → ltb k n ≡ false → eqb k n ≡ false → Order

  pub order : Order
  order = elim (dec_le (suc k) n) [
    | yes h ↦ less h (lt-ltb k n h) (ne_eqb k n (λ e. omega arith))
    | no h ↦ elim (dec_le (suc n) k) [
      | yes g ↦ more g (le-ltb k n (omega arith)) (ne_eqb k n (λ e. omega arith))
      | no g ↦ same (omega arith) (le-ltb k n (omega arith)) (eq-eqb k n (omega arith))
    ]
  ]

-- neither of two tests applies
pub neither : (a b : Bool) → (a or b) ≡ false → (a ≡ false) × (b ≡ false)
neither true b e = never e
neither false b e = (refl, e)
