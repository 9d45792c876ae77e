-- How many digits a number has: one more than its logarithm to the base 10. Assumes nothing.
use Rattle.std.specs.Prelude.{None, Option, Some, IfNone, IfSome, unwrap_or}
use Prim.Native.Nat.{ℕ, zero, suc, ◌+◌, ◌*◌, ◌/◌, ◌%◌, ◌^◌, ◌≤◌, ◌<◌}
use mathlib.Core.Path.{◌≡◌}
use native.Mathlib.Omega.{arith}
use native.Mathlib.Nat.{mod-lt, div-add-mod', pow-suc}
use lib.ListN.{length}
use Rattle.values.specs.Decimal.{decimal}
use Rattle.writing.proofs.DecimalLaws.{digits_one, digits_longer}

digits_from : (k n : ℕ) → 10 ^ k ≤ n → n < 10 * 10 ^ k → length (decimal n) ≡ k + 1
digits_from zero n h g = digits_one n (omega arith)
digits_from (suc k) n h g =
    let p : 10 ^ suc k ≡ 10 ^ k * 10 = pow-suc 10 k in
    let e = div-add-mod' n 10 in
    let m : n % 10 < 10 = mod-lt n (omega arith) in
    omega (arith, digits_longer n (omega arith), digits_from k (n / 10) (omega arith) (omega arith))

pub digits_counted : (n : ℕ) (o : Option ℕ) → IfNone o (n ≡ 0) → IfSome o (λ k. 10 ^ k ≤ n) → IfSome o (λ k. n < 10 * 10 ^ k) → unwrap_or o 0 + 1 ≡ length (decimal n)
digits_counted n None z h g = omega (arith, digits_one n (omega arith))
digits_counted n (Some k) z h g = omega (arith, digits_from k n h g)

pub digits_most : (o : Option ℕ) → IfSome o (λ k. k < 20) → unwrap_or o 0 + 1 ≤ 20
digits_most None h = omega arith
digits_most (Some k) h = omega arith
