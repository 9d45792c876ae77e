-- A number past the smaller of two counts is past one of them. Assumes nothing.
use mathlib.Core.Path.{◌≡◌, refl}
use Prim.Native.Nat.{ℕ, suc, min}
use native.Mathlib.Omega.{arith}
use native.Mathlib.Decide.{dec_le}
use lib.Dec.{ltb}
use borrow.Author.Tests.{lt-ltb, le-ltb}
use Rattle.text.specs.Base.{◌or◌}

pub past_min : (a b n : ℕ) → ltb (min a b) n ≡ (ltb a n or ltb b n)
past_min a b n = elim (dec_le (suc a) n) [
  | yes p ↦ let x = lt-ltb a n p in let y = lt-ltb (min a b) n (omega arith) in rw (x, y) refl
  | no p ↦ elim (dec_le (suc b) n) [
    | yes q ↦ let x = le-ltb a n (omega arith) in let y = lt-ltb b n q in let z = lt-ltb (min a b) n (omega arith) in rw (x, y, z) refl
    | no q ↦ let x = le-ltb a n (omega arith) in let y = le-ltb b n (omega arith) in let z = le-ltb (min a b) n (omega arith) in rw (x, y, z) refl
  ]
]
