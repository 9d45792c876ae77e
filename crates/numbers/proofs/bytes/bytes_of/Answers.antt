-- `numbers::bytes::bytes_of` meets its contract: a byte is taken at once, or byte after byte. Assumes nothing.
use Prim.Native.Nat.{ℕ, ◌/◌, ◌%◌}
use mathlib.Core.Path.{◌≡◌, refl, ◌∙◌}
use native.Mathlib.Omega.{arith}
use mir.Syntax.{w64}
use Rattle.std.specs.Int.{to_le_bytes}
use Rattle.numbers.specs.Numbers.{bytes_of, low_bytes}
use Rattle.numbers.proofs.bytes.bytes_of.Goals as goal

module _ (n : ℕ) where
  two : n / 0x1_0000 ≡ n / 256 / 256
  two = omega arith

  three : n / 0x100_0000 ≡ n / 256 / 256 / 256
  three = omega arith

  four : n / 0x1_0000_0000 ≡ n / 256 / 256 / 256 / 256
  four = omega arith

  five : n / 0x100_0000_0000 ≡ n / 256 / 256 / 256 / 256 / 256
  five = omega arith

  six : n / 0x1_0000_0000_0000 ≡ n / 256 / 256 / 256 / 256 / 256 / 256
  six = omega arith

  seven : n / 0x100_0000_0000_0000 ≡ n / 256 / 256 / 256 / 256 / 256 / 256 / 256
  seven = omega arith

  eight : to_le_bytes w64 n ≡ bytes_of n
  unfolding bytes_of low_bytes
  eight = rw (two, three, four, five, six, seven) refl

pub returns : goal.returns
returns c = c.to_le_bytes.ensures ∙ eight _
