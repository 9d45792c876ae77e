-- The machine hands a signed number on as bits, and reads it back. Assumes nothing.
use mathlib.Core.Path.{◌≡◌}
use lib.IntN.{ℤ}
use mir.Syntax.{w64}
use mir.Val.{SFits, to_z, of_z}
use mir.ValLaws.{to_z-of_z}

abbrev pub back : ℤ → ℤ
back z = to_z w64 (of_z w64 z)

pub back_is : (z : ℤ) → SFits w64 z → back z ≡ z
back_is z f = to_z-of_z w64 z f
