-- The two's complement of the definition is the machine's. Assumes nothing.
use mathlib.Core.Path.{◌≡◌, refl}
use native.Mathlib.Omega.{arith}
use lib.IntN.{ℤ, pos, negsuc}
use mir.Syntax.{w64}
use mir.Val.{of_z}
use Rattle.numbers.specs.Numbers.{unsigned}

pub twos : (z : ℤ) → of_z w64 z ≡ unsigned z
unfolding unsigned
twos (pos n) = refl
twos (negsuc n) = omega arith
