-- `hexadecimal::HexDigits::new`: one test, which antt computes, goes over all 256 entries. Assumes nothing.
use mathlib.Core.Path.{refl}
use Rattle.text.specs.Base.{within}
use Rattle.values.specs.Hex.{hex_value}
use Rattle.hexadecimal.proofs.HexLaws.{table_right}
use Rattle.hexadecimal.proofs.HexDigits.new.Goals as goal

pub invariant_of-result : goal.invariant_of-result
unfolding hex_value within
invariant_of-result c = record { rule = table_right _ refl refl }
