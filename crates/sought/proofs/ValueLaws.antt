-- Which value is meant: of a flag, of a field by its name. Assumes nothing.
use mir.Val.{bool_byte}
use Rattle.std.specs.Prelude.{None, Option, Some, unwrap_or}
use Prim.Native.Nat.{ℕ}
use Prim.Native.String.{String}
use mathlib.Core.Path.{◌≡◌, refl, sym, ap, ◌∙◌}
use mathlib.Core.Bool.{Bool, true, false}
use mathlib.Core.List.{List, []}
use native.Mathlib.Omega.{arith}
use Rattle.text.specs.Literal.{utf8, spells}
use Rattle.text.specs.Parts.{same_bytes}
use Rattle.text.specs.Unicode.{encoded}
use Rattle.text.proofs.LiteralLaws.{codes, spells_as}
use Rattle.values.specs.Decimal.{decimal}
use Rattle.writing.proofs.DecimalLaws.{decimal-small}
use Rattle.verdicts.specs.Lookup.{flag, present_bytes}
use Rattle.sought.specs.Values.{value_bytes, value_text}
use Rattle.sought.specs.declared.value.Value.{Value}

-- a flag is a number of one digit
pub flag_digit : (b : Bool) → decimal (bool_byte b) ≡ flag b
unfolding flag utf8 encoded
flag_digit true = decimal-small 1 (omega arith)
flag_digit false = decimal-small 0 (omega arith)

-- what a test of a name found
pub told_same : (w : String) (s : List ℕ) (t u : Bool) → t ≡ same_bytes s (codes w) → t ≡ u → spells w s ≡ u
told_same w s t u e k = spells_as w s ∙ sym e ∙ k

-- ---- what is written

-- what is written of a value is its bytes, if it is there
pub text-is : (bytes : List ℕ) (lists : List (List ℕ)) (v : Value) (o : Option (List ℕ)) → value_bytes bytes lists v ≡ o → value_text bytes lists v ≡ present_bytes o
unfolding value_text present_bytes
text-is bytes lists v o e = ap (λ (x : Option (List ℕ)). unwrap_or x []) e ∙ given o
  where
    given : (o : Option (List ℕ)) → unwrap_or o [] ≡ present_bytes o
    given None = refl
    given (Some x) = refl
