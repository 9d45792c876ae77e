-- What the code's table has to say of the 37 names. Assumes nothing.
use Rattle.std.specs.Prelude.{ℕ, ◌+◌, ◌*◌, ◌%◌, ◌≡◌, List, length, get_or, None, Option, Some}
use Rattle.text.proofs.LiteralLaws.{codes}
use Rattle.wire.specs.Operations.{operation}
use Rattle.wire.specs.declared.ops.Op.{Op}

-- the sum that tells the 37 names apart: the length, the fourth and the sixth byte
abbrev pub name_sum : List ℕ → ℕ
name_sum s = (length s + 2 * get_or s 3 0 + 8 * get_or s 5 0) % 71

-- by the sum of its name, an operation
pub record Hints (table : List (Option Op)) : Type 0 where
  pub rule : (o : Op) → get_or table (name_sum (codes (operation o).name)) None ≡ Some o
