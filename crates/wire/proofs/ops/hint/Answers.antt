-- `wire::ops::hint` meets its contract: a text that is a name is long enough, and its sum leads to its operation. Assumes nothing.
use Rattle.std.specs.Prelude.{None, Option, Some}
use Prim.Native.Nat.{ℕ, ◌≤◌}
use mathlib.Core.Path.{◌≡◌, refl}
use mathlib.Core.List.{List}
use native.Mathlib.Omega.{arith}
use lib.Dec.{leb}
use lib.ListN.{length, get_or}
use borrow.Author.Tests.{leb-true}
use Rattle.text.proofs.LiteralLaws.{codes}
use Rattle.wire.specs.Operations.{operation, named}
use Rattle.wire.specs.OperationTables.{name_sum, Hints}
use Rattle.wire.specs.declared.ops.Op.{Op}
use Rattle.wire.proofs.OperationLaws.{each, name-named}
use Rattle.wire.proofs.ops.hint.Goals as goal

module _ (s : List ℕ) (o : Op) (e : named s ≡ Some o) where
  long : 6 ≤ length s
  unfolding operation
  long = rw (name-named s o e) (leb-true 6 _ (each (λ p. leb 6 (length (codes (operation p).name))) refl o))

  led : (table : List (Option Op)) → Hints table → get_or table (name_sum s) None ≡ Some o
  led table h = rw (name-named s o e) (h.rule o)

pub returns-then-s-lt6 : goal.returns-then-s-lt6
returns-then-s-lt6 c op e = absurd (omega (arith, long _ op e))

pub returns : goal.returns
returns c op e = led _ op e _ c.hints-hints.ensures
