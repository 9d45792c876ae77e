-- `wire::ops::hints` meets its contract: one test, which antt computes, goes over all 37 names. Assumes nothing.
use mathlib.Core.Path.{◌≡◌, refl}
use mathlib.Core.Bool.{Bool, true}
use mathlib.Core.List.{List}
use lib.Dec.{eqb}
use lib.ListN.{get_or}
use Rattle.std.specs.Prelude.{None, Option}
use Rattle.text.proofs.LiteralLaws.{codes}
use Rattle.wire.specs.Operations.{operation, operations}
use Rattle.wire.specs.OperationTables.{name_sum, Hints}
use Rattle.wire.specs.declared.ops.Op.{Op}
use Rattle.wire.proofs.OperationLaws.{every, each, code_of, found}
use Rattle.wire.proofs.ops.hints.Goals as goal

hinted : List (Option Op) → Op → Bool
hinted table o = eqb (code_of (get_or table (name_sum (codes (operation o).name)) None)) (operation o).code

right : (table : List (Option Op)) → every (hinted table) operations ≡ true → Hints table
unfolding hinted
right table t = record { rule = λ o. found _ o (each (hinted table) t o) }

pub returns : goal.returns
unfolding operation hinted
returns c = right _ refl
