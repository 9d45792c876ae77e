-- `wire::ops::Op::from_name` meets its contract: an operation whose name is confirmed is the one, and where the only one that can be has another name,
-- there is none. Assumes nothing.
use Rattle.std.specs.Prelude.{None, Option, Some}
use Rattle.std.specs.Bool.{then_some}
use Prim.Native.Nat.{ℕ}
use mathlib.Core.Path.{◌≡◌, refl, sym, ap, ◌∙◌}
use mathlib.Core.Bool.{Bool, true, false}
use mathlib.Core.List.{List}
use Rattle.text.specs.Literal.{spells}
use Rattle.text.proofs.Scan.{never}
use Rattle.wire.specs.Operations.{operation, named}
use Rattle.wire.specs.declared.ops.Op.{Op}
use Rattle.wire.proofs.OperationLaws.{spelled, named_spelled, named-name, none_found}
use Rattle.wire.proofs.ops.Op.from_name.Goals as goal

confirmed : (s : List ℕ) (o : Op) → spells (operation o).name s ≡ true → Some o ≡ named s
confirmed s o b = sym (ap named (spelled (operation o).name s b) ∙ named-name o)

module _ (s : List ℕ) (hint : Option Op) (op : Op) (leads : (o : Op) → named s ≡ Some o → hint ≡ Some o) (e : hint ≡ Some op) where
  only : (o : Op) → named s ≡ Some o → o ≡ op
  only o n = let h = leads o n in cc

  other_name : spells (operation op).name s ≡ false → None ≡ named s
  other_name b = none_found (named s) op only (λ n. never (sym (named_spelled s op n) ∙ b))

  told : (b : Bool) → spells (operation op).name s ≡ b → then_some b op ≡ named s
  told true t = confirmed s op t
  told false t = other_name t

pub returns : goal.returns
returns c = c.then_some.ensures ∙ ap (λ b. then_some b c.in_ok-op.op) c.is_named.ensures ∙ told _ _ _ c.hint.ensures c.in_ok-op.was _ refl
