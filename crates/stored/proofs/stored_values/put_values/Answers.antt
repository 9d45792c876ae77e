-- `stored::stored_values::put_values` meets its contract: so many items were written as the place went on. Assumes nothing.
use Prim.Native.Nat.{ℕ}
use mathlib.Core.Path.{ap, ◌∙◌}
use native.Mathlib.Omega.{arith}
use Rattle.script.specs.Operations.{form_of}
use Rattle.said.specs.Said.{said_of}
use Rattle.stored.specs.Closing.{sizes_with, sizes_for}
use Rattle.stored.proofs.WriteLaws.{items_far}
use Rattle.stored.proofs.stored_values.put_values.Goals as goal

pub overflow_sub-n : goal.overflow_sub-n
overflow_sub-n c = omega (arith, items_far _ _ _ c.put_items.ensures, c.position-before.ensures, c.position.ensures)

pub returns-clause-value : goal.returns-clause-value
unfolding sizes_for
returns-clause-value c =
    let a = c.args.operation in
    c.put_stored.ensures.value
    ∙ ap (λ (n : ℕ). sizes_with a.said.text.now (said_of a.said.heard.now) n (form_of a.opening.op).shape) (omega (arith, items_far _ _ _ c.put_items.ensures, c.position-before.ensures, c.position.ensures))
