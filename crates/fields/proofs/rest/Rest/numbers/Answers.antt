-- `fields::rest::Rest::numbers` meets its contract. The loop's invariant: the numbers filled, and those that are left from `rest` on, are all numbers. Assumes nothing.
use Rattle.std.specs.Prelude.{Some}
use mathlib.Core.Path.{◌≡◌, refl, ◌∙◌}
use Rattle.fields.specs.Fields.{field, number_at}
use Rattle.fields.proofs.FieldLaws.{one_filled}
use borrow.Author.Rules.{rules}
use Rattle.fields.proofs.rest.Rest.numbers.Goals as goal

pub loop-number-preserved : goal.loop-number-preserved
loop-number-preserved c =
    let q : Some (field c.in_ok-n.n c.in_ok-n.next.at) ≡ number_at c.args.self.line.now c.loop-number.rest.at = rw (← c.loop-number.invariant.0) c.in_ok-n.ensures.value in
    (c.in_ok-n.ensures.line ∙ c.loop-number.invariant.0, one_filled _ _ _ _ _ _ c.loop-number.invariant.1 (search rules) _ q (search rules) _ refl)
