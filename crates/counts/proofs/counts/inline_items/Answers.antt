-- `counts::counts::inline_items` meets its contract. Assumes nothing.
use Rattle.counts.proofs.CountLaws.{inline-none, inline_some, inline_counted_fit}
use Rattle.counts.proofs.counts.inline_items.Goals as goal

pub returns-in-None : goal.returns-in-None
returns-in-None c =
    let none = inline-none _ _ _ c.in-None.ensures.value in
    record { value = none; result_bound = inline_counted_fit _ _ _ _ c.args.args.inside none }

pub returns-in-Some : goal.returns-in-Some
returns-in-Some c =
    let some = inline_some _ _ _ _ _ c.in-Some.ensures.value (rw c.in-Some.ensures.text at c.set_count.ensures.value) in
    record { value = some; result_bound = inline_counted_fit _ _ _ _ c.args.args.inside some }
