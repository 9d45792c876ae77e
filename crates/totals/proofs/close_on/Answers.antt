-- `totals::close_on` meets its contract: the sums fit. Assumes nothing.
use Rattle.totals.proofs.BoundLaws.{items_fit, store_fit}
use borrow.Author.Rules.{rules}
use Rattle.totals.proofs.close_on.Goals as goal

pub overflow_add-result : goal.overflow_add-result
overflow_add-result c = search (rules, items_fit)

pub overflow_add-result-2 : goal.overflow_add-result-2
overflow_add-result-2 c = search (rules, store_fit)
