-- `totals::enter` meets its contract: the count fits. Assumes nothing.
use Rattle.totals.proofs.BoundLaws.{entries_fit}
use borrow.Author.Rules.{rules}
use Rattle.totals.proofs.enter.Goals as goal

pub overflow_add-result : goal.overflow_add-result
overflow_add-result c = search (rules, entries_fit)
