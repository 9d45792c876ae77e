-- `parse::measure::measure` meets its contract. Assumes nothing.
use borrow.Author.Rules.{rules}
use Rattle.parse.proofs.measure.measure.Goals as goal

pub measure_keeping-requires : goal.measure_keeping-requires
measure_keeping-requires c = search (rules, c.no_room-kept.ensures)
