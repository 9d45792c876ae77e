-- `dump::lists::item_numbers` meets its contract. Assumes nothing.
use Rattle.numbers.specs.Numbers.{item_numbers}
use borrow.Author.Rules.{rules}
use Rattle.dump.proofs.lists.item_numbers.Goals as goal

pub returns : goal.returns
unfolding item_numbers
returns c = search rules
