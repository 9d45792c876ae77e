-- `tables::walks::TrimmedItems` gives the trimmed items, one after the other. Assumes nothing.
use mathlib.Core.Path.{◌≡◌, ap}
use mathlib.Core.List.{◌∷◌}
use lib.ListN.{length}
use borrow.Author.Rules.{rules}
use Rattle.script.specs.Sets.{trimmed_items}
use Rattle.tables.specs.Walks.{items_of_left}
use Rattle.tables.proofs.WalkLaws.{items_next}
use Rattle.tables.proofs.walks.TrimmedItemsIterator.next.Goals as goal

next_item : (c : goal.After-trimmed-in-Some) → trimmed_items c.in_ok-left.left.text.now c.in_ok-left.left.at ≡ c.trimmed-in-Some.result.at ∷ trimmed_items c.behind.result.text.now c.behind.result.at
next_item c =
    let left = c.in_ok-left.left in
    rw (c.trimmed-in-Some.ensures.at, c.front.ensures.text, c.front.ensures.at, c.behind.ensures.text, c.behind.ensures.at)
    (items_next _ _ _ left.inside c.find.ensures.value _ c.in-Some.is (rw c.in-Some.is at c.find.ensures.inside))

pub returns-in-Some-clause-steps : goal.returns-in-Some-clause-steps
unfolding items_of_left
returns-in-Some-clause-steps c = rw (c.in_ok-left.was) (next_item c)

pub returns-in-Some-clause-goes : goal.returns-in-Some-clause-goes
unfolding items_of_left
returns-in-Some-clause-goes c =
    let shorter = ap length (next_item c) in
    rw (c.in_ok-left.was) (search (rules))
