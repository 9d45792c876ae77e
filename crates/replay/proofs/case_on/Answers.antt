-- `replay::case_on` is safe and ends. Assumes nothing.
use Rattle.text.proofs.WordLaws.{word_places}
use borrow.Author.Rules.{rules}
use Rattle.replay.proofs.case_on.Goals as goal

pub slice_bounds-case_in-end : goal.slice_bounds-case_in-end
slice_bounds-case_in-end c = search (rules, word_places)

pub slice_bounds-case_in-count-2 : goal.slice_bounds-case_in-count-2
slice_bounds-case_in-count-2 c = search (rules, word_places)

pub slice_bounds-case_in-start-2 : goal.slice_bounds-case_in-start-2
slice_bounds-case_in-start-2 c = search (rules, word_places)

pub slice_bounds-case_in-end-2 : goal.slice_bounds-case_in-end-2
slice_bounds-case_in-end-2 c = search (rules, word_places)
