-- `verdict_exports::number` meets its contract: refusals first, then the verdict. Assumes nothing.
use Rattle.verdict_exports.proofs.NumberLaws.{outside_text, part_outside, number_judged}
use borrow.Author.Rules.{rules}
use Rattle.verdict_exports.proofs.number.Goals as goal

pub returns-then-not-expect_in : goal.returns-then-not-expect_in
returns-then-not-expect_in c = search (rules, outside_text)

pub returns-then-not-parts_in : goal.returns-then-not-parts_in
returns-then-not-parts_in c = search (rules, part_outside)

pub returns : goal.returns
returns c = search (rules, number_judged)
