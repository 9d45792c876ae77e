-- `numbers::expectations::matcher_numbers` meets its contract. Assumes nothing.
use Rattle.call_fields.specs.CallFields.{place_numbers}
use Rattle.numbers.specs.Numbers.{matcher_numbers}
use Rattle.numbers.proofs.NumberLaws.{matcher_by, greater_is, less_is, at_least_is, at_most_is}
use borrow.Author.Rules.{rules}
use Rattle.numbers.proofs.expectations.matcher_numbers.Goals as goal

pub returns-in-Exact : goal.returns-in-Exact
unfolding matcher_numbers place_numbers
returns-in-Exact c = search (rules, matcher_by)

pub returns-in-Regex : goal.returns-in-Regex
unfolding matcher_numbers place_numbers
returns-in-Regex c = search (rules, matcher_by)

pub returns-in-GreaterThan : goal.returns-in-GreaterThan
unfolding matcher_numbers place_numbers
returns-in-GreaterThan c = search (rules, greater_is)

pub returns-in-LessThan : goal.returns-in-LessThan
unfolding matcher_numbers place_numbers
returns-in-LessThan c = search (rules, less_is)

pub returns-in-GreaterOrEqual : goal.returns-in-GreaterOrEqual
unfolding matcher_numbers place_numbers
returns-in-GreaterOrEqual c = search (rules, at_least_is)

pub returns-in-LessOrEqual : goal.returns-in-LessOrEqual
unfolding matcher_numbers place_numbers
returns-in-LessOrEqual c = search (rules, at_most_is)
