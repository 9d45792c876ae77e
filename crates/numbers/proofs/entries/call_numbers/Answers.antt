-- `numbers::entries::call_numbers` meets its contract. Assumes nothing.
use Rattle.call_fields.specs.CallFields.{padded, place_numbers, items_numbers, options_numbers}
use Rattle.numbers.specs.Numbers.{call_row, call_numbers}
use Rattle.numbers.proofs.NumberLaws.{call_by, path_row, string_row, set-row, flag-row, mode_row, bare_row, verify_row, is_late}
use borrow.Author.Rules.{rules}
use Rattle.numbers.proofs.entries.call_numbers.Goals as goal

pub later_numbers-requires : goal.later_numbers-requires
later_numbers-requires c = search (rules, is_late)

pub returns-in-SinglePath : goal.returns-in-SinglePath
unfolding padded place_numbers items_numbers options_numbers call_row call_numbers
returns-in-SinglePath c = search (rules, path_row)

pub returns-in-SingleString : goal.returns-in-SingleString
unfolding padded place_numbers items_numbers options_numbers call_row call_numbers
returns-in-SingleString c = search (rules, string_row)

pub returns-in-PathSet : goal.returns-in-PathSet
unfolding padded place_numbers items_numbers options_numbers call_row call_numbers
returns-in-PathSet c = search (rules, set-row)

pub returns-in-PathSetFlag : goal.returns-in-PathSetFlag
unfolding padded place_numbers items_numbers options_numbers call_row call_numbers
returns-in-PathSetFlag c = search (rules, flag-row)

pub returns-in-PathSetMode : goal.returns-in-PathSetMode
unfolding padded place_numbers items_numbers options_numbers call_row call_numbers
returns-in-PathSetMode c = search (rules, mode_row)

pub returns-in-NoArgs : goal.returns-in-NoArgs
unfolding padded place_numbers items_numbers options_numbers call_row call_numbers
returns-in-NoArgs c = search (rules, bare_row)

pub returns-in-SetOptions : goal.returns-in-SetOptions
unfolding padded place_numbers items_numbers options_numbers call_row call_numbers
returns-in-SetOptions c = search (rules, call_by)

pub returns-in-CollectGarbage : goal.returns-in-CollectGarbage
unfolding padded place_numbers items_numbers options_numbers call_row call_numbers
returns-in-CollectGarbage c = search (rules, call_by)

pub returns-in-VerifyStore : goal.returns-in-VerifyStore
unfolding padded place_numbers items_numbers options_numbers call_row call_numbers
returns-in-VerifyStore c = search (rules, verify_row)
