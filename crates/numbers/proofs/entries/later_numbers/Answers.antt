-- `numbers::entries::later_numbers` meets its contract. Assumes nothing.
use Rattle.call_fields.specs.CallFields.{padded, place_numbers, items_numbers}
use Rattle.numbers.specs.Numbers.{call_row, call_numbers}
use Rattle.numbers.proofs.NumberLaws.{call_by, multiple_row, raw_row, not_early}
use borrow.Author.Rules.{rules}
use Rattle.numbers.proofs.entries.later_numbers.Goals as goal

pub returns-in-AddPermRoot : goal.returns-in-AddPermRoot
unfolding padded place_numbers items_numbers call_row call_numbers
returns-in-AddPermRoot c = search (rules, call_by)

pub returns-in-AddSignatures : goal.returns-in-AddSignatures
unfolding padded place_numbers items_numbers call_row call_numbers
returns-in-AddSignatures c = search (rules, call_by)

pub returns-in-AddTextToStore : goal.returns-in-AddTextToStore
unfolding padded place_numbers items_numbers call_row call_numbers
returns-in-AddTextToStore c = search (rules, call_by)

pub returns-in-AddToStore : goal.returns-in-AddToStore
unfolding padded place_numbers items_numbers call_row call_numbers
returns-in-AddToStore c = search (rules, call_by)

pub returns-in-AddMultipleToStore : goal.returns-in-AddMultipleToStore
unfolding padded place_numbers items_numbers call_row call_numbers
returns-in-AddMultipleToStore c = search (rules, multiple_row)

pub returns-in-AddBuildLog : goal.returns-in-AddBuildLog
unfolding padded place_numbers items_numbers call_row call_numbers
returns-in-AddBuildLog c = search (rules, call_by)

pub returns-in-RegisterDrvOutput : goal.returns-in-RegisterDrvOutput
unfolding padded place_numbers items_numbers call_row call_numbers
returns-in-RegisterDrvOutput c = search (rules, call_by)

pub returns-in-QueryRealisation : goal.returns-in-QueryRealisation
unfolding padded place_numbers items_numbers call_row call_numbers
returns-in-QueryRealisation c = search (rules, call_by)

pub returns-in-QuerySubstitutablePathInfo : goal.returns-in-QuerySubstitutablePathInfo
unfolding padded place_numbers items_numbers call_row call_numbers
returns-in-QuerySubstitutablePathInfo c = search (rules, call_by)

pub returns-in-QuerySubstitutablePathInfos : goal.returns-in-QuerySubstitutablePathInfos
unfolding padded place_numbers items_numbers call_row call_numbers
returns-in-QuerySubstitutablePathInfos c = search (rules, call_by)

pub returns-in-RawBytes : goal.returns-in-RawBytes
unfolding padded place_numbers items_numbers call_row call_numbers
returns-in-RawBytes c = search (rules, raw_row)

pub returns-in_default : goal.returns-in_default
unfolding padded place_numbers items_numbers call_row call_numbers
returns-in_default c = search (rules, not_early)
