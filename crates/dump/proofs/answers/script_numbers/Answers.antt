-- `dump::answers::script_numbers` meets its contract. Assumes nothing.
use Rattle.call_fields.specs.CallFields.{items_numbers}
use Rattle.numbers.specs.Numbers.{counts_numbers}
use Rattle.numbers.proofs.NumberLaws.{script-is}
use Rattle.dump.proofs.answers.script_numbers.Goals as goal

pub returns : goal.returns
unfolding items_numbers counts_numbers
returns c = script-is _ _ _ _ c.maybe_numbers-d.ensures c.maybe_numbers-t.ensures c.maybe_items_numbers-f.ensures
