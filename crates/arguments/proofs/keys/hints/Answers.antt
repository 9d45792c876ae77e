-- `arguments::keys::hints` meets its contract: one test, which antt computes, goes over all operations and all keys. Assumes nothing.
use mathlib.Core.Path.{refl}
use Rattle.text.specs.Literal.{spells}
use Rattle.text.specs.Parts.{same_bytes}
use Rattle.script.specs.Operations.{key_row, same_key, keys_of, key_in}
use Rattle.arguments.specs.KeyTables.{key_at, name_at}
use Rattle.arguments.proofs.KeyLaws.{led, own, told, hinted, hints_right}
use Rattle.arguments.proofs.keys.hints.Goals as goal

pub returns : goal.returns
unfolding spells same_bytes key_row same_key keys_of key_in key_at name_at led own told hinted
returns c = hints_right _ refl
