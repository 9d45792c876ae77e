-- `arguments::keys::starts` meets its contract: one test, which antt computes, goes over all 26 names. Assumes nothing.
use mathlib.Core.Path.{refl}
use Rattle.text.specs.Parts.{same_bytes}
use Rattle.script.specs.Operations.{key_row}
use Rattle.arguments.specs.KeyTables.{key_at, name_at, letters}
use Rattle.arguments.proofs.KeyLaws.{spelt, placed, starts_right}
use Rattle.arguments.proofs.keys.starts.Goals as goal

pub returns : goal.returns
unfolding same_bytes key_row key_at name_at letters spelt placed
returns c = starts_right _ refl
