-- `sought::fields::collect_garbage_value` meets its contract. Assumes nothing.
use Rattle.sought.specs.Values.{value_bytes}
use Rattle.verdicts.specs.Lookup.{fields, value_in}
use Rattle.sought.proofs.ValueLaws.{told_same}
use Rattle.sought.proofs.fields.collect_garbage_value.Goals as goal

pub returns-then-same : goal.returns-then-same
unfolding value_bytes value_in fields
returns-then-same c = λ bytes lists. rw (told_same "bytes_freed" _ _ _ c.same.ensures c.if-same.true)

pub returns : goal.returns
unfolding value_bytes value_in fields
returns c = λ bytes lists. rw (told_same "bytes_freed" _ _ _ c.same.ensures c.if-same.false)
