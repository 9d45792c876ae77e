-- `sought::fields::substitutable_value` meets its contract. Assumes nothing.
use Rattle.sought.specs.Values.{value_bytes}
use Rattle.verdicts.specs.Lookup.{fields, value_in}
use Rattle.sought.proofs.ValueLaws.{told_same}
use Rattle.sought.proofs.fields.substitutable_value.Goals as goal

pub returns-then-same : goal.returns-then-same
unfolding value_bytes value_in fields
returns-then-same c = λ bytes lists. rw (told_same "valid" _ _ _ c.same.ensures c.if-same.true) (c.flag_value.ensures bytes lists)

pub returns-then-same-2 : goal.returns-then-same-2
unfolding value_bytes value_in fields
returns-then-same-2 c =
    λ bytes lists. rw (
      told_same "valid" _ _ _ c.same.ensures c.if-same.false,
      told_same "downloadSize" _ _ _ c.same-2.ensures c.if-same-2.true,
    ) (c.number_value.ensures bytes lists)

pub returns-then-same-3 : goal.returns-then-same-3
unfolding value_bytes value_in fields
returns-then-same-3 c =
    λ bytes lists. rw (
      told_same "valid" _ _ _ c.same.ensures c.if-same.false,
      told_same "downloadSize" _ _ _ c.same-2.ensures c.if-same-2.false,
      told_same "narSize" _ _ _ c.same-3.ensures c.if-same-3.true,
    ) (c.number_value-then-same-3.ensures bytes lists)

pub returns : goal.returns
unfolding value_bytes value_in fields
returns c =
    λ bytes lists. rw (
      told_same "valid" _ _ _ c.same.ensures c.if-same.false,
      told_same "downloadSize" _ _ _ c.same-2.ensures c.if-same-2.false,
      told_same "narSize" _ _ _ c.same-3.ensures c.if-same-3.false,
    )
