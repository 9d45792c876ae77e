-- `op_records::rest_of` meets its contract. Assumes nothing.
use mathlib.Core.Path.{refl}
use Rattle.op_records.proofs.RestLaws.{rest_plain, rest_braced}
use borrow.Author.Rules.{rules}
use Rattle.op_records.proofs.rest_of.Goals as goal

pub returns-then-not-starts_with-clause-at : goal.returns-then-not-starts_with-clause-at
returns-then-not-starts_with-clause-at c =
    rest_plain _ _ c.trimmed-q.result (search rules) c.trimmed-q.ensures.at _ c.starts_with.ensures.value c.if-not-starts_with.true
    c.behind.result (search rules) c.behind.ensures.at _ c.trimmed.ensures.at

pub returns-in-Some-clause-at : goal.returns-in-Some-clause-at
returns-in-Some-clause-at c =
    rest_braced _ _ c.trimmed-q.result (search rules) c.trimmed-q.ensures.at _ c.starts_with.ensures.value c.if-not-starts_with.false
    c.behind-2.result (search rules) c.behind-2.ensures.at _ c.split_once.ensures.value
    (c.in-Some.field-0-0, c.in-Some.rest) c.in-Some.rest c.in-Some.is refl (search rules) _ c.trimmed-in-Some.ensures.at
