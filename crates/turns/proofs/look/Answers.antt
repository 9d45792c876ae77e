-- `turns::look` meets its contract. Assumes nothing.
use Rattle.turns.proofs.TurnLaws.{told, kept_at}
use Rattle.turns.proofs.look.Goals as goal

pub returns : goal.returns
returns c =
    let here = c.in-Some-Some.ensures.lookup in
    let found = kept_at _ _ _ _ here.0 here.1 c.in-Some-Some.field-0-is in
    let t = told _ _ _ _ _ c.requires.memo _ found (c.is_of.ensures c.if-is_of.true) _ c.turn_of.ensures in
    record { step_value = t.0; next_value = t.1 }
