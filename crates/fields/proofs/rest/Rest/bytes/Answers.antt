-- `fields::rest::Rest::bytes` meets its contract. Assumes nothing.
use Rattle.fields.proofs.FieldLaws.{bytes_are}
use Rattle.fields.proofs.rest.Rest.bytes.Goals as goal

pub returns-clause-value : goal.returns-clause-value
returns-clause-value c = bytes_are _ _ _ _ c.word.ensures.bytes c.word.ensures.at _ _ _ c.in_ok-mark.ensures.cases.0 c.if-mark-ne120.false _ _ c.decode.ensures.result_after _ c.in_ok-n.was
