-- `storing::put_unquoted` meets its contract: there is room for what `unquote` writes. Assumes nothing.
use borrow.Author.Rules.{rules}
use Rattle.values.specs.Unquote.{unquoted}
use Rattle.storing.proofs.ValueLaws.{unquoted_is}
use Rattle.storing.proofs.put_unquoted.Goals as goal

pub put_by-requires-clause-fits : goal.put_by-requires-clause-fits
put_by-requires-clause-fits c =
    (unquoted c.bytes-bytes.result.now, (λ n after ran. search rules), rw (c.bytes-bytes.ensures, ← unquoted_is c.args.v.text.now c.args.v.at) c.requires)
