-- `storing::put_hex` meets its contract: there is room for what `hex_decode` writes. Assumes nothing.
use borrow.Author.Rules.{rules}
use Rattle.values.specs.Hex.{hex_decoded}
use Rattle.storing.proofs.ValueLaws.{hex_is}
use Rattle.storing.proofs.put_hex.Goals as goal

pub put_by-requires-clause-fits : goal.put_by-requires-clause-fits
put_by-requires-clause-fits c =
    (hex_decoded c.bytes-bytes.result.now, (λ n after ran. search rules), rw (c.bytes-bytes.ensures, ← hex_is c.args.v.text.now c.args.v.at) c.requires)
