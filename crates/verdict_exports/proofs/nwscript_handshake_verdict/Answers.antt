-- `verdict_exports::nwscript_handshake_verdict` meets its contract. Assumes nothing.
use Rattle.verdict_exports.proofs.NumberLaws.{handshake_of_rows}
use borrow.Author.Rules.{rules}
use Rattle.verdict_exports.proofs.nwscript_handshake_verdict.Goals as goal

pub returns : goal.returns
returns c = search (rules, handshake_of_rows)
