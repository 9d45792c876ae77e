-- `verdict_exports::nwscript_entry_verdict` meets its contract. Assumes nothing.
use Rattle.verdict_exports.proofs.NumberLaws.{entry_of_rows}
use borrow.Author.Rules.{rules}
use Rattle.verdict_exports.proofs.nwscript_entry_verdict.Goals as goal

pub returns : goal.returns
returns c = search (rules, entry_of_rows)
