-- `expectations::terminal` meets its contract, by what was found. Assumes nothing.
use Rattle.pieces.proofs.BehindLaws.{front_bounds}
use Rattle.expectations.proofs.ExpectationLaws.{expect_words}
use borrow.Author.Rules.{rules}
use Rattle.expectations.proofs.terminal.Goals as goal

pub behind-requires : goal.behind-requires
behind-requires c = search (rules, expect_words, front_bounds)

pub returns : goal.returns
returns c = search (rules, expect_words, front_bounds)
