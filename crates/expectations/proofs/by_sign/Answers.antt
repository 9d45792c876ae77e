-- `expectations::by_sign` meets its contract, by what was found. Assumes nothing.
use Rattle.pieces.proofs.BehindLaws.{front_bounds}
use Rattle.expectations.proofs.ExpectationLaws.{result_signs}
use borrow.Author.Rules.{rules}
use Rattle.expectations.proofs.by_sign.Goals as goal

pub behind-requires : goal.behind-requires
behind-requires c = search (rules, result_signs, front_bounds)
