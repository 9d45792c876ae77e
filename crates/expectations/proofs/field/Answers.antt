-- `expectations::field` meets its contract, by what was found. Assumes nothing.
use Rattle.pieces.proofs.BehindLaws.{front_bounds}
use Rattle.expectations.proofs.ExpectationLaws.{field_words}
use borrow.Author.Rules.{rules}
use Rattle.expectations.proofs.field.Goals as goal

pub behind-requires : goal.behind-requires
behind-requires c = search (rules, field_words, front_bounds)
