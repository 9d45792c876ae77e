-- `fields::rest::Rest::word` meets its contract: the word lies on the line. Assumes nothing.
use Rattle.text.proofs.WordLaws.{known}
use borrow.Author.Rules.{rules}
use Rattle.fields.proofs.rest.Rest.word.Goals as goal

pub slice_bounds-result-end : goal.slice_bounds-result-end
slice_bounds-result-end c = let k = known _ _ c.word_at-w.result c.args.self.inside c.word_at-w.ensures in search (rules, k.inside)

pub invariant_of-rest : goal.invariant_of-rest
invariant_of-rest c = record { inside = (known _ _ c.word_at-w.result c.args.self.inside c.word_at-w.ensures).inside }
