-- `counts::counts::feature_count` meets its contract. Assumes nothing.
use mathlib.Core.Path.{sym, ap, ◌∙◌}
use mathlib.Core.Logic.{inl}
use lib.ListN.{length}
use borrow.Author.Rules.{rules}
use Rattle.tables.specs.Walks.{filled_left, words_left}
use Rattle.tables.proofs.ItemLaws.{features-braced, features_apart}
use Rattle.tables.proofs.WalkLaws.{count_is}
use Rattle.counts.specs.Counts.{feature_count}
use Rattle.counts.proofs.CountLaws.{features_fit, features_counted_fit}
use Rattle.counts.proofs.counts.feature_count.Goals as goal

pub count-requires-clause-fits : goal.count-requires-clause-fits
unfolding feature_count
count-requires-clause-fits c =
    let i = c.in-Some.ensures in
    let same = ap length (features-braced c.args.v c.trimmed-q.result c.trimmed-q.ensures.text c.trimmed-q.ensures.at c.in-Some.p i.0 i.1 i.2 ∙ sym c.of.ensures) in
    let fits = features_fit _ _ c.args.v.inside in
    inl (search rules)

pub count-requires-in-None-clause-fits : goal.count-requires-in-None-clause-fits
unfolding feature_count
count-requires-in-None-clause-fits c =
    let same = ap length (features_apart c.args.v c.trimmed-q.result c.trimmed-q.ensures.text c.trimmed-q.ensures.at c.in-None.ensures ∙ sym c.of-in-None.ensures) in
    let fits = features_fit _ _ c.args.v.inside in
    inl (search rules)

pub returns-in-Some : goal.returns-in-Some
unfolding feature_count
returns-in-Some c =
    let i = c.in-Some.ensures in
    let same = ap length (features-braced c.args.v c.trimmed-q.result c.trimmed-q.ensures.text c.trimmed-q.ensures.at c.in-Some.p i.0 i.1 i.2 ∙ sym c.of.ensures) in
    let all = count_is filled_left _ _ c.count.ensures.ran ∙ sym same in
    record { value = all; result_bound = features_counted_fit _ _ _ c.args.v.inside all }

pub returns-in-None : goal.returns-in-None
unfolding feature_count
returns-in-None c =
    let same = ap length (features_apart c.args.v c.trimmed-q.result c.trimmed-q.ensures.text c.trimmed-q.ensures.at c.in-None.ensures ∙ sym c.of-in-None.ensures) in
    let all = count_is words_left _ _ c.count-in-None.ensures.ran ∙ sym same in
    record { value = all; result_bound = features_counted_fit _ _ _ c.args.v.inside all }
