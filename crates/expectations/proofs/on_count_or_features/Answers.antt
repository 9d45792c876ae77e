-- `expectations::on_count_or_features` meets its contract, by what was found. Assumes nothing.
use Rattle.expectations.proofs.ExpectationLaws.{a_count, some-features}
use borrow.Author.Rules.{rules}
use Rattle.expectations.proofs.on_count_or_features.Goals as goal

pub returns-then-starts_with : goal.returns-then-starts_with
returns-then-starts_with c =
    let h = rw (c.behind.ensures.text, c.behind.ensures.at) at c.about.ensures in
    a_count _ _ _ c.requires _ c.starts_with.ensures.value c.if-starts_with.true h

pub returns : goal.returns
returns c = search (rules, a_count, some-features)
