-- `ranges::each::all_fit` meets its contract. Assumes nothing.
use Rattle.std.proofs.lemmas.Iterator.{YieldsList-from_slice}
use Rattle.std.proofs.lemmas.Iterator.Search.{all_from_yields_List}
use mathlib.Core.Path.{◌∙◌}
use borrow.Author.Rules.{rules}
use borrow.Author.Tests.{tests}
use Rattle.verdicts.specs.Lookup.{looked}
use Rattle.subjects.specs.Against.{against}
use Rattle.ranges.proofs.EveryLaws.{has_room, all_fit_every}
use Rattle.ranges.proofs.each.all_fit.Goals as goal

pub returns : goal.returns
returns c =
    let A = c.args in
    let g = looked (against A.s) in
    all_from_yields_List (has_room A.text.now A.room g) _ _ c.all.result c.all.ensures.ran (YieldsList-from_slice A.expectations.now cc) (λ x b q k. search (rules, tests))
    ∙ all_fit_every A.text.now A.room g A.expectations.now
