-- `ranges::each::all_in` meets its contract. Assumes nothing.
use Rattle.std.proofs.lemmas.Iterator.{YieldsList-from_slice}
use Rattle.std.proofs.lemmas.Iterator.Search.{all_from_yields_List}
use mathlib.Core.Path.{◌∙◌}
use borrow.Author.Rules.{rules}
use borrow.Author.Tests.{tests}
use Rattle.ranges.proofs.EveryLaws.{in_text, all_in_every}
use Rattle.ranges.proofs.each.all_in.Goals as goal

pub returns : goal.returns
returns c =
    all_from_yields_List (in_text c.args.text.now) _ _ c.all.result c.all.ensures.ran (YieldsList-from_slice c.args.expectations.now cc) (λ x b q k. search (rules, tests))
    ∙ all_in_every c.args.text.now c.args.expectations.now
