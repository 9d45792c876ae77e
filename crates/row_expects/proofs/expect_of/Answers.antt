-- `row_expects::expect_of` meets its contract. Assumes nothing.
use mathlib.Core.Path.{◌∙◌}
use Rattle.row_expects.proofs.RowLaws.{expect_is}
use Rattle.row_expects.proofs.expect_of.Goals as goal

pub returns : goal.returns
returns c = c.expect_by.ensures ∙ expect_is c.args.row.now c.args.n c.ranges.n _ _ _ _ _ _ _ _ _ c.at-6.ensures c.at.ensures c.at-2.ensures c.at-3.ensures c.at-4.ensures c.at-5.ensures c.place-p.ensures c.place.ensures c.matcher_of-m.ensures
