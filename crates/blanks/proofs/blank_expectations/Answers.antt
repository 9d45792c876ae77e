-- `blanks::blank_expectations` meets its contract. Assumes nothing.
use mathlib.Core.Path.{ap}
use lib.ListN.{replicate}
use Rattle.blanks.proofs.blank_expectations.Goals as goal

pub returns : goal.returns
returns c = ap (replicate 1024) c.blank_expectation.ensures
