-- `blanks::blank_entries` meets its contract. Assumes nothing.
use mathlib.Core.Path.{ap}
use lib.ListN.{replicate}
use Rattle.blanks.proofs.blank_entries.Goals as goal

pub returns : goal.returns
returns c = ap (replicate 256) c.blank_entry.ensures
