-- `utf8::well_formed` meets its contract. Assumes nothing.
use mathlib.Core.Path.{◌∙◌}
use Rattle.utf8.proofs.Agreement.{answers}
use Rattle.utf8.proofs.well_formed.Goals as goal

pub returns : goal.returns
returns c = c.is_ok.ensures.value ∙ answers _ _ _ _ c.from_utf8.ensures.cases
