-- `text::parts::ends_with` meets its contract. Assumes nothing.
use Rattle.text.proofs.StdLaws.{last_is}
use Rattle.text.proofs.parts.ends_with.Goals as goal
use mathlib.Core.Path.{◌∙◌}

pub returns : goal.returns
returns c = c.eq.ensures ∙ last_is _ _ _ c.last.ensures.value
