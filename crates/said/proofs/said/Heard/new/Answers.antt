-- `said::said::Heard::new` meets its contract. Assumes nothing.
use Rattle.said.proofs.SaidLaws.{none_said}
use Rattle.said.proofs.said.Heard.new.Goals as goal

pub returns : goal.returns
returns c = none_said
