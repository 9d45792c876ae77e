-- `kept::no_room` meets its contract. Assumes nothing.
use Rattle.kept.proofs.KeptLaws.{blank_memo}
use Rattle.kept.proofs.no_room.Goals as goal

pub returns : goal.returns
returns c = λ text. blank_memo text 1
