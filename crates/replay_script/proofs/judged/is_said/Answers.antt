-- `replay_script::judged::is_said` meets its contract. Assumes nothing.
use mathlib.Core.Path.{refl}
use Rattle.replay_script.proofs.JudgedLaws.{said_is}
use Rattle.replay_script.proofs.judged.is_said.Goals as goal

pub returns : goal.returns
returns c = said_is c.args.n c.args.m c.args.text.now c.args.bytes.now c.args.message.now c.ranges.m _ refl _ c.table_of-table.ensures _ c.handed_by-h.ensures _ _ refl _ _ c.is_told.ensures c.message-t.ensures.value c.message-t.ensures.buffer_after
