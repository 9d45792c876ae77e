-- `trimming::trim` meets its contract. Assumes nothing.
use native.Mathlib.Nat.{add-sub_cancel_left}
use Rattle.text.proofs.TrimLaws.{at_place}
use Rattle.trimming.proofs.trim.Goals as goal

pub returns : goal.returns
returns c = simp (add-sub_cancel_left) (at_place _ _ c.trim_place-start.ensures)
