-- `stored::stored_values::put_items` meets its contract: the items of the piece are those of the operation. Assumes nothing.
use Rattle.stored.proofs.WriteLaws.{set_wrote}
use Rattle.stored.proofs.stored_values.put_items.Goals as goal

pub returns-in-Some : goal.returns-in-Some
returns-in-Some c = set_wrote _ _ _ c.path_set.ensures.value _ _ c.in-Some.is c.in-Some.ensures.text _ c.put_set.ensures
