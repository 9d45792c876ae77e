-- `closing::front::put_features_of` meets its contract: the items of the piece are those of the key. Assumes nothing.
use Rattle.stored.proofs.WriteLaws.{features_wrote}
use Rattle.closing.proofs.front.put_features_of.Goals as goal

pub returns-in-Some : goal.returns-in-Some
returns-in-Some c = features_wrote _ _ _ c.value.ensures.place _ _ c.in-Some.is c.in-Some.ensures.text _ c.put_features.ensures
