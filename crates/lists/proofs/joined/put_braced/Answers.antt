-- `lists::joined::put_braced` meets its contract. Assumes nothing.
use Rattle.written.proofs.WriterLaws.{front_room, body_room, back_room, wrapped}
use Rattle.text.proofs.LiteralLaws.{codes}
use Rattle.verdicts.specs.Lookup.{joined}
use Rattle.lists.proofs.JoinedLaws.{braced_is}
use Rattle.lists.proofs.joined.put_braced.Goals as goal

pub put-requires : goal.put-requires
put-requires c = front_room (codes "{ ") (joined _) (codes " }") _ (braced_is _) c.args.w.now c.requires

pub put_joined-requires : goal.put_joined-requires
put_joined-requires c = body_room _ _ _ _ (braced_is _) c.args.w.now c.requires _ c.put.ensures

pub put-requires-2 : goal.put-requires-2
put-requires-2 c = back_room _ _ _ _ (braced_is _) c.args.w.now c.requires _ c.put.ensures _ c.put_joined.ensures

pub returns : goal.returns
returns c = wrapped _ _ _ _ (braced_is _) c.args.w.now c.requires _ c.put.ensures _ c.put_joined.ensures _ c.put-2.ensures
