-- `tables::sets::put_places` meets its contract: the items of what the walk has given are written. Assumes nothing.
use native.Mathlib.Omega.{arith}
use Rattle.written.proofs.WriterLaws.{wrote_none, room_left, wrote_behind}
use Rattle.tables.proofs.WalkLaws.{items_none, items_more, one_longer}
use Rattle.tables.proofs.sets.put_places.Goals as goal

pub loop-piece-init : goal.loop-piece-init
loop-piece-init g c =
    rw (c.into_iter-piece-iterator.ensures.into_iter_gives, items_none)
    (c.requires.can_next, c.requires.ends, omega (arith, c.requires.room), wrote_none _)

pub put_place-requires-clause-room : goal.put_place-requires-clause-room
put_place-requires-clause-room g c =
    let I = c.loop-piece.invariant in
    let less = (c.in-Some.ensures.goes.on I.1).2 in
    room_left _ _ _ I.3 1 (omega (arith, I.2, less))

pub loop-piece-preserved : goal.loop-piece-preserved
loop-piece-preserved g c =
    let I = c.loop-piece.invariant in
    let on = c.in-Some.ensures.goes.on I.1 in
    let less = on.2 in
    let piece = c.in-Some.piece in
    let room = I.2 in
    let longer = one_longer piece c.loop-piece.yielded in (
      on.0,
      on.1,
      omega (arith, room, less, longer),
      wrote_behind _ _ _ I.3 _ _ (items_more piece c.loop-piece.yielded) (omega (arith, room, less, longer)) _ c.put_place.ensures,
    )
