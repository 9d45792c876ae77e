-- `printed::lines::put_header` meets its contract. Assumes nothing.
use Rattle.printed.proofs.PutLaws.{handshake_room, entries_room, expects_room, header_end, header_put}
use Rattle.printed.proofs.lines.put_header.Goals as goal

pub put_after-requires : goal.put_after-requires
put_after-requires c = handshake_room c.args.s _ _ c.requires.header_room (c.put_version.ensures.written, c.put_version.ensures.upper_bound)

pub put_after-requires-2 : goal.put_after-requires-2
put_after-requires-2 c =
    entries_room c.args.s _ _ c.requires.header_room (c.put_version.ensures.written, c.put_version.ensures.upper_bound)
    _ (c.put_after.ensures.written, c.put_after.ensures.upper_bound)

pub put_after-requires-3 : goal.put_after-requires-3
put_after-requires-3 c =
    expects_room c.args.s _ _ c.requires.header_room (c.put_version.ensures.written, c.put_version.ensures.upper_bound)
    _ (c.put_after.ensures.written, c.put_after.ensures.upper_bound)
    _ (c.put_after-2.ensures.written, c.put_after-2.ensures.upper_bound)

pub put_one-requires : goal.put_one-requires
put_one-requires c =
    header_end c.args.s _ _ c.requires.header_room (c.put_version.ensures.written, c.put_version.ensures.upper_bound)
    _ (c.put_after.ensures.written, c.put_after.ensures.upper_bound)
    _ (c.put_after-2.ensures.written, c.put_after-2.ensures.upper_bound)
    _ (c.put_after-3.ensures.written, c.put_after-3.ensures.upper_bound)

pub returns : goal.returns
returns c =
    let done =
    header_put c.args.s c.args.w.now _ c.requires.header_room (c.put_version.ensures.written, c.put_version.ensures.upper_bound)
    _ (c.put_after.ensures.written, c.put_after.ensures.upper_bound)
    _ (c.put_after-2.ensures.written, c.put_after-2.ensures.upper_bound)
    _ (c.put_after-3.ensures.written, c.put_after-3.ensures.upper_bound)
    _ c.put_one.ensures in
    record { written = done.0; upper_bound = done.1 }
