-- `printed::lines::put_version` meets its contract. Assumes nothing.
use Rattle.printed.proofs.PutLaws.{minor_room, version_put}
use Rattle.printed.proofs.lines.put_version.Goals as goal

pub put_after-requires-2 : goal.put_after-requires-2
put_after-requires-2 c = minor_room c.args.v _ _ c.requires (c.put_after.ensures.written, c.put_after.ensures.upper_bound)

pub returns : goal.returns
returns c =
    let done = version_put c.args.v c.args.w.now _ c.requires (c.put_after.ensures.written, c.put_after.ensures.upper_bound) _ (c.put_after-2.ensures.written, c.put_after-2.ensures.upper_bound) in
    record { written = done.0; upper_bound = done.1 }
