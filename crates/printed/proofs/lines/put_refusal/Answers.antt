-- `printed::lines::put_refusal` meets its contract. Assumes nothing.
use Rattle.printed.proofs.PutLaws.{refusal_put}
use Rattle.printed.proofs.lines.put_refusal.Goals as goal

pub returns : goal.returns
returns c =
    let done =
    refusal_put c.args.q _ c.number.ensures c.args.w.now _ c.requires (c.put_after.ensures.written, c.put_after.ensures.upper_bound)
    _ (c.put_after-2.ensures.written, c.put_after-2.ensures.upper_bound)
    _ c.put_one.ensures in
    record { written = done.0; upper_bound = done.1 }
