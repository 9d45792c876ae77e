-- `stamps::timestamps::spelt` meets its contract. The loop's invariant: the digits from here on, after those that spelled `number`, spell what all of them spell,
-- and have room. Assumes nothing.
use Prim.Native.Nat.{◌-◌}
use mathlib.Core.Path.{◌≡◌}
use mathlib.Core.Bool.{true}
use native.Mathlib.Omega.{arith}
use lib.ListN.{get_or}
use Rattle.text.proofs.Scan.{rest_more}
use Rattle.values.specs.Numbers.{decimal_from}
use Rattle.stamps.proofs.SpeltLaws.{tests, room}
use Rattle.stamps.proofs.timestamps.spelt.Goals as goal

pub loop-x-preserved : goal.loop-x-preserved
unfolding decimal_from
loop-x-preserved c =
    let h = c.loop-x-test.true in
    let d : c.from.result ≡ get_or c.args.digits.now c.loop-x.x-index 0 - 0x30 = omega arith in
    rw d record {
      all = (tests _ _ h c.loop-x.invariant.all).1;
      room = room _ _ h c.loop-x.invariant.all _ c.loop-x.invariant.room;
      walk = rw (rest_more _ _ h) at c.loop-x.invariant.walk;
    }
