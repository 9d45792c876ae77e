-- `decimals::decimal::put_after` meets its contract. Assumes nothing.
use native.Mathlib.Omega.{arith}
use Rattle.decimals.proofs.PutLaws.{after_most}
use Rattle.decimals.proofs.decimal.put_after.Goals as goal

pub returns-clause-upper_bound : goal.returns-clause-upper_bound
returns-clause-upper_bound c = after_most c.args.n _ _ _ (omega arith) c.requires c.put.ensures _ c.put_decimal.ensures.written
