-- `decimals::decimal::put_decimal` meets its contract. Assumes nothing.
use native.Mathlib.Omega.{arith}
use Rattle.written.proofs.WriterLaws.{wrote_at}
use Rattle.decimals.proofs.PutLaws.{last_wrote, most_digits}
use Rattle.decimals.proofs.decimal.+put_decimal.Goals as goal

pub returns-then-n-lt10-clause-upper_bound : goal.returns-then-n-lt10-clause-upper_bound
returns-then-n-lt10-clause-upper_bound t c = omega (arith, wrote_at _ _ _ c.put_one.ensures)

pub returns-clause-upper_bound : goal.returns-clause-upper_bound
returns-clause-upper_bound t c = most_digits c.args.n _ _ (last_wrote c.args.n _ _ c.requires _ c.put_decimal.ensures.written (omega arith) c.put_one-2.ensures) (omega arith)
