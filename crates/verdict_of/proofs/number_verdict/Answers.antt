-- `verdict_of::number_verdict` meets its contract: the digits stand at the front of the array. Assumes nothing.
use borrow.Author.Rules.{rules}
use mathlib.Core.Path.{ap, ◌∙◌}
use native.Mathlib.Omega.{arith}
use Rattle.values.specs.Decimal.{decimal}
use Rattle.written.proofs.WrittenLaws.{front_taken}
use Rattle.written.proofs.WriterLaws.{handed_at, handed_back}
use Rattle.writing.proofs.DecimalLaws.{decimal-length}
use Rattle.verdicts.specs.Decisions.{decides}
use Rattle.verdicts.specs.Held.{matching_of}
use Rattle.verdict_of.proofs.number_verdict.Goals as goal

pub put_decimal-requires : goal.put_decimal-requires
put_decimal-requires c = rw c.new-w.ensures (omega (arith, decimal-length c.args.n (omega arith)))

pub returns : goal.returns
returns c =
    c.decide.ensures
    ∙ ap (decides (matching_of c.args.text.now c.args.m))
    (front_taken (decimal c.args.n) _ _ _ (omega (arith, decimal-length c.args.n (omega arith)))
    (c.position-len.ensures ∙ handed_at _ _ _ _ c.put_decimal.ensures.written c.new-w.ensures)
    (handed_back _ _ _ _ c.put_decimal.ensures.written c.new-w.ensures _ (search rules) (omega (arith, decimal-length c.args.n (omega arith)))))
