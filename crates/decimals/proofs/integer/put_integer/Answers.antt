-- `decimals::integer::put_integer` meets its contract: the minus, where there is one, is written. Assumes nothing.
use borrow.Author.Rules.{rules}
use Rattle.decimals.proofs.SignedLaws.{minus_one, minus_room, minus_wrote, plain_room, plain_wrote}
use Rattle.decimals.proofs.integer.put_integer.Goals.{then-n-lt0, else-n-lt0}
use Rattle.decimals.proofs.integer.put_integer.Goals as goal

pub put_one-requires : goal.put_one-requires
put_one-requires c = minus_one c.args.n c.args.w.now c.requires (search rules)

pub put_decimal-requires : goal.put_decimal-requires
put_decimal-requires c =
    elim c.if-n-lt0.branch [
      | then-n-lt0 b ↦ rw b.w-is (minus_room c.args.n c.unsigned_abs.result (search rules) c.args.w.now c.requires (search rules) _ b.put_one.ensures)
      | else-n-lt0 b ↦ rw b.w-is (plain_room c.args.n c.unsigned_abs.result (search rules) c.args.w.now c.requires (search rules))
    ]

pub returns : goal.returns
returns c =
    elim c.if-n-lt0.branch [
      | then-n-lt0 b ↦ minus_wrote c.args.n c.unsigned_abs.result (search rules) c.args.w.now c.requires (search rules) _ b.put_one.ensures _ (rw b.w-is at c.put_decimal.ensures.written)
      | else-n-lt0 b ↦ plain_wrote c.args.n c.unsigned_abs.result (search rules) c.args.w.now c.requires (search rules) _ (rw b.w-is at c.put_decimal.ensures.written)
    ]
