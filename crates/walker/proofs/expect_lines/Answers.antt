-- `walker::expect_lines` meets its contract. Assumes nothing.
use mathlib.Core.Path.{ap, ◌∙◌}
use native.Mathlib.Omega.{arith}
use native.Mathlib.Nat.{zero-add}
use Rattle.text.proofs.LineLaws.{lines_in}
use Rattle.lines.specs.Walk.{left}
use Rattle.walker.proofs.CountLaws.{all_few, counts, passes_by, none_left}
use Rattle.walker.proofs.expect_lines.Goals as goal

pub loop-line-init : goal.loop-line-init
loop-line-init c =
    let e = ap left c.into_iter-line-iterator.ensures.into_iter_gives ∙ c.new-line-items.ensures.all in
    record { callable = grind arith; ends = tt; inside = rw e (lines_in c.args.text.now); counted = rw e (zero-add _) }

pub overflow_add-n : goal.overflow_add-n
overflow_add-n c =
    let k = counts _ _ _ _ c.loop-line.invariant.counted _ _ c.in-Some.ensures.steps c.if-is_expect.ensures in
    record { fits = omega (arith, k, all_few c.args.text.now) }

pub loop-line-preserved-then-is_expect : goal.loop-line-preserved-then-is_expect
loop-line-preserved-then-is_expect c = record {
  callable = c.in-Some.ensures.goes.keeps;
  ends = tt;
  inside = (rw c.in-Some.ensures.steps at c.loop-line.invariant.inside).2;
  counted = counts _ _ _ _ c.loop-line.invariant.counted _ _ c.in-Some.ensures.steps c.if-is_expect.ensures;
}

pub loop-line-preserved : goal.loop-line-preserved
loop-line-preserved c = record {
  callable = c.in-Some.ensures.goes.keeps;
  ends = tt;
  inside = (rw c.in-Some.ensures.steps at c.loop-line.invariant.inside).2;
  counted = passes_by _ _ _ _ c.loop-line.invariant.counted _ _ c.in-Some.ensures.steps c.if-is_expect.ensures;
}

pub returns : goal.returns
returns c = none_left _ _ _ _ c.loop-line.invariant.counted c.in-None.ensures.steps.0
