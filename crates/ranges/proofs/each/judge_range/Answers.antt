-- `ranges::each::judge_range` meets its contract. Assumes nothing.
use mathlib.Core.Path.{◌∙◌}
use native.Mathlib.Omega.{arith}
use lib.ListN.{length}
use borrow.Author.Rules.{rules}
use Rattle.verdicts.specs.Lookup.{looked}
use Rattle.verdicts.specs.Verdicts.{verdict}
use Rattle.subjects.specs.Against.{against}
use Rattle.ranges.proofs.RangeLaws.{next_fits, overlaid_present, judging_on, judging_counted, judging_stored, judging_written}
use Rattle.ranges.proofs.each.judge_range.Goals as goal

pub judge_one-v-requires : goal.judge_one-v-requires
judge_one-v-requires c =
    let s = c.args in
    let l = c.loop-i in
    let f = (next_fits s.text.now s.expectations.now l.i c.loop-i-test.true (looked (against s.s)) (length s.scratch.now) l.invariant.1).0 in
    omega (arith, f, l.invariant.0)

pub loop-i-preserved : goal.loop-i-preserved
loop-i-preserved c =
    let s = c.args in
    let l = c.loop-i in
    let g = looked (against s.s) in
    let q = c.judge_one-v in (
      search rules,
      (next_fits s.text.now s.expectations.now l.i c.loop-i-test.true g (length s.scratch.now) l.invariant.1).1,
      judging_on s.text.now s.expectations.now (verdict (against s.s)) g s.slots.now s.scratch.now s.counts l.slots l.scratch l.c l.i l.invariant.2 c.loop-i-test.true
          q.result q.ensures.value c.from.result c.from.ensures _ (q.ensures.scratch_after ∙ overlaid_present (g _) l.scratch) c.add-c.result c.add-c.ensures,
    )

pub returns-clause-value : goal.returns-clause-value
returns-clause-value c =
    let s = c.args in
    let l = c.loop-i in
    judging_counted s.text.now s.expectations.now (verdict (against s.s)) (looked (against s.s)) s.slots.now s.scratch.now s.counts l.slots l.scratch l.c l.i l.invariant.2 c.loop-i-test.false

pub returns-clause-slots_after : goal.returns-clause-slots_after
returns-clause-slots_after c =
    let s = c.args in
    let l = c.loop-i in
    judging_stored s.text.now s.expectations.now (verdict (against s.s)) (looked (against s.s)) s.slots.now s.scratch.now s.counts l.slots l.scratch l.c l.i l.invariant.2 c.loop-i-test.false c.requires.slots_bound

pub returns-clause-scratch_after : goal.returns-clause-scratch_after
returns-clause-scratch_after c =
    let s = c.args in
    let l = c.loop-i in
    judging_written s.text.now s.expectations.now (verdict (against s.s)) (looked (against s.s)) s.slots.now s.scratch.now s.counts l.slots l.scratch l.c l.i l.invariant.2 c.loop-i-test.false
