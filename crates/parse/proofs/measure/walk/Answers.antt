-- `parse::measure::walk` meets its contract. The loop's invariant: the walk over the lines left gives the answer, numbers are small, and what is kept is right. Assumes nothing.
use mathlib.Core.Path.{refl, ap, ◌∙◌}
use native.Mathlib.Omega.{arith}
use lib.ListN.{length, length-set}
use Rattle.lines.specs.Walk.{left}
use Rattle.parse.proofs.WalkLaws.{turn_first, walk_over, says_in, args_in, kept_on, walk_bad, turn_nothing, turn_says, turn_expects, turn_opens}
use Rattle.parse.proofs.measure.walk.Goals as goal
use Rattle.parse.proofs.measure.walk.Goals.{in-Nothing, in-Says, in-Expects, in-Opens}

pub loop-l-init : goal.loop-l-init
loop-l-init c =
    let e = ap left c.into_iter-l-iterator.ensures.into_iter_gives ∙ c.new-l-items.ensures.all in
    record { callable = grind arith; ends = tt; turn = turn_first _ _ _ c.requires.text_len_bound c.begin-o.ensures e; memo = c.requires.memo; room = refl }

pub say_on-o-requires-clause-saying_in : goal.say_on-o-requires-clause-saying_in
say_on-o-requires-clause-saying_in c = says_in _ _ _ _ _ _ c.loop-l.invariant.turn _ _ c.in-Some.ensures.steps _ c.step-step.ensures _ c.in-Says.is

pub open_entry-o-requires : goal.open_entry-o-requires
open_entry-o-requires c = args_in _ _ _ _ _ _ c.loop-l.invariant.turn _ _ c.in-Some.ensures.steps _ c.step-step.ensures _ c.in-Opens.is

pub returns-in-Bad-clause-result_value : goal.returns-in-Bad-clause-result_value
returns-in-Bad-clause-result_value c = walk_bad _ _ _ _ _ _ c.loop-l.invariant.turn _ _ c.in-Some.ensures.steps _ c.step-step.ensures _ c.in-Bad.is

pub returns-in-Bad-clause-memo_2 : goal.returns-in-Bad-clause-memo_2
returns-in-Bad-clause-memo_2 c = (
  kept_on _ _ _ _ _ _ c.loop-l.invariant.turn _ _ c.in-Some.ensures.steps _ c.step-step.ensures _ c.loop-l.invariant.memo _ c.keep.ensures,
  ap length c.keep.ensures ∙ (length-set _ _ _ ∙ c.loop-l.invariant.room),
)

pub loop-l-preserved : goal.loop-l-preserved
loop-l-preserved c =
    let L = c.loop-l in
    let turn = L.invariant.turn in
    let e = c.in-Some.ensures.steps in
    let f = c.step-step.ensures in record {
      callable = c.in-Some.ensures.goes.keeps;
      ends = tt;
      turn = rw c.same_place-w.ensures (elim c.match-role.branch [
        | in-Nothing w ↦ turn_nothing _ _ _ _ _ _ turn _ _ e _ f _ _ w.in-Nothing.is w.t-is w.o-is
        | in-Says w ↦ turn_says _ _ _ _ _ _ turn _ _ e _ f _ _ _ c.requires.text_len_bound w.in-Says.is w.t-is (w.o-is ∙ w.say_on-o.ensures)
        | in-Expects w ↦ turn_expects _ _ _ _ _ _ turn _ _ e _ f _ _ _ w.in-Expects.is w.t-is w.o-is
        | in-Opens w ↦ turn_opens _ _ _ _ _ _ turn _ _ e _ f _ _ _ c.requires.text_len_bound w.in-Opens.is (w.t-is ∙ w.enter-t.ensures) (w.o-is ∙ w.open_entry-o.ensures)
      ]);
      memo = kept_on _ _ _ _ _ _ turn _ _ e _ f _ L.invariant.memo _ c.keep.ensures;
      room = ap length c.keep.ensures ∙ (length-set _ _ _ ∙ L.invariant.room);
    }

pub returns-clause-result_value : goal.returns-clause-result_value
returns-clause-result_value c = walk_over _ _ _ _ _ _ c.loop-l.invariant.turn c.in-None.ensures.steps.0 _ c.close_on.ensures
