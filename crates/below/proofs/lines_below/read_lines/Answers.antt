-- `below::lines_below::read_lines` meets its contract. Assumes nothing.
use Prim.Native.Nat.{◌+◌}
use native.Mathlib.Omega.{arith}
use mathlib.Core.Path.{sym, ap, ◌∙◌}
use mathlib.Core.List.{◌∷◌}
use Rattle.script.specs.Roles.{marked}
use Rattle.script.specs.declared.roles.Role.{Role}
use Rattle.below.specs.Below.{roles_at, ahead_of, NextIn}
use Rattle.below.proofs.LinesLaws.{Line, line_known, roles-none, led_silent, led_says, led_expects, says_room, expects_room, opens-lead, opens-ahead, over_lead, over_ahead, done_items, done_expects, done_values}
use borrow.Author.Rules.{rules}
use Rattle.below.proofs.lines_below.read_lines.Goals as goal
use Rattle.below.proofs.lines_below.read_lines.Goals.{After-look-turn, in-Nothing, in-Says, in-Expects}

-- the line at hand
here : (c : After-look-turn) → Line c.args.m.text.now c.loop-at.w c.loop-at.at c.loop-at.number c.look-turn.result.step c.look-turn.result.next
here c =
    let L = c.loop-at in
    line_known c.args.m.text.now L.w L.at L.number (search rules) c.look-turn.result.step c.look-turn.result.next (search rules) (search rules)

pub say-requires-clause-forward : goal.say-requires-clause-forward
say-requires-clause-forward c = (here (goal.at.say-requires-clause-forward c).After-look-turn).forward _ c.in-Says.is

pub say-requires-clause-room : goal.say-requires-clause-room
say-requires-clause-room c = says_room c.loop-at.invariant.3 (here (goal.at.say-requires-clause-room c).After-look-turn).more _ c.in-Says.is

pub put_one-requires : goal.put_one-requires
put_one-requires c = expects_room c.loop-at.invariant.3 (here (goal.at.put_one-requires c).After-look-turn).more _ c.in-Expects.is

pub loop-at-smaller : goal.loop-at-smaller
loop-at-smaller c = let k = here (goal.at.loop-at-smaller c).After-look-turn in omega arith

pub loop-at-preserved : goal.loop-at-preserved
loop-at-preserved c =
    let k = here (goal.at.loop-at-preserved c).After-look-turn in
    let D = c.loop-at.invariant.3 in (
      omega arith,
      omega arith,
      omega arith,
      rw c.same_place-w.ensures (elim c.match-turn.branch [
        | in-Nothing w ↦ rw (w.heard-is, w.items-is, w.expectations-is) (led_silent D k.more w.in-Nothing.is)
        | in-Says w ↦ rw (w.heard-is, w.items-is, w.expectations-is) (led_says D k.more _ w.in-Says.is _ _ w.say.ensures.after w.say.ensures.heard_after)
        | in-Expects w ↦ rw (w.heard-is, w.items-is, w.expectations-is) (led_expects D k.more _ w.in-Expects.is _ w.put_one.ensures)
      ]),
    )

pub returns-in-Opens : goal.returns-in-Opens
unfolding ahead_of NextIn
returns-in-Opens c =
    let k = here (goal.at.returns-in-Opens c).After-look-turn in
    let D = c.loop-at.invariant.3 in
    let m = k.more ∙ ap (λ (r : Role). marked c.loop-at.number r ∷ roles_at c.args.m.text.now c.look-turn.result.step.next c.look-turn.result.next (c.loop-at.number + 1)) c.in-Opens.is in
    let o = opens-lead _ _ _ _ m in
    record {
      next_value = sym (opens-ahead _ _ _ _ m) ∙ D.onward;
      next_in = (omega arith, omega arith, omega arith, k.args _ c.in-Opens.is);
      after = done_items D o;
      expectations_after = done_expects D o;
      heard_after = done_values D o;
    }

pub returns : goal.returns
unfolding ahead_of NextIn
returns c =
    let L = c.loop-at in
    let e = roles-none c.args.m.text.now L.w L.at L.number (search rules) in
    let o = over_lead _ e in
    let D = L.invariant.3 in
    record {
      next_value = sym (over_ahead _ e) ∙ D.onward;
      next_in = tt;
      after = done_items D o;
      expectations_after = done_expects D o;
      heard_after = done_values D o;
    }
