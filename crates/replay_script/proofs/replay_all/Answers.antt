-- `replay_script::replay_all` meets its contract. The loop's invariant: the cases counted, and those of the lines that are left, are all cases; there are no
-- more of both than bytes. Assumes nothing.
use Prim.Native.Nat.{ℕ, ◌+◌, ◌≤◌}
use mathlib.Core.Path.{◌≡◌, refl, ap, ◌∙◌}
use mathlib.Core.List.{List, [], ◌∷◌}
use native.Mathlib.Omega.{arith}
use lib.ListN.{length}
use Rattle.text.specs.Lines.{lines, line_bytes}
use Rattle.text.specs.declared.lines.Line.{Line}
use Rattle.text.proofs.LineLaws.{lines_in, lines_few}
use Rattle.lines.specs.Walk.{left}
use Rattle.cases.specs.declared.Tally.{Tally}
use Rattle.cases.specs.declared.Case.{Case}
use Rattle.cases.specs.declared.Case.TheVariants.{Read, Refused, Dumped, Judged, Wrong}
use Rattle.replay_script.specs.Answers.{line_replayed}
use Rattle.cases.specs.Cases.{counted, total}
use Rattle.replay_script.specs.Tallies.{counted_on, all_counted}
use Rattle.replay_script.proofs.replay_all.Goals as goal

one_more : (t : Tally) (c : Case) → total (counted t c) ≤ total t + 1
unfolding counted
one_more t Read = omega arith
one_more t Refused = omega arith
one_more t Dumped = omega arith
one_more t Judged = omega arith
one_more t Wrong = omega arith

-- no line is left; a line less is
module _ (input : List ℕ) (t whole : Tally) (ls : List Line) (here : counted_on input ls t ≡ whole) where
  over : ls ≡ [] → t ≡ whole
  unfolding counted_on
  over e = rw e at here

  module _ (l : Line) (rest : List Line) (e : ls ≡ l ∷ rest) (c : Case) (f : c ≡ line_replayed (line_bytes input l)) (u : Tally) (g : u ≡ counted t c) where
    goes_on : counted_on input rest u ≡ whole
    unfolding counted_on
    goes_on = rw (g, f) (rw e at here)

fewer : (n : ℕ) (t u : Tally) (c : Case) (l : Line) (ls rest : List Line) → total t + length ls ≤ n → ls ≡ l ∷ rest → u ≡ counted t c → total u + length rest ≤ n
fewer n t u c l ls rest h e g = rw g (omega (arith, one_more t c, ap length e))

first_few : (input : List ℕ) → 0 + length (lines input) ≤ length input
first_few input = omega (arith, lines_few input)

pub loop-line-init : goal.loop-line-init
unfolding all_counted
loop-line-init c =
    let e = ap left c.into_iter-line-iterator.ensures.into_iter_gives ∙ c.new-line-items.ensures.all in
    record { callable = grind arith; ends = tt; inside = rw e (lines_in c.args.input.now); few = rw e (first_few c.args.input.now); counted = rw e refl }

pub loop-line-preserved : goal.loop-line-preserved
loop-line-preserved c = record {
  callable = c.in-Some.ensures.goes.keeps;
  ends = tt;
  inside = (rw c.in-Some.ensures.steps at c.loop-line.invariant.inside).2;
  few = fewer _ _ _ _ _ _ _ c.loop-line.invariant.few c.in-Some.ensures.steps c.with-tally.ensures;
  counted = goes_on _ _ _ _ c.loop-line.invariant.counted _ _ c.in-Some.ensures.steps _ c.replay_line.ensures _ c.with-tally.ensures;
}

pub returns-clause-value : goal.returns-clause-value
returns-clause-value c = over _ _ _ _ c.loop-line.invariant.counted c.in-None.ensures.steps.0
