-- `replay::read_cases` is safe and ends. The loop's invariant: there are no more cases and lines left than bytes. Assumes nothing.
use Prim.Native.Nat.{ℕ, ◌+◌, ◌≤◌}
use mathlib.Core.Path.{◌≡◌, ap, ◌∙◌}
use mathlib.Core.List.{List, ◌∷◌}
use native.Mathlib.Omega.{arith}
use lib.ListN.{length}
use Rattle.text.specs.Lines.{lines}
use Rattle.text.specs.declared.lines.Line.{Line}
use Rattle.text.proofs.LineLaws.{lines_in, lines_few}
use Rattle.lines.specs.Walk.{left}
use Rattle.replay.proofs.read_cases.Goals as goal

first_few : (input : List ℕ) → 0 + length (lines input) ≤ length input
first_few input = omega (arith, lines_few input)

-- one case more, and a line less
fewer : (whole n m : ℕ) (l : Line) (ls rest : List Line) → n + length ls ≤ whole → ls ≡ l ∷ rest → m ≤ n + 1 → m + length rest ≤ whole
fewer whole n m l ls rest h e g = omega (arith, ap length e)

pub loop-line-init : goal.loop-line-init
loop-line-init c =
    let e = ap left c.into_iter-line-iterator.ensures.into_iter_gives ∙ c.new-line-items.ensures.all in
    record { callable = grind arith; ends = tt; inside = rw e (lines_in c.args.input.now); few = rw e (first_few c.args.input.now) }

pub loop-line-preserved : goal.loop-line-preserved
loop-line-preserved c = record {
  callable = c.in-Some.ensures.goes.keeps;
  ends = tt;
  inside = (rw c.in-Some.ensures.steps at c.loop-line.invariant.inside).2;
  few = fewer _ _ _ _ _ _ c.loop-line.invariant.few c.in-Some.ensures.steps c.with-tally.ensures;
}
