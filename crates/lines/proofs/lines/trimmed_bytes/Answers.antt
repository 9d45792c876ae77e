-- `lines::lines::trimmed_bytes` meets its contract. The loop's invariant: the bytes counted and those of the lines that are left are those of all lines.
-- Assumes nothing.
use Prim.Native.Nat.{ℕ, ◌+◌}
use mathlib.Core.Path.{◌≡◌, ap}
use mathlib.Core.List.{List, [], ◌∷◌}
use native.Mathlib.Omega.{arith}
use lib.ListN.{length}
use Rattle.text.specs.declared.lines.Line.{Line}
use Rattle.text.specs.Lines.{lines, line_bytes, trimmed_length}
use Rattle.text.specs.Trim.{trimmed}
use Rattle.lines.specs.Walk.{left}
use Rattle.lines.proofs.lines.trimmed_bytes.Goals as goal

-- a line less is left; none is
one_more : (text : List ℕ) (sum whole : ℕ) (l : Line) (ls rest : List Line) (t : List ℕ) → sum + trimmed_length text ls ≡ whole → ls ≡ l ∷ rest → t ≡ trimmed (line_bytes text l)
    → sum + length t + trimmed_length text rest ≡ whole
unfolding trimmed_length
one_more text sum whole l ls rest t q e f = omega (arith, ap (trimmed_length text) e, ap length f)

over : (text : List ℕ) (sum whole : ℕ) (ls : List Line) → sum + trimmed_length text ls ≡ whole → ls ≡ [] → sum ≡ whole
unfolding trimmed_length
over text sum whole ls q e = omega (arith, ap (trimmed_length text) e)

counted : (c : goal.After-trim) → c.loop-line.sum + length c.trim.result.now + trimmed_length c.args.text.now (left c.next.new.self) ≡ trimmed_length c.args.text.now (lines c.args.text.now)
counted c = one_more _ _ _ _ _ _ _ c.loop-line.invariant.total c.in-Some.ensures.steps c.trim.ensures

pub loop-line-preserved : goal.loop-line-preserved
loop-line-preserved c = record {
  callable = c.in-Some.ensures.goes.keeps;
  ends = tt;
  inside = (rw c.in-Some.ensures.steps at c.loop-line.invariant.inside).2;
  total = counted c;
}

pub returns : goal.returns
returns c = over _ _ _ _ c.loop-line.invariant.total c.in-None.ensures.steps.0
