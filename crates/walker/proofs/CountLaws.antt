-- Laws of the count of lines that begin with `expect`. Assumes nothing.
use Prim.Native.Nat.{ℕ, ◌+◌, ◌≤◌}
use mathlib.Core.Path.{◌≡◌, sym, ap}
use mathlib.Core.Bool.{Bool, true, false}
use mathlib.Core.List.{List, [], ◌∷◌}
use native.Mathlib.Omega.{arith}
use lib.ListN.{length}
use Rattle.text.specs.Parts.{starts_with}
use Rattle.text.specs.Lines.{lines}
use Rattle.text.specs.declared.lines.Line.{Line}
use Rattle.text.specs.declared.parts.Span.{Span}
use Rattle.text.proofs.LiteralLaws.{codes}
use Rattle.text.proofs.LineLaws.{lines_few}
use Rattle.text.proofs.Scan.{by_cases}
use Rattle.script.specs.Pieces.{bytes}
use Rattle.script.specs.Plain.{trimmed_line, expectation_line, plain_lines, expectation_lines, beginning_lines}
use Rattle.script.proofs.ExpectLines.{expect_lines}
use Rattle.pieces.proofs.BehindLaws.{begins-is}

-- the test of a line
pub begins : (text : List ℕ) (l : Line) (t : Span) (b : Bool) → b ≡ starts_with (codes "expect") (bytes text t) → t ≡ trimmed_line text l → b ≡ expectation_line text l
unfolding expectation_line
begins text l t b f e = rw (← e) (sym (begins-is text t "expect" b f))

-- how many lines of the text begin with `expect`
abbrev pub all : List ℕ → ℕ
all text = length (beginning_lines text (lines text))

-- as many as the plain judge has expectation lines
pub as_judged : (text : List ℕ) → all text ≡ length (expectation_lines (plain_lines text))
as_judged text = ap length (sym (expect_lines text))

-- no more than the bytes
no_more : (text : List ℕ) (ls : List Line) → length (beginning_lines text ls) ≤ length ls
unfolding beginning_lines
no_more text [] = omega arith
no_more text (l ∷ ls) =
    let h = no_more text ls in
    by_cases (λ (ks : List Line). length ks ≤ length (l ∷ ls)) (expectation_line text l) (l ∷ beginning_lines text ls) (beginning_lines text ls) (omega arith) (omega arith)

pub all_few : (text : List ℕ) → all text ≤ length text
all_few text = omega (arith, no_more text (lines text), lines_few text)

-- a line less is left, and counts or does not; no line is left
module _ (text : List ℕ) (n whole : ℕ) (ls : List Line) (q : n + length (beginning_lines text ls) ≡ whole) where
  module _ (l : Line) (rest : List Line) (e : ls ≡ l ∷ rest) where
    pub counts : true ≡ expectation_line text l → n + 1 + length (beginning_lines text rest) ≡ whole
    unfolding beginning_lines
    counts y = let k = rw (e, ← y) at q in omega arith

    pub passes_by : false ≡ expectation_line text l → n + length (beginning_lines text rest) ≡ whole
    unfolding beginning_lines
    passes_by y = rw (e, ← y) at q

  pub none_left : ls ≡ [] → n ≡ whole
  unfolding beginning_lines
  none_left e = let k = rw e at q in omega arith
