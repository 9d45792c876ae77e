-- The plain judge's expectation lines are exactly the lines of the text that, trimmed, begin with `expect`. Assumes nothing.
use Prim.Native.Nat.{ℕ}
use mathlib.Core.Path.{◌≡◌, refl, sym, ap, ◌∙◌}
use mathlib.Core.Bool.{Bool, true, false, not}
use mathlib.Core.List.{List, [], ◌∷◌}
use native.Mathlib.Omega.{arith}
use lib.Dec.{eqb}
use borrow.Author.Tests.{eqb-true}
use Rattle.std.specs.Prelude.{if◌then◌else◌}
use Rattle.text.specs.Base.{◌or◌}
use Rattle.text.specs.Literal.{spells, begins_with}
use Rattle.text.specs.Lines.{lines}
use Rattle.text.specs.declared.parts.Span.{Span}
use Rattle.text.specs.declared.lines.Line.{Line}
use Rattle.text.proofs.Scan.{both, never}
use Rattle.script.specs.Pieces.{bytes, is_empty, is, begins}
use Rattle.script.specs.Roles.{argument_line}
use Rattle.script.specs.Plain.{PlainLine, expects, opens, other, Standing, above, below, taking, plainly, under, taken_on, remaining, trimmed_line, inward, expectation_line, plain_below, plain_step, plain_from, plain_lines, expectation_lines, beginning_lines}
use Rattle.script.specs.Timestamps.{stamped}
use Rattle.script.proofs.Agreement.{expect_test, above_is, empty_begins, hash_begins}

-- the mark of a line whose being an expectation line is b
abbrev Marks : Line → Bool → PlainLine → Type 0
Marks l b m = (rest : List PlainLine) → expectation_lines (m ∷ rest) ≡ (if b then (l ∷ expectation_lines rest) else expectation_lines rest)

-- bytes that are `---` do not begin with `expect`
dashes : (s : List ℕ) → spells "---" s ≡ true → begins_with "expect" s ≡ false
unfolding spells begins_with
dashes [] e = refl
dashes (x ∷ s) e = go (eqb 0x2D x) (eqb 0x65 x) refl refl e
  where
    go : (d b : Bool) → eqb 0x2D x ≡ d → eqb 0x65 x ≡ b → (if d then spells "--" s else false) ≡ true → (if b then begins_with "xpect" s else false) ≡ false
    go d false p q e = refl
    go false true p q e = never (sym e)
    go true true p q e = let m = eqb-true 0x2D x p in let n = eqb-true 0x65 x q in absurd (omega arith)

module _ (text : List ℕ) (l : Line) where
  abbrev t : Span
  t = trimmed_line text l

  below_marks : Marks l (expectation_line text l) (plain_below text l).mark
  unfolding plain_below expectation_lines
  below_marks rest = go (is_empty t) (begins text "#" t) (expectation_line text l) refl refl (expect_test text l)
    where
      go : (e h x : Bool) → is_empty t ≡ e → begins text "#" t ≡ h → begins text "expect" t ≡ x
          → expectation_lines ((if e or h then plainly other below else if x then plainly (expects l) below else plainly opens (under (taken_on text (stamped text t)))).mark ∷ rest)
          ≡ (if x then (l ∷ expectation_lines rest) else expectation_lines rest)
      go true h x fe fh fx = rw (sym fx ∙ empty_begins text t fe)
      go false true x fe fh fx = rw (sym fx ∙ hash_begins text t fh)
      go false false true fe fh fx = refl
      go false false false fe fh fx = refl

  -- an argument line does not begin with `expect`
  argument_quiet : argument_line text (inward text l) t ≡ true → begins text "expect" t ≡ false
  unfolding argument_line
  argument_quiet a = go (is_empty t) (begins text "#" t) (begins text "expect" t) (both (inward text l) (not (is_empty t or begins text "#" t or begins text "expect" t)) a).1
    where
      go : (e h x : Bool) → not (e or h or x) ≡ true → x ≡ false
      go e h false n = refl
      go true h true n = never (sym n)
      go false true true n = never (sym n)
      go false false true n = never (sym n)

  dashed : is text "---" t ≡ true → begins text "expect" t ≡ false
  unfolding is begins
  dashed d = dashes (bytes text t) d

  step_marks : (w : Standing) → Marks l (expectation_line text l) (plain_step text w l).mark
  unfolding plain_step expectation_line expectation_lines
  step_marks above rest = rw (← above_is text l) (go (is text "---" t) (begins text "expect" t) refl refl)
    where
      go : (d x : Bool) → is text "---" t ≡ d → begins text "expect" t ≡ x
          → expectation_lines ((if d then plainly other below else plainly (if x then expects l else other) above).mark ∷ rest) ≡ (if x then (l ∷ expectation_lines rest) else expectation_lines rest)
      go true x fd fx = rw (sym fx ∙ dashed fd)
      go false true fd fx = refl
      go false false fd fx = refl
  step_marks below rest = below_marks rest
  step_marks (taking takes) rest = go (argument_line text (inward text l) t) refl
    where
      go : (a : Bool) → argument_line text (inward text l) t ≡ a
          → expectation_lines ((if a then plainly other (remaining text takes t) else plain_below text l).mark ∷ rest)
          ≡ (if begins text "expect" t then (l ∷ expectation_lines rest) else expectation_lines rest)
      go true fa = rw (argument_quiet fa)
      go false fa = below_marks rest

lines_of : (text : List ℕ) (w : Standing) (ls : List Line) → expectation_lines (plain_from text w ls) ≡ beginning_lines text ls
unfolding plain_from beginning_lines expectation_lines
lines_of text w [] = refl
lines_of text w (l ∷ ls) =
    step_marks text l w (plain_from text (plain_step text w l).next ls)
    ∙ ap (λ (r : List Line). if expectation_line text l then (l ∷ r) else r) (lines_of text (plain_step text w l).next ls)

pub expect_lines : (text : List ℕ) → expectation_lines (plain_lines text) ≡ beginning_lines text (lines text)
unfolding plain_lines
expect_lines text = lines_of text above (lines text)
