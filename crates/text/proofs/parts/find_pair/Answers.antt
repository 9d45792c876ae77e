-- `text::parts::find_pair` meets its contract. The loop's invariant: the search from here answers what the search of the whole answers. Assumes nothing.
use Rattle.std.specs.Prelude.{None, Option, Some}
use Prim.Native.Nat.{ℕ, ◌+◌, ◌≤◌, ◌<◌}
use mathlib.Core.Path.{◌≡◌}
use mathlib.Core.List.{List, [], ◌∷◌}
use native.Mathlib.Omega.{arith}
use lib.Dec.{eqb}
use lib.ListN.{length, get_or, take, drop}
use borrow.Author.Tests.{eq-eqb}
use borrow.Author.Rules.{rules}
use Rattle.text.specs.Parts.{starts_with, pair_position_from, pair_position}
use Rattle.text.proofs.Scan.{and_false}
use Rattle.text.proofs.parts.find_pair.Goals as goal
use Rattle.text.proofs.parts.find_pair.Goals.{else-pair-a-via-then-pair-a+else-pair-b, else-pair-a-via-else-pair-a}

module _ (a b i n : ℕ) (whole : Option ℕ) (two : n ≡ 2) where
  -- fewer than two bytes are left
  over : (rest : List ℕ) → pair_position_from a b i rest ≡ whole → length rest < n → None ≡ whole
  unfolding pair_position_from starts_with
  over [] e h = e
  over (x ∷ []) e h = rw (and_false (eqb x a)) at e
  over (x ∷ y ∷ rest) e h = absurd (omega arith)

  module _ (pair : List ℕ) where
    here : (rest : List ℕ) → pair_position_from a b i rest ≡ whole → n ≤ length rest → pair ≡ take n rest → get_or pair 0 0 ≡ a → get_or pair 1 0 ≡ b → Some i ≡ whole
    unfolding pair_position_from starts_with
    here [] e h p = absurd (omega arith)
    here (x ∷ []) e h p = absurd (omega arith)
    here (x ∷ y ∷ rest) e h p = rw (p, two) (λ f g. rw (eq-eqb _ _ f, eq-eqb _ _ g) at e)

    other : (rest : List ℕ) → pair_position_from a b i rest ≡ whole → n ≤ length rest → pair ≡ take n rest → (get_or pair 0 0 ≡ a → get_or pair 1 0 ≡ b → ⊥)
        → pair_position_from a b (i + 1) (drop 1 rest) ≡ whole
    unfolding pair_position_from starts_with
    other [] e h p = absurd (omega arith)
    other (x ∷ []) e h p = absurd (omega arith)
    other (x ∷ y ∷ rest) e h p = rw (p, two) (λ f. grind (arith, e, f))

pub loop-i-init : goal.loop-i-init
unfolding pair_position
loop-i-init c = record {
  size = cc;
  search = search rules;
}

pub returns-then-pair-b : goal.returns-then-pair-b
returns-then-pair-b c = let h = c.in-Some.ensures.steps in search (rules, here)

pub loop-i-preserved : goal.loop-i-preserved
loop-i-preserved c =
    let h = c.in-Some.ensures.steps in
    let none : get_or c.in-Some.pair.now 0 0 ≡ c.args.a → get_or c.in-Some.pair.now 1 0 ≡ c.args.b → ⊥ =
    elim c.else-pair-a.branch [ else-pair-a-via-then-pair-a+else-pair-b w ↦ λ f g. w.if-pair-b.false g | else-pair-a-via-else-pair-a w ↦ λ f g. w.if-pair-a.false f ] in
    record { size = cc; search = search (rules, other) }

pub returns : goal.returns
returns c = let h = c.in-None.ensures.steps in search (rules, over)
