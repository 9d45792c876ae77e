-- `text::parts::part_at` meets its contract. The loop's invariant: the walk from here answers what the walk from `at` answers. Assumes nothing.
use Prim.Native.Nat.{ℕ, ◌+◌, ◌≤◌, ◌<◌}
use mathlib.Core.Path.{◌≡◌, refl}
use mathlib.Core.Bool.{true, false}
use mathlib.Core.List.{List}
use lib.ListN.{length, get_or, drop}
use borrow.Author.Tests.{eq-eqb, ne_eqb}
use Rattle.text.proofs.Scan.{rest_more, rest-none}
use Rattle.text.specs.declared.parts.Part.{Part}
use Rattle.text.specs.Parts.{part_of, part_from, part_at}
use borrow.Author.Rules.{rules}
use Rattle.text.proofs.parts.part_at.Goals as goal

module _ (s : List ℕ) (b start i : ℕ) (whole : Part) where
  abbrev Here : Type 0
  Here = part_from b start i (drop i s) ≡ whole

  over : Here → length s ≤ i → part_of start i false ≡ whole
  unfolding part_from
  over e h = rw (rest-none s i h) at e

  here : Here → i < length s → get_or s i 0 ≡ b → part_of start i true ≡ whole
  unfolding part_from
  here e h x = rw (rest_more s i h, eq-eqb _ _ x) at e

  later : Here → i < length s → (get_or s i 0 ≡ b → ⊥) → part_from b start (i + 1) (drop (i + 1) s) ≡ whole
  unfolding part_from
  later e h x = rw (rest_more s i h, ne_eqb _ _ x) at e

ruleset walk = (over, here, later)

pub loop-i-init : goal.loop-i-init
unfolding part_at
loop-i-init c = refl

pub returns-then-s-i : goal.returns-then-s-i
returns-then-s-i c = search (rules, walk)

pub loop-i-preserved : goal.loop-i-preserved
loop-i-preserved c = search (rules, walk)

pub returns : goal.returns
unfolding part_at
returns c = search (rules, walk)
