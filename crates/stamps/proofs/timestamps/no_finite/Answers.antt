-- `stamps::timestamps::no_finite` meets its contract. Assumes nothing.

use Rattle.std.specs.Char.{to_ascii_lowercase}
use Rattle.std.proofs.lemmas.Slice.Eq.{bytes_eq-Decides}
use Rattle.std.proofs.lemmas.Bool.Decides.{nat_tests}
use Prim.Native.Nat.{ℕ}
use Prim.Native.String.{String}
use mathlib.Core.Path.{◌≡◌, refl, sym, ◌∙◌}
use mathlib.Core.Bool.{Bool, true, false}
use mathlib.Core.List.{List, [], ◌∷◌, map}
use native.Mathlib.Omega.{arith}
use Rattle.text.specs.Base.{within}
use Rattle.text.specs.Literal.{spells}
use Rattle.text.proofs.Scan.{never}
use Rattle.text.proofs.LiteralLaws.{codes, spells_as}
use Rattle.text.proofs.StdLaws.{same_is}
use Rattle.script.specs.Timestamps.{small, no_finite}
use Rattle.stamps.proofs.timestamps.no_finite.Goals as goal
use Rattle.stamps.proofs.timestamps.no_finite.Goals.{then-eq_ignore_ascii_case, else-eq_ignore_ascii_case}

lower_is : (x : ℕ) → to_ascii_lowercase x ≡ small x
unfolding small within
lower_is x = grind (arith, nat_tests)

lowered : (xs : List ℕ) → map to_ascii_lowercase xs ≡ map small xs
lowered [] = refl
lowered (x ∷ xs) = rw (lower_is x, lowered xs)

-- two answers to one question
alike : {P : Type 0} (a b : Bool) → (a ≡ true → P) → (P → a ≡ true) → (b ≡ true → P) → (P → b ≡ true) → a ≡ b
alike true b f g h k = sym (k (f refl))
alike false true f g h k = g (h refl)
alike false false f g h k = refl

-- w has no capital letter
told : (w : String) (xs : List ℕ) (r : Bool) → map to_ascii_lowercase (codes w) ≡ codes w
    → (r ≡ true → map to_ascii_lowercase xs ≡ map to_ascii_lowercase (codes w)) × (map to_ascii_lowercase xs ≡ map to_ascii_lowercase (codes w) → r ≡ true)
    → r ≡ spells w (map small xs)
told w xs r l t =
    let e = lowered xs in
    let d = bytes_eq-Decides (map small xs) (codes w) in
    let t' : (r ≡ true → map small xs ≡ codes w) × (map small xs ≡ codes w → r ≡ true) = rw (e, l) at t in
    alike r _ t'.0 t'.1 d.0 d.1 ∙ same_is (map small xs) (codes w) ∙ sym (spells_as w (map small xs))

module _ (xs : List ℕ) (a : Bool) (p : a ≡ spells "inf" (map small xs)) where
  by-first : a ≡ true → true ≡ no_finite xs
  unfolding no_finite
  by-first t = rw (← p, t)

  module _ (b : Bool) (q : b ≡ spells "infinity" (map small xs)) (f : a ≡ false) where
    by-second : b ≡ true → true ≡ no_finite xs
    unfolding no_finite
    by-second t = rw (← p, f, ← q, t)

    by-third : b ≡ false → (r : Bool) → r ≡ spells "nan" (map small xs) → r ≡ no_finite xs
    unfolding no_finite
    by-third g r e = rw (← p, f, ← q, g) e

pub returns-then-eq_ignore_ascii_case-2 : goal.returns-then-eq_ignore_ascii_case-2
returns-then-eq_ignore_ascii_case-2 c =
    let first = c.eq_ignore_ascii_case in
    let inf = told "inf" c.args.s.now first.result refl first.ensures.test in
    elim c.if-eq_ignore_ascii_case.branch [
      | then-eq_ignore_ascii_case w ↦ w.value-is ∙ w.if-eq_ignore_ascii_case.true ∙ by-first _ _ inf w.if-eq_ignore_ascii_case.true
      | else-eq_ignore_ascii_case w ↦
          let second = w.eq_ignore_ascii_case-else-eq_ignore_ascii_case in
          let infinity = told "infinity" c.args.s.now second.result refl second.ensures.test in
          let yes = c.if-eq_ignore_ascii_case-2.true in
          yes ∙ by-second _ _ inf _ infinity w.if-eq_ignore_ascii_case.false (sym w.value-is ∙ yes)
    ]

pub returns-else-eq_ignore_ascii_case-2 : goal.returns-else-eq_ignore_ascii_case-2
returns-else-eq_ignore_ascii_case-2 c =
    let first = c.eq_ignore_ascii_case in
    let third = c.eq_ignore_ascii_case-else-eq_ignore_ascii_case-2 in
    let inf = told "inf" c.args.s.now first.result refl first.ensures.test in
    let nan = told "nan" c.args.s.now third.result refl third.ensures.test in
    let no = c.if-eq_ignore_ascii_case-2.false in
    elim c.if-eq_ignore_ascii_case.branch [
      | then-eq_ignore_ascii_case w ↦ never (sym w.if-eq_ignore_ascii_case.true ∙ sym w.value-is ∙ no)
      | else-eq_ignore_ascii_case w ↦
          let second = w.eq_ignore_ascii_case-else-eq_ignore_ascii_case in
          let infinity = told "infinity" c.args.s.now second.result refl second.ensures.test in
          by-third _ _ inf _ infinity w.if-eq_ignore_ascii_case.false (sym w.value-is ∙ no) _ nan
    ]
