-- Tables of blank records have the sizes of tables of one's own. Assumes nothing.
use Prim.Native.Nat.{ℕ}
use mathlib.Core.Path.{◌≡◌, refl, ap, ◌∙◌}
use mathlib.Core.List.{List, [], ◌∷◌}
use lib.ListN.{length, replicate, length-replicate}
use Rattle.script.specs.declared.records.Counts.{Counts}
use Rattle.script.specs.declared.records.Entry.{Entry}
use Rattle.script.specs.declared.records.Expectation.{Expectation}
use Rattle.slots.specs.Blank.{blank_entry, blank_expectation}
use Rattle.blanks.specs.Own.{own_tables}

module _ (es : List Entry) (is : List (List ℕ)) (xs : List Expectation) (bs : List ℕ)
    (e₁ : es ≡ replicate 256 blank_entry) (e₂ : is ≡ replicate 1024 (0 ∷ 0 ∷ [])) (e₃ : xs ≡ replicate 1024 blank_expectation) (e₄ : bs ≡ replicate 32768 0) where
  pub own-lent : ◌≡◌ {A = Counts} (record { entries = length es; items = length is; expectations = length xs; store = length bs }) own_tables
  own-lent =
      let a : length es ≡ 256 = ap length e₁ ∙ length-replicate 256 blank_entry in
      let b : length is ≡ 1024 = ap length e₂ ∙ length-replicate {A = List ℕ} 1024 (0 ∷ 0 ∷ []) in
      let c : length xs ≡ 1024 = ap length e₃ ∙ length-replicate 1024 blank_expectation in
      let d : length bs ≡ 32768 = ap length e₄ ∙ length-replicate {A = ℕ} 32768 0 in
      rw (a, b, c, d) refl
