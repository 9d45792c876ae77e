-- A row read number by number is the row's expectation. Assumes nothing.
use Prim.Native.Nat.{ℕ}
use mathlib.Core.Path.{◌≡◌}
use mathlib.Core.List.{List}
use lib.IntN.{ℤ}
use mir.Syntax.{w64}
use mir.Val.{SFits, to_z, of_z}
use mir.ValLaws.{to_z-of_z}
use Rattle.script.specs.declared.records.Place.{Place}
use Rattle.script.specs.declared.records.Matcher.{Matcher}
use Rattle.rows.specs.Rows.{at, place_of, matcher_of, expect_of, expect_row}

-- the machine hands a signed number on as bits, and reads it back
pub expect_is : (row : List ℕ) (n : ℤ) → SFits w64 n → (k₀ k₁ k₂ k₃ k₄ k₅ : ℕ) (p q : Place) (m : Matcher) → k₀ ≡ at row 0 → k₁ ≡ at row 1 → k₂ ≡ at row 2 → k₃ ≡ at row 3 → k₄ ≡ at row 4 → k₅ ≡ at row 5 → p ≡ place_of k₁ k₂ → q ≡ place_of k₄ k₅ → m ≡ matcher_of k₃ q (to_z w64 (of_z w64 n)) → expect_of k₀ p m ≡ expect_row row n
unfolding expect_row
expect_is row n f k₀ k₁ k₂ k₃ k₄ k₅ p q m e₀ e₁ e₂ e₃ e₄ e₅ ep eq em = rw (em, ep, eq, e₀, e₁, e₂, e₃, e₄, e₅, to_z-of_z w64 n f)
