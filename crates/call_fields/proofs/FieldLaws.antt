-- Laws of arrays of numbers, and of data as numbers. Assumes nothing.
use Prim.Native.Nat.{ℕ, zero, suc, ◌+◌}
use mathlib.Core.Path.{◌≡◌, refl, sym, ap, ◌∙◌}
use mathlib.Core.List.{List, [], ◌∷◌, ◌++◌}
use mathlib.Core.Bool.{Bool}
use native.Mathlib.Nat.{zero-add}
use native.Mathlib.Omega.{arith}
use lib.ListN.{length, get_or, drop, drop_of_length-le}
use lib.Seq.{drop-cons}
use Rattle.script.specs.declared.records.FramedData.{FramedData}
use Rattle.script.specs.declared.records.FramedData.TheVariants.{Inline, FileRef}
use Rattle.script.specs.declared.records.Items.{Items}
use Rattle.script.specs.declared.records.Place.{Place}
use Rattle.call_fields.specs.CallFields.{padded, flag, place_numbers, items_numbers, data_numbers}

-- ---- an array, number by number

abbrev pub spread : (i n : ℕ) → List ℕ → List ℕ
spread i zero xs = []
spread i (suc n) xs = get_or xs i 0 ∷ spread (suc i) n xs

spread_from : (i n : ℕ) (xs : List ℕ) → length xs ≡ i + n → spread i n xs ≡ drop i xs
spread_from i zero xs h = sym (drop_of_length-le xs {i = i} (omega arith))
spread_from i (suc n) xs h = ap (λ (l : List ℕ). get_or xs i 0 ∷ l) (spread_from (suc i) n xs (omega arith)) ∙ sym (drop-cons xs i 0 (omega arith))

-- an array that is a list of so many numbers
pub spread-is : (n : ℕ) (xs ys : List ℕ) → xs ≡ ys → length ys ≡ n → spread 0 n xs ≡ ys
spread-is n xs ys e h = spread_from 0 n xs (ap length e ∙ h ∙ sym (zero-add n)) ∙ e

pub padded-length : (n : ℕ) (xs : List ℕ) → length (padded n xs) ≡ n
unfolding padded
padded-length zero xs = refl
padded-length (suc n) [] = ap suc (padded-length n [])
padded-length (suc n) (x ∷ xs) = ap suc (padded-length n xs)

-- ---- data

data_three : (d : FramedData) → length (data_numbers d) ≡ 3
unfolding data_numbers place_numbers
data_three (Inline p) = refl
data_three (FileRef p) = refl

pub data_by : (d x : FramedData) → d ≡ x → (r : List ℕ) → r ≡ data_numbers x → r ≡ data_numbers d
data_by d x e r h = h ∙ ap data_numbers (sym e)

-- an array of it, number by number
module _ (d : FramedData) (n : List ℕ) (e : n ≡ data_numbers d) where
  three : spread 0 3 n ≡ data_numbers d
  three = spread-is 3 n (data_numbers d) e (data_three d)

  pub data_few : (kind a b : ℕ) (r : List ℕ) → r ≡ padded 16 ((kind ∷ 0 ∷ a ∷ b ∷ spread 0 3 n) ++ (0 ∷ [])) → r ≡ padded 16 (kind ∷ 0 ∷ a ∷ b ∷ data_numbers d)
  unfolding padded
  data_few kind a b r h = h ∙ ap (λ (l : List ℕ). padded 16 (kind ∷ 0 ∷ a ∷ b ∷ l)) three

  pub data_store : (kind : ℕ) (name cam : Place) (refs : Items) (b : Bool) (k : ℕ) → k ≡ flag b
      → (kind ∷ 0 ∷ place_numbers name) ++ place_numbers cam ++ items_numbers refs ++ (k ∷ spread 0 3 n) ++ (0 ∷ 0 ∷ 0 ∷ 0 ∷ []) ≡ padded 16 ((kind ∷ 0 ∷ place_numbers name) ++ place_numbers cam ++ items_numbers refs ++ (flag b ∷ data_numbers d))
  unfolding padded place_numbers items_numbers
  data_store kind name cam refs b k p = rw (p, ← three)
