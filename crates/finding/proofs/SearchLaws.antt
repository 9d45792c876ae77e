-- The laws of looking for a pattern: a place at which its first byte does not stand is passed by. Assumes nothing.
use Prim.Native.Nat.{ℕ, zero, suc, ◌+◌, ◌-◌, ◌≤◌, ◌<◌}
use mathlib.Core.Path.{◌≡◌, refl, sym, ◌∙◌}
use mathlib.Core.Bool.{true, false}
use mathlib.Core.List.{List, [], ◌∷◌}
use native.Mathlib.Omega.{arith}
use native.Mathlib.Nat.{add-zero}
use lib.ListN.{length, get_or, drop}
use borrow.Author.Tests.{ne_eqb}
use Rattle.text.specs.Parts.{starts_with}
use Rattle.text.specs.Skip.{Without}
use Rattle.text.proofs.Scan.{rest_more, rest-none}
use Rattle.verdicts.specs.Decisions.{contains}

-- an empty pattern stands everywhere
pub empty_in : (p s : List ℕ) → length p ≡ 0 → true ≡ contains p s
unfolding contains starts_with
empty_in [] [] e = refl
empty_in [] (x ∷ s) e = refl
empty_in (b ∷ p) s e = absurd (omega arith)

-- from here on, of a pattern with a first byte
module _ (p s : List ℕ) (i : ℕ) (n : length p ≡ 0 → ⊥) where
  pub none_left : length s ≤ i → contains p (drop i s) ≡ false
  unfolding contains starts_with
  none_left h = rw (rest-none s i h) (go p n)
    where
      go : (p : List ℕ) → (length p ≡ 0 → ⊥) → starts_with p [] ≡ false
      go [] n = absurd (n refl)
      go (b ∷ p) n = refl

  module _ (h : i < length s) where
    pub tried : starts_with p (drop i s) ≡ false → contains p (drop i s) ≡ contains p (drop (i + 1) s)
    unfolding contains
    tried f = rw (rest_more s i h, sym (rest_more s i h)) (rw f)

    pub stands : starts_with p (drop i s) ≡ true → contains p (drop i s) ≡ true
    unfolding contains
    stands t = rw (rest_more s i h, sym (rest_more s i h)) (rw t)

    other : (get_or s i 0 ≡ get_or p 0 0 → ⊥) → starts_with p (drop i s) ≡ false
    unfolding starts_with
    other d = rw (rest_more s i h) (go p n d)
      where
        go : (p : List ℕ) → (length p ≡ 0 → ⊥) → (get_or s i 0 ≡ get_or p 0 0 → ⊥) → starts_with p (get_or s i 0 ∷ drop (i + 1) s) ≡ false
        go [] n d = absurd (n refl)
        go (b ∷ p) n d = rw (ne_eqb (get_or s i 0) b d)

passes : (p s : List ℕ) (k i : ℕ) → (length p ≡ 0 → ⊥) → i + k ≤ length s → Without (get_or p 0 0) s i (i + k) → contains p (drop (i + k) s) ≡ contains p (drop i s)
unfolding Without
passes p s zero i n h w = rw (add-zero i)
passes p s (suc k) i n h w =
    let e : i + suc k ≡ i + 1 + k = omega arith in
    let q : Without (get_or p 0 0) s (i + 1) (i + 1 + k) = λ m l c. w m (omega arith) (omega arith) in
    let l : i < length s = omega arith in
    rw e (passes p s k (i + 1) n (omega arith) q ∙ sym (tried p s i n l (other p s i n l (w i (omega arith) (omega arith)))))

-- a stretch in which the pattern's first byte does not stand
pub passed : (p s : List ℕ) (i j : ℕ) → (length p ≡ 0 → ⊥) → i ≤ j → j ≤ length s → Without (get_or p 0 0) s i j → contains p (drop j s) ≡ contains p (drop i s)
passed p s i j n l h w =
    let e : j ≡ i + (j - i) = omega arith in
    rw e (passes p s (j - i) i n (omega arith) (rw e at w))
