-- A word is copied part by part: its first i bytes stand. Assumes nothing.
use Prim.Native.Nat.{ℕ, ◌+◌, ◌≤◌}
use mathlib.Core.Path.{◌≡◌, sym, ap, ◌∙◌}
use mathlib.Core.List.{List, ◌++◌}
use native.Mathlib.Omega.{arith}
use lib.ListN.{length, take, drop, length-drop}
use lib.Seq.{length-take-le, take_all, take-add, take-take}
use borrow.Rule.Slice.PartMut.{put_mid}
use Rattle.std.proofs.lemmas.Slice.{take-put_mid}
use Rattle.text.specs.Base.{part}

-- as many, and the first i stand: so they all do
pub word_all : (i : ℕ) (w u : List ℕ) → length u ≡ length w → take i u ≡ take i w → length w ≤ i → u ≡ w
word_all i w u e h k = sym (take_all i u (omega arith)) ∙ h ∙ take_all i w k

-- the n bytes from k on, of which the first may stand already
module _ (i k n m : ℕ) (w u b : List ℕ) (e : length u ≡ length w) (h : take i u ≡ take i w) (q : b ≡ part w k n) (l : k ≤ i) (r : k + n ≤ length w) where
  pub block_more : take (k + n) (put_mid k m u b) ≡ take (k + n) w
  block_more =
      let c : length b ≡ n = ap length q ∙ length-take-le n (drop k w) (omega (arith, length-drop k w)) in
      let f : take k u ≡ take k w = sym (take-take k i u l) ∙ ap (take k) h ∙ take-take k i w l in
      take-put_mid k m u b (k + n) (omega arith) (omega arith) ∙ ap (λ (xs : List ℕ). xs ++ b) f ∙ ap (λ (xs : List ℕ). take k w ++ xs) q ∙ sym (take-add k n w)

  -- the last of them
  pub block_last : length (put_mid k m u b) ≡ length w → length w ≤ k + n → put_mid k m u b ≡ w
  block_last s t = word_all (k + n) w (put_mid k m u b) s block_more t
