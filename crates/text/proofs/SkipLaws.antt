-- The laws of stretches in which a byte does not stand. Assumes nothing.
use Rattle.std.specs.Prelude.{None, Option, Some}
use Rattle.memchr.specs.Find.{Nowhere, Passes, IsFirstByte, is_byte}
use Prim.Native.Nat.{ℕ, zero, suc, ◌+◌, ◌-◌, ◌≤◌, ◌<◌}
use mathlib.Core.Bool.{Bool, true, false}
use mathlib.Core.Path.{◌≡◌, refl, ap, ◌∙◌}
use mathlib.Core.List.{List}
use native.Mathlib.Omega.{arith}
use native.Mathlib.Nat.{add-zero, zero-add}
use lib.Bits.{bit_or, or_add_and, and_le_l, and_le_r}
use lib.Dec.{eqb, leb}
use lib.ListN.{length, get_or, drop, length-drop}
use lib.Seq.{get_or-drop}
use borrow.Author.Tests.{eq-eqb, ne_eqb, eqb-true, eqb-false, leb-true, leb-false}
use Rattle.text.proofs.Scan.{rest_more, rest-none}
use Rattle.text.specs.Parts.{position_from, position}
use Rattle.text.specs.Skip.{Without, one_if}

pub one_is : (b x : ℕ) → x ≡ b → 1 ≡ one_if b x
one_is b x e = rw (eq-eqb x b e)

pub one_isnt : (b x : ℕ) → (x ≡ b → ⊥) → 0 ≡ one_if b x
one_isnt b x n = rw (ne_eqb x b n)

one_none : (b x : ℕ) → one_if b x ≡ 0 → x ≡ b → ⊥
one_none b x z e = let n = one_is b x e in omega arith

pub without-none : (b : ℕ) (s : List ℕ) (i : ℕ) → Without b s i i
unfolding Without
without-none b s i k l h e = omega arith

-- a byte more that is not b
without_more : (b : ℕ) (s : List ℕ) (i j m : ℕ) → m ≡ j + 1 → Without b s i j → one_if b (get_or s j 0) ≡ 0 → Without b s i m
unfolding Without
without_more b s i j m n p z k l h e = go (eqb k j) refl
  where
    go : (t : Bool) → eqb k j ≡ t → ⊥
    go true t = one_none b (get_or s j 0) z (rw (← eqb-true k j t) e)
    go false t = p k l (let d = eqb-false k j t in omega arith) e

-- one stretch after the other, which a call has found
pub without_on : (b : ℕ) (s : List ℕ) (at i j : ℕ) (r : Bool) → Without b s at i → (r ≡ true → Without b s i j) → r ≡ true → Without b s at j
unfolding Without
without_on b s at i j r p q t k l h e = go (leb i k) refl
  where
    go : (m : Bool) → leb i k ≡ m → ⊥
    go true m = q t k (leb-true i k m) h e
    go false m = p k l (leb-false i k m) e

-- ---- eight bytes at a time

-- an OR is none where both sides are
or_none : (a b : ℕ) → bit_or a b ≡ 0 → (a ≡ 0) × (b ≡ 0)
or_none a b z = omega (arith, or_add_and a b, and_le_r a b, and_le_l a b)

module _ (b : ℕ) (s : List ℕ) (at : ℕ) where
  pub four_none : (r0 r1 r2 r3 : ℕ) → bit_or (bit_or (bit_or r0 r1) r2) r3 ≡ 0
      → r0 ≡ one_if b (get_or s at 0)
      → r1 ≡ one_if b (get_or s (at + 1) 0)
      → r2 ≡ one_if b (get_or s (at + 2) 0)
      → r3 ≡ one_if b (get_or s (at + 3) 0)
      → Without b s at (at + 4)
  four_none r0 r1 r2 r3 z e0 e1 e2 e3 =
      let p = or_none (bit_or (bit_or r0 r1) r2) r3 z in
      let q = or_none (bit_or r0 r1) r2 p.0 in
      let r = or_none r0 r1 q.0 in
      let p0 = without_more b s at at (at + 1) refl (without-none b s at) (omega (arith, r.0)) in
      let p1 = without_more b s at (at + 1) (at + 2) (omega arith) p0 (omega (arith, r.1)) in
      let p2 = without_more b s at (at + 2) (at + 3) (omega arith) p1 (omega (arith, q.1)) in
      without_more b s at (at + 3) (at + 4) (omega arith) p2 (omega (arith, p.1))

  pub eight_none : (first last : ℕ) → eqb (bit_or first last) 0 ≡ true
      → (first ≡ 0 → Without b s at (at + 4))
      → (last ≡ 0 → Without b s (at + 4) (at + 4 + 4))
      → Without b s at (at + 8)
  eight_none first last t p q =
      let z = or_none first last (eqb-true (bit_or first last) 0 t) in
      let e : at + 8 ≡ at + 4 + 4 = omega arith in
      rw e (without_on b s at (at + 4) (at + 4 + 4) true (p z.0) (λ _. q z.1) refl)

-- a byte more that the code has looked at
pub without_next : (b : ℕ) (s : List ℕ) (at i : ℕ) → Without b s at i → (get_or s i 0 ≡ b → ⊥) → Without b s at (i + 1)
without_next b s at i p n = without_more b s at i (i + 1) refl p (rw (← one_isnt b (get_or s i 0) n) refl)

-- two stretches, one behind the other
pub without_both : (b : ℕ) (s : List ℕ) (at i j : ℕ) → Without b s at i → Without b s i j → Without b s at j
without_both b s at i j p q = without_on b s at i j true p (λ _. q) refl

pub ruleset skip_steps = (one_is, one_isnt, without-none, without_on)

-- ---- a search passes such a stretch

passes : (b : ℕ) (s : List ℕ) (k i : ℕ) → i + k ≤ length s → Without b s i (i + k) → position_from b (i + k) (drop (i + k) s) ≡ position_from b i (drop i s)
unfolding Without position_from
passes b s zero i h p = rw (add-zero i)
passes b s (suc k) i h p =
    let e : i + suc k ≡ i + 1 + k = omega arith in
    let q : Without b s (i + 1) (i + 1 + k) = λ m l c. p m (omega arith) (omega arith) in
    let later : position_from b (i + 1) (drop (i + 1) s) ≡ position_from b i (drop i s) =
    rw (rest_more s i (omega arith), ne_eqb (get_or s i 0) b (p i (omega arith) (omega arith))) in
    rw e (passes b s k (i + 1) (omega arith) q ∙ later)

pub passed : (b : ℕ) (s : List ℕ) (r : ℕ) → r ≤ length s → Without b s 0 r → position_from b r (drop r s) ≡ position b s
unfolding position
passed b s r h p = rw (zero-add r) at (passes b s r 0 (rw (zero-add r) h) (rw (zero-add r) p))

-- ---- what crate memchr says of its answer, in the words of this project

-- no b up to the end; no b up to i places on
module _ (b : ℕ) (s : List ℕ) (at : ℕ) where
  passed_by : (hay : List ℕ) (j k : ℕ) → hay ≡ drop at s → Nowhere (Passes (is_byte b) hay) 0 j → at ≤ k → k < at + j → get_or s k 0 ≡ b → ⊥
  passed_by hay j k q h l m e =
      let p : at + (k - at) ≡ k = omega arith in
      h (k - at) (omega arith) (omega arith) (rw q (eq-eqb _ _ (get_or-drop at s (k - at) 0 ∙ (rw p e))))

  pub none_from : (hay : List ℕ) → hay ≡ drop at s → at ≤ length s → IsFirstByte (is_byte b) hay None → Without b s at (length s)
  unfolding Without
  none_from hay q p h k l m e = let d = ap length q in passed_by hay (length hay) k q h l (omega (arith, length-drop at s)) e

  pub some_from : (i : ℕ) (hay : List ℕ) → hay ≡ drop at s → IsFirstByte (is_byte b) hay (Some i) → Without b s at (at + i)
  unfolding Without
  some_from i hay q h k l m e = passed_by hay i k q h.0.before l m e

-- ---- the first place of b, from where a search that begins at 0 stopped

module _ (b : ℕ) (s : List ℕ) (r : ℕ) (w : Without b s 0 r) where
  pub found_at : r < length s → get_or s r 0 ≡ b → Some r ≡ position b s
  unfolding position_from
  found_at f e = rw (rest_more s r f, eq-eqb _ _ e) at (passed b s r (omega arith) w)

  pub found_nowhere : r ≡ length s → None ≡ position b s
  unfolding position_from
  found_nowhere h = rw (rest-none s r (omega arith)) at (passed b s r (omega arith) w)
