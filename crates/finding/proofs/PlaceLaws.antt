-- Looking for a pattern many places at a time: those at which its first and its last byte do not stand are passed by. Assumes nothing.
use Prim.Native.Nat.{ℕ, zero, suc, ◌+◌, ◌-◌, ◌≤◌, ◌<◌}
use mathlib.Core.Path.{◌≡◌, refl, sym, ap, ◌∙◌}
use mathlib.Core.Bool.{Bool, true, false}
use mathlib.Core.List.{List, [], ◌∷◌}
use native.Mathlib.Omega.{arith}
use native.Mathlib.Nat.{add-zero}
use lib.Bits.{bit_or}
use lib.Dec.{eqb, leb}
use lib.ListN.{length, get_or, drop, length-drop}
use lib.Seq.{get_or-drop}
use borrow.Author.Tests.{eq-eqb, ne_eqb, eqb-true, eqb-false, leb-true, leb-false}
use Rattle.text.specs.Parts.{starts_with}
use Rattle.text.proofs.Scan.{both, never}
use Rattle.verdicts.specs.Decisions.{contains}
use Rattle.finding.specs.Places.{Apart, one_if_both}
use Rattle.finding.proofs.SearchLaws.{none_left, tried, stands}
use lib.Bits.{bit_or, or_add_and, and_le_l, and_le_r}

-- an OR is none where both sides are
or_none : (a b : ℕ) → bit_or a b ≡ 0 → (a ≡ 0) × (b ≡ 0)
or_none a b z = omega (arith, or_add_and a b, and_le_r a b, and_le_l a b)

-- ---- stretches of places

pub both_are : (first last x y : ℕ) → x ≡ first → y ≡ last → 1 ≡ one_if_both first last x y
both_are first last x y p q = rw (eq-eqb x first p, eq-eqb y last q)

pub last_isnt : (first last x y : ℕ) → x ≡ first → (y ≡ last → ⊥) → 0 ≡ one_if_both first last x y
last_isnt first last x y p n = rw (eq-eqb x first p, ne_eqb y last n)

pub first_isnt : (first last x y : ℕ) → (x ≡ first → ⊥) → 0 ≡ one_if_both first last x y
first_isnt first last x y n = rw (ne_eqb x first n)

module _ (first last reach : ℕ) (s : List ℕ) where
  pub apart_none : (i : ℕ) → Apart first last reach s i i
  unfolding Apart
  apart_none i k l h e f = omega arith

  -- a place more
  apart_place : (i j u : ℕ) → Apart first last reach s i j → u ≡ one_if_both first last (get_or s j 0) (get_or s (j + reach) 0) → (u ≡ 1 → ⊥) → Apart first last reach s i (j + 1)
  unfolding Apart
  apart_place i j u p q n k l h e f = go (eqb k j) refl
    where
      go : (t : Bool) → eqb k j ≡ t → ⊥
      go true t = n (q ∙ sym (both_are first last (get_or s j 0) (get_or s (j + reach) 0) (rw (← eqb-true k j t) e) (rw (← eqb-true k j t) f)))
      go false t = p k l (let d = eqb-false k j t in omega arith) e f

  -- and one that is looked at with others
  pub apart_more : (i j m seen u : ℕ) → m ≡ j + 1 → u ≡ one_if_both first last (get_or s j 0) (get_or s (j + reach) 0)
      → (seen ≡ 0 → Apart first last reach s i j) → bit_or seen u ≡ 0 → Apart first last reach s i m
  apart_more i j m seen u n q p z =
      let o = or_none seen u z in
      rw n (apart_place i j u (p o.0) q (λ d. omega (arith, o.1)))

  -- one stretch after the other
  pub apart_then : (at i j : ℕ) → Apart first last reach s at i → Apart first last reach s i j → Apart first last reach s at j
  unfolding Apart
  apart_then at i j p q k l h e f = go (leb i k) refl
    where
      go : (m : Bool) → leb i k ≡ m → ⊥
      go true m = q k (leb-true i k m) h e f
      go false m = p k l (leb-false i k m) e f

  -- and where a call has found the other
  pub apart_on : (at i j : ℕ) (r : Bool) → Apart first last reach s at i → (r ≡ true → Apart first last reach s i j) → r ≡ true → Apart first last reach s at j
  apart_on at i j r p q t = apart_then at i j p (q t)

pub ruleset apart_steps = (both_are, last_isnt, first_isnt, apart_none, apart_on)

-- ---- the pattern at a place

-- what stands at the front has the pattern's bytes, and as many
begins : (p s : List ℕ) → starts_with p s ≡ true → (length p ≤ length s) × ((j : ℕ) → j < length p → get_or s j 0 ≡ get_or p j 0)
unfolding starts_with
begins [] s t = (omega arith, λ j h. absurd (omega arith))
begins (b ∷ p) [] t = never (sym t)
begins (b ∷ p) (x ∷ s) t =
    let e = both (eqb x b) (starts_with p s) t in
    let ih = begins p s e.1 in
    (omega (arith, ih.0), at (eqb-true x b e.0) ih.1)
  where
    at : x ≡ b → ((j : ℕ) → j < length p → get_or s j 0 ≡ get_or p j 0) → (j : ℕ) → j < suc (length p) → get_or (x ∷ s) j 0 ≡ get_or (b ∷ p) j 0
    at e ih zero h = e
    at e ih (suc j) h = ih j (omega arith)

-- it does not where that fails
refuted : (b : Bool) → (b ≡ true → ⊥) → b ≡ false
refuted true n = absurd (n refl)
refuted false n = refl

-- fewer bytes than the pattern has
too_short : (p s : List ℕ) → length s < length p → contains p s ≡ false
unfolding contains
too_short p [] h = refuted (starts_with p []) (λ t. omega (arith, (begins p [] t).0))
too_short p (x ∷ s) h =
    rw (refuted (starts_with p (x ∷ s)) (λ t. omega (arith, (begins p (x ∷ s) t).0))) (too_short p s (omega arith))

-- from i on
module _ (p s : List ℕ) (i : ℕ) where
  module _ (n : length p ≡ 0 → ⊥) where
    pub short_left : length s < i + length p → contains p (drop i s) ≡ false
    short_left h = too_short p (drop i s) (omega (arith, length-drop i s))

    pub found_at : starts_with p (drop i s) ≡ true → contains p (drop i s) ≡ true
    found_at t = stands p s i n (omega (arith, (begins p (drop i s) t).0, length-drop i s)) t

    -- also where the value has no byte there
    pub not_at : starts_with p (drop i s) ≡ false → contains p (drop i s) ≡ contains p (drop (i + 1) s)
    not_at f = go (leb (length s) i) refl
      where
        go : (t : Bool) → leb (length s) i ≡ t → contains p (drop i s) ≡ contains p (drop (i + 1) s)
        go true t = let l = leb-true (length s) i t in none_left p s i n l ∙ sym (none_left p s (i + 1) n (omega arith))
        go false t = tried p s i n (leb-false (length s) i t) f

  module _ (reach : ℕ) (r : reach + 1 ≡ length p) where
    other : (get_or s i 0 ≡ get_or p 0 0 → get_or s (i + reach) 0 ≡ get_or p reach 0 → ⊥) → starts_with p (drop i s) ≡ false
    other n = refuted (starts_with p (drop i s)) (λ t.
        let e = (begins p (drop i s) t).1 in
        n (ap (λ (k : ℕ). get_or s k 0) (sym (add-zero i)) ∙ sym (get_or-drop i s 0 0) ∙ e 0 (omega arith))
        (sym (get_or-drop i s reach 0) ∙ e reach (omega arith)))

passes : (p s : List ℕ) (reach : ℕ) → reach + 1 ≡ length p → (k i : ℕ) → i + k + reach ≤ length s → Apart (get_or p 0 0) (get_or p reach 0) reach s i (i + k) → contains p (drop (i + k) s) ≡ contains p (drop i s)
unfolding Apart
passes p s reach r zero i h w = rw (add-zero i)
passes p s reach r (suc k) i h w =
    let e : i + suc k ≡ i + 1 + k = omega arith in
    let q : Apart (get_or p 0 0) (get_or p reach 0) reach s (i + 1) (i + 1 + k) = λ m l c. w m (omega arith) (omega arith) in
    let l : i < length s = omega arith in
    let n : length p ≡ 0 → ⊥ = λ z. omega arith in
    rw e (passes p s reach r k (i + 1) (omega arith) q ∙ sym (tried p s i n l (other p s i reach r (w i (omega arith) (omega arith)))))

-- a stretch in which its first and its last byte do not stand
pub passed_by : (p s : List ℕ) (reach i j : ℕ) → reach + 1 ≡ length p → i ≤ j → j + reach ≤ length s → Apart (get_or p 0 0) (get_or p reach 0) reach s i j → contains p (drop j s) ≡ contains p (drop i s)
passed_by p s reach i j r l h w =
    let e : j ≡ i + (j - i) = omega arith in
    rw e (passes p s reach r (j - i) i (omega arith) (rw e at w))
