-- A scalar value and its encoding: how the rows of table 3-7 and the encodings of table 3-6 fit together. Assumes nothing.
use Rattle.std.specs.Prelude.{None, Some}
use Prim.Native.Nat.{ℕ, ◌+◌, ◌*◌, ◌/◌, ◌%◌, ◌≤◌, ◌<◌}
use mathlib.Core.Path.{◌≡◌, refl, ◌∙◌}
use mathlib.Core.Bool.{Bool, true, false}
use mathlib.Core.List.{List, [], ◌∷◌, ◌++◌, reverse}
use native.Mathlib.Omega.{arith}
use lib.Dec.{ltb, leb}
use lib.ListN.{length, drop}
use borrow.Author.Tests.{lt-ltb, le-ltb, ltb-true, ltb-false, leb-true, leb-false}
use Rattle.text.proofs.Scan.{inside, within-true, within_low, within_high}
use Rattle.text.proofs.Utf8Laws.{after_ascii}
use Rattle.characters.proofs.TrimChars.{off, front_1, back_1, front_2, back_2, front_3, back_3, front_4, back_4}
use Rattle.text.specs.Base.{◌or◌, within}
use Rattle.text.specs.Utf8.{◌to◌, table, after, well_formed_from}
use Rattle.text.specs.Unicode.{scalar, encoded, scalars_from}
use Rattle.text.specs.Trim.{white_bytes, backwards, size_of}

-- ---- scalar values

pub scalar_low : (c : ℕ) → c ≤ 0xD7FF → scalar c ≡ true
unfolding scalar
scalar_low c h = rw (within-true 0x0000 0xD7FF c (omega arith) h)

pub scalar_high : (c : ℕ) → 0xE000 ≤ c → c ≤ 0x10_FFFF → scalar c ≡ true
unfolding scalar
scalar_high c l h = rw (within_high 0x0000 0xD7FF c (omega arith), within-true 0xE000 0x10_FFFF c l h)

record Scalar (c : ℕ) : Type 0 where
  most : c ≤ 0x10_FFFF
  gap : 0xD800 ≤ c → 0xE000 ≤ c

scalar_is : (c : ℕ) → scalar c ≡ true → Scalar c
unfolding scalar
scalar_is c e = go (within 0x0000 0xD7FF c) refl (within 0xE000 0x10_FFFF c) refl e
  where
    go : (a : Bool) → within 0x0000 0xD7FF c ≡ a → (b : Bool) → within 0xE000 0x10_FFFF c ≡ b → a or b ≡ true → Scalar c
    go true p b q e = let u = inside 0x0000 0xD7FF c p in record { most = omega arith; gap = λ g. omega arith }
    go false p true q e = let u = inside 0xE000 0x10_FFFF c q in record { most = u.1; gap = λ g. u.0 }
    go false p false q e = let z : ◌≡◌ {A = ℕ} 0 1 = cc in absurd (omega arith)

-- ---- the second bytes that a first byte x of three, and of four bytes, may have

-- 14496 is 0xE0 * 64 + 0xA0, below which an encoding is too long; 15328 is 0xED * 64 + 0xA0, where the surrogates begin, 15360 where they end
pub record Second3 (x y : ℕ) : Type 0 where
  pub low : 0x80 ≤ y
  pub high : y ≤ 0xBF
  pub long : 14496 ≤ x * 64 + y
  pub gap : 15328 ≤ x * 64 + y → 15360 ≤ x * 64 + y

-- 15504 is 0xF0 * 64 + 0x90, below which an encoding is too long; 15759 is 0xF4 * 64 + 0x8F, where the code points end
pub record Second4 (w x : ℕ) : Type 0 where
  pub low : 0x80 ≤ x
  pub high : x ≤ 0xBF
  pub long : 15504 ≤ w * 64 + x
  pub most : w * 64 + x ≤ 15759

-- ---- the rows of table 3-7 by their first byte

pub data Class (x : ℕ) : Type 0 where
  one : x < 0x80 → after table x ≡ Some [] → Class x
  two : 0xC2 ≤ x → x ≤ 0xDF → after table x ≡ Some (0x80 to 0xBF ∷ []) → Class x
  three : (lo hi : ℕ) → 0xE0 ≤ x → x ≤ 0xEF → ((y : ℕ) → lo ≤ y → y ≤ hi → Second3 x y) → ((y : ℕ) → Second3 x y → (lo ≤ y) × (y ≤ hi))
      → after table x ≡ Some (lo to hi ∷ 0x80 to 0xBF ∷ []) → Class x
  four : (lo hi : ℕ) → 0xF0 ≤ x → x ≤ 0xF4 → ((y : ℕ) → lo ≤ y → y ≤ hi → Second4 x y) → ((y : ℕ) → Second4 x y → (lo ≤ y) × (y ≤ hi))
      → after table x ≡ Some (lo to hi ∷ 0x80 to 0xBF ∷ 0x80 to 0xBF ∷ []) → Class x
  bad : (0xC2 ≤ x → 0xF5 ≤ x) → 0x80 ≤ x → after table x ≡ None → Class x

-- an ED that keeps out of the surrogates
below_gap : (y : ℕ) → y ≤ 0xBF → (15328 ≤ 0xED * 64 + y → 15360 ≤ 0xED * 64 + y) → y ≤ 0x9F
below_gap y h g = go (leb 0xA0 y) refl
  where
    go : (b : Bool) → leb 0xA0 y ≡ b → y ≤ 0x9F
    go true e = let p = leb-true 0xA0 y e in let q = g (omega arith) in absurd (omega arith)
    go false e = let p = leb-false 0xA0 y e in omega arith

-- a first byte past a row's range: the rows behind it decide
module _ (x : ℕ) where
  from_80 : 0x80 ≤ x → after table x ≡ after (drop 1 table) x
  unfolding after table
  from_80 h = rw (within_high 0x00 0x7F x h)

  from_E0 : 0xE0 ≤ x → after table x ≡ after (drop 2 table) x
  unfolding after table
  from_E0 h = from_80 (omega arith) ∙ rw (within_high 0xC2 0xDF x h)

  from_E1 : 0xE1 ≤ x → after table x ≡ after (drop 3 table) x
  unfolding after table
  from_E1 h = from_E0 (omega arith) ∙ rw (within_high 0xE0 0xE0 x h)

  from_ED : 0xED ≤ x → after table x ≡ after (drop 4 table) x
  unfolding after table
  from_ED h = from_E1 (omega arith) ∙ rw (within_high 0xE1 0xEC x h)

  from_EE : 0xEE ≤ x → after table x ≡ after (drop 5 table) x
  unfolding after table
  from_EE h = from_ED (omega arith) ∙ rw (within_high 0xED 0xED x h)

  from_F0 : 0xF0 ≤ x → after table x ≡ after (drop 6 table) x
  unfolding after table
  from_F0 h = from_EE (omega arith) ∙ rw (within_high 0xEE 0xEF x h)

  from_F1 : 0xF1 ≤ x → after table x ≡ after (drop 7 table) x
  unfolding after table
  from_F1 h = from_F0 (omega arith) ∙ rw (within_high 0xF0 0xF0 x h)

  from_F4 : 0xF4 ≤ x → after table x ≡ after (drop 8 table) x
  unfolding after table
  from_F4 h = from_F1 (omega arith) ∙ rw (within_high 0xF1 0xF3 x h)

  from_F5 : 0xF5 ≤ x → after table x ≡ None
  unfolding after table
  from_F5 h = from_F4 (omega arith) ∙ rw (within_high 0xF4 0xF4 x h)

-- the first byte is one of eleven stretches, and the table says the same along each
pub classify : (x : ℕ) → Class x
unfolding after table
classify x =
    go (ltb x 0x80) (ltb x 0xC2) (ltb x 0xE0) (ltb x 0xE1) (ltb x 0xED) (ltb x 0xEE) (ltb x 0xF0) (ltb x 0xF1) (ltb x 0xF4) (ltb x 0xF5) refl refl refl refl refl refl refl refl refl refl
  where
    go : (b1 b2 b3 b4 b5 b6 b7 b8 b9 b10 : Bool)
        → ltb x 0x80 ≡ b1
        → ltb x 0xC2 ≡ b2
        → ltb x 0xE0 ≡ b3
        → ltb x 0xE1 ≡ b4
        → ltb x 0xED ≡ b5
        → ltb x 0xEE ≡ b6
        → ltb x 0xF0 ≡ b7
        → ltb x 0xF1 ≡ b8
        → ltb x 0xF4 ≡ b9
        → ltb x 0xF5 ≡ b10
        → Class x
    go true b2 b3 b4 b5 b6 b7 b8 b9 b10 e1 e2 e3 e4 e5 e6 e7 e8 e9 e10 = let h = ltb-true x 0x80 e1 in one h (rw (within-true 0x00 0x7F x (omega arith) (omega arith)))
    go false true b3 b4 b5 b6 b7 b8 b9 b10 e1 e2 e3 e4 e5 e6 e7 e8 e9 e10 =
        let l = ltb-false x 0x80 e1 in
        let h = ltb-true x 0xC2 e2 in
        bad (λ g. omega arith) l
        (from_80 x l ∙ rw (
          within_low 0xC2 0xDF x h,
          within_low 0xE0 0xE0 x (omega arith),
          within_low 0xE1 0xEC x (omega arith),
          within_low 0xED 0xED x (omega arith),
          within_low 0xEE 0xEF x (omega arith),
          within_low 0xF0 0xF0 x (omega arith),
          within_low 0xF1 0xF3 x (omega arith),
          within_low 0xF4 0xF4 x (omega arith),
        ))
    go false false true b4 b5 b6 b7 b8 b9 b10 e1 e2 e3 e4 e5 e6 e7 e8 e9 e10 =
        let l = ltb-false x 0xC2 e2 in
        let h = ltb-true x 0xE0 e3 in
        two l (omega arith) (from_80 x (omega arith) ∙ rw (within-true 0xC2 0xDF x l (omega arith)))
    go false false false true b5 b6 b7 b8 b9 b10 e1 e2 e3 e4 e5 e6 e7 e8 e9 e10 =
        let l = ltb-false x 0xE0 e3 in
        let h = ltb-true x 0xE1 e4 in
        three 0xA0 0xBF l (omega arith)
        (λ y p q. record { low = omega arith; high = q; long = omega arith; gap = λ g. omega arith })
        (λ y s. (omega (arith, s.long), s.high))
        (from_E0 x l ∙ rw (within-true 0xE0 0xE0 x l (omega arith)))
    go false false false false true b6 b7 b8 b9 b10 e1 e2 e3 e4 e5 e6 e7 e8 e9 e10 =
        let l = ltb-false x 0xE1 e4 in
        let h = ltb-true x 0xED e5 in
        three 0x80 0xBF (omega arith) (omega arith)
        (λ y p q. record { low = p; high = q; long = omega arith; gap = λ g. omega arith })
        (λ y s. (s.low, s.high))
        (from_E1 x l ∙ rw (within-true 0xE1 0xEC x l (omega arith)))
    go false false false false false true b7 b8 b9 b10 e1 e2 e3 e4 e5 e6 e7 e8 e9 e10 =
        let l = ltb-false x 0xED e5 in
        let h = ltb-true x 0xEE e6 in
        let d : x ≡ 0xED = omega arith in
        three 0x80 0x9F (omega arith) (omega arith)
        (λ y p q. record { low = p; high = omega arith; long = omega arith; gap = λ g. omega arith })
        (λ y s. (s.low, below_gap y s.high (rw d at s.gap)))
        (from_ED x l ∙ rw (within-true 0xED 0xED x l (omega arith)))
    go false false false false false false true b8 b9 b10 e1 e2 e3 e4 e5 e6 e7 e8 e9 e10 =
        let l = ltb-false x 0xEE e6 in
        let h = ltb-true x 0xF0 e7 in
        three 0x80 0xBF (omega arith) (omega arith)
        (λ y p q. record { low = p; high = q; long = omega arith; gap = λ g. omega arith })
        (λ y s. (s.low, s.high))
        (from_EE x l ∙ rw (within-true 0xEE 0xEF x l (omega arith)))
    go false false false false false false false true b9 b10 e1 e2 e3 e4 e5 e6 e7 e8 e9 e10 =
        let l = ltb-false x 0xF0 e7 in
        let h = ltb-true x 0xF1 e8 in
        four 0x90 0xBF l (omega arith)
        (λ y p q. record { low = omega arith; high = q; long = omega arith; most = omega arith })
        (λ y s. (omega (arith, s.long), s.high))
        (from_F0 x l ∙ rw (within-true 0xF0 0xF0 x l (omega arith)))
    go false false false false false false false false true b10 e1 e2 e3 e4 e5 e6 e7 e8 e9 e10 =
        let l = ltb-false x 0xF1 e8 in
        let h = ltb-true x 0xF4 e9 in
        four 0x80 0xBF (omega arith) (omega arith)
        (λ y p q. record { low = p; high = q; long = omega arith; most = omega arith })
        (λ y s. (s.low, s.high))
        (from_F1 x l ∙ rw (within-true 0xF1 0xF3 x l (omega arith)))
    go false false false false false false false false false true e1 e2 e3 e4 e5 e6 e7 e8 e9 e10 =
        let l = ltb-false x 0xF4 e9 in
        let h = ltb-true x 0xF5 e10 in
        four 0x80 0x8F (omega arith) (omega arith)
        (λ y p q. record { low = p; high = omega arith; long = omega arith; most = omega arith })
        (λ y s. (s.low, omega (arith, s.most)))
        (from_F4 x l ∙ rw (within-true 0xF4 0xF4 x l (omega arith)))
    go false false false false false false false false false false e1 e2 e3 e4 e5 e6 e7 e8 e9 e10 =
        let l = ltb-false x 0xF5 e10 in
        bad (λ g. l) (omega arith) (from_F5 x l)

-- ---- what the code's definitions make of the encoding of a scalar value

-- `bytes` encode c: they are well formed, are decoded to c, and trimming takes them off, at the front and at the back, just where c is White_Space
pub record Coded (c : ℕ) (bytes : List ℕ) : Type 0 where
  pub formed : (s : List ℕ) → well_formed_from [] (bytes ++ s) ≡ well_formed_from [] s
  pub decoded : (s : List ℕ) → scalars_from 0 0 (bytes ++ s) ≡ c ∷ scalars_from 0 0 s
  pub front : (s : List ℕ) → size_of white_bytes (bytes ++ s) ≡ off c (length bytes)
  pub back : (s : List ℕ) → size_of (backwards white_bytes) (reverse bytes ++ s) ≡ off c (length bytes)
  pub size : 1 ≤ length bytes

module _ (c : ℕ) (h : c < 0x80) where
  pub is_1 : encoded c ≡ c ∷ []
  unfolding encoded
  is_1 = rw (lt-ltb c 0x80 h)

  coded_1 : Coded c (c ∷ [])
  unfolding well_formed_from scalars_from
  coded_1 =
      record {
        formed = λ s. rw (after_ascii c h, well_formed_from);
        decoded = λ s. rw (lt-ltb c 0x80 h);
        front = λ s. front_1 c s h;
        back = λ s. back_1 c s h;
        size = omega arith;
      }

-- 12416 is 0xC0 * 64 + 0x80
module _ (x y c : ℕ) (hx : 0xC2 ≤ x) (hX : x ≤ 0xDF) (hy : 0x80 ≤ y) (hY : y ≤ 0xBF) (hc : c + 12416 ≡ x * 64 + y) where
  pub is_2 : encoded c ≡ x ∷ y ∷ []
  unfolding encoded
  is_2 =
      let p : 0xC0 + c / 0x40 ≡ x = omega arith in
      let q : 0x80 + c % 0x40 ≡ y = omega arith in
      rw (le-ltb c 0x80 (omega arith), lt-ltb c 0x800 (omega arith), p, q)

  coded_2 : Class x → Coded c (x ∷ y ∷ [])
  unfolding well_formed_from scalars_from
  coded_2 (one l a) = absurd (omega arith)
  coded_2 (two l h a) =
      let k : x % 0x20 * 0x40 + y % 0x40 ≡ c = omega arith in
      record {
        formed = λ s. rw (a, well_formed_from, within-true 0x80 0xBF y hy hY);
        decoded = λ s. rw (le-ltb x 0x80 (omega arith), lt-ltb x 0xE0 (omega arith), k);
        front = λ s. front_2 x y c s hx hX hy hY hc;
        back = λ s. back_2 x y c s hx hX hy hY hc;
        size = omega arith;
      }
  coded_2 (three lo hi l h up down a) = absurd (omega arith)
  coded_2 (four lo hi l h up down a) = absurd (omega arith)
  coded_2 (bad g l a) = absurd (omega (arith, g hx))

-- 925824 is 0xE0 * 4096 + 0x80 * 64 + 0x80
module _ (x y z c : ℕ) (hx : 0xE0 ≤ x) (hX : x ≤ 0xEF) (hy : Second3 x y) (hz : 0x80 ≤ z) (hZ : z ≤ 0xBF) (hc : c + 925824 ≡ x * 4096 + y * 64 + z) where
  pub is_3 : encoded c ≡ x ∷ y ∷ z ∷ []
  unfolding encoded
  is_3 =
      let l = hy.long in
      let m = hy.low in
      let n = hy.high in
      let p : 0xE0 + c / 0x1000 ≡ x = omega arith in
      let q : 0x80 + c / 0x40 % 0x40 ≡ y = omega arith in
      let r : 0x80 + c % 0x40 ≡ z = omega arith in
      rw (le-ltb c 0x80 (omega arith), le-ltb c 0x800 (omega arith), lt-ltb c 0x1_0000 (omega arith), p, q, r)

  coded_3 : Class x → Coded c (x ∷ y ∷ z ∷ [])
  unfolding well_formed_from scalars_from
  coded_3 (one l a) = absurd (omega arith)
  coded_3 (two l h a) = absurd (omega arith)
  coded_3 (three lo hi l h up down a) =
      let d = down y hy in
      let k : (x % 0x10 * 0x40 + y % 0x40) * 0x40 + z % 0x40 ≡ c = omega (arith, hy.low, hy.high) in
      record {
        formed = λ s. rw (a, well_formed_from, within-true lo hi y d.0 d.1, within-true 0x80 0xBF z hz hZ);
        decoded = λ s. rw (le-ltb x 0x80 (omega arith), le-ltb x 0xE0 hx, lt-ltb x 0xF0 (omega arith), k);
        front = λ s. front_3 x y z c s hx hX hy.low hy.high hz hZ (omega (arith, hy.long)) hc;
        back = λ s. back_3 x y z c s hx hX hy.low hy.high hz hZ (omega (arith, hy.long)) hc;
        size = omega arith;
      }
  coded_3 (four lo hi l h up down a) = absurd (omega arith)
  coded_3 (bad g l a) = absurd (omega (arith, g (omega arith)))

-- the bits of four bytes, put together
bits_4 : (a b d e w x y z c : ℕ) → a + 0xF0 ≡ w → b + 0x80 ≡ x → d + 0x80 ≡ y → e + 0x80 ≡ z → c + 63447168 ≡ w * 262144 + x * 4096 + y * 64 + z
    → ((a * 0x40 + b) * 0x40 + d) * 0x40 + e ≡ c
bits_4 a b d e w x y z c p q r s h = omega arith

rest_of : (y : ℕ) → 0x80 ≤ y → y ≤ 0xBF → y % 0x40 + 0x80 ≡ y
rest_of y l h = omega arith

-- 63447168 is 0xF0 * 262144 + 0x80 * 4096 + 0x80 * 64 + 0x80
module _ (w x y z c : ℕ) (hw : 0xF0 ≤ w) (hW : w ≤ 0xF4) (hx : Second4 w x) (hy : 0x80 ≤ y) (hY : y ≤ 0xBF) (hz : 0x80 ≤ z) (hZ : z ≤ 0xBF)
    (hc : c + 63447168 ≡ w * 262144 + x * 4096 + y * 64 + z) where
  pub is_4 : encoded c ≡ w ∷ x ∷ y ∷ z ∷ []
  unfolding encoded
  is_4 =
      let l = hx.long in
      let m = hx.low in
      let n = hx.high in
      let o : 0xF0 + c / 0x4_0000 ≡ w = omega arith in
      let p : 0x80 + c / 0x1000 % 0x40 ≡ x = omega arith in
      let q : 0x80 + c / 0x40 % 0x40 ≡ y = omega arith in
      let r : 0x80 + c % 0x40 ≡ z = omega arith in
      rw (le-ltb c 0x80 (omega arith), le-ltb c 0x800 (omega arith), le-ltb c 0x1_0000 (omega arith), o, p, q, r)

  coded_4 : Class w → Coded c (w ∷ x ∷ y ∷ z ∷ [])
  unfolding well_formed_from scalars_from
  coded_4 (one l a) = absurd (omega arith)
  coded_4 (two l h a) = absurd (omega arith)
  coded_4 (three lo hi l h up down a) = absurd (omega arith)
  coded_4 (four lo hi l h up down a) =
      let d = down x hx in
      let f : w % 0x08 + 0xF0 ≡ w = omega (arith, l, h) in
      let k = bits_4 (w % 0x08) (x % 0x40) (y % 0x40) (z % 0x40) w x y z c f (rest_of x hx.low hx.high) (rest_of y hy hY) (rest_of z hz hZ) hc in
      record {
        formed = λ s. rw (a, well_formed_from, within-true lo hi x d.0 d.1, within-true 0x80 0xBF y hy hY, within-true 0x80 0xBF z hz hZ);
        decoded = λ s. rw (le-ltb w 0x80 (omega arith), le-ltb w 0xE0 (omega arith), le-ltb w 0xF0 hw, k);
        front = λ s. front_4 w x y z c s hw hx.low hx.high hy hY hz (omega (arith, hx.long));
        back = λ s. back_4 w x y z c s hw hx.low hx.high hy hY hz (omega (arith, hx.long));
        size = omega arith;
      }
  coded_4 (bad g l a) = absurd (omega (arith, g (omega arith)))

-- the encoding of a scalar value
pub coded : (c : ℕ) → scalar c ≡ true → Coded c (encoded c)
coded c e = go (ltb c 0x80) refl (ltb c 0x800) refl (ltb c 0x1_0000) refl (scalar_is c e)
  where
    go : (p : Bool) → ltb c 0x80 ≡ p → (q : Bool) → ltb c 0x800 ≡ q → (r : Bool) → ltb c 0x1_0000 ≡ r → Scalar c → Coded c (encoded c)
    go true p q eq r er k = let h = ltb-true c 0x80 p in rw (is_1 c h) (coded_1 c h)
    go false p true q r er k =
        let l = ltb-false c 0x80 p in
        let h = ltb-true c 0x800 q in
        let x : ℕ = 0xC0 + c / 0x40 in
        let y : ℕ = 0x80 + c % 0x40 in
        rw (is_2 x y c (omega arith) (omega arith) (omega arith) (omega arith) (omega arith))
        (coded_2 x y c (omega arith) (omega arith) (omega arith) (omega arith) (omega arith) (classify x))
    go false p false q true r k =
        let l = ltb-false c 0x800 q in
        let h = ltb-true c 0x1_0000 r in
        let x : ℕ = 0xE0 + c / 0x1000 in
        let y : ℕ = 0x80 + c / 0x40 % 0x40 in
        let z : ℕ = 0x80 + c % 0x40 in
        let s : Second3 x y = record { low = omega arith; high = omega arith; long = omega arith; gap = λ g. omega (arith, k.gap (omega arith)) } in
        rw (is_3 x y z c (omega arith) (omega arith) s (omega arith) (omega arith) (omega arith))
        (coded_3 x y z c (omega arith) (omega arith) s (omega arith) (omega arith) (omega arith) (classify x))
    go false p false q false r k =
        let l = ltb-false c 0x1_0000 r in
        let m = k.most in
        let w : ℕ = 0xF0 + c / 0x4_0000 in
        let x : ℕ = 0x80 + c / 0x1000 % 0x40 in
        let y : ℕ = 0x80 + c / 0x40 % 0x40 in
        let z : ℕ = 0x80 + c % 0x40 in
        let s : Second4 w x = record { low = omega arith; high = omega arith; long = omega arith; most = omega arith } in
        rw (is_4 w x y z c (omega arith) (omega arith) s (omega arith) (omega arith) (omega arith) (omega arith) (omega arith))
        (coded_4 w x y z c (omega arith) (omega arith) s (omega arith) (omega arith) (omega arith) (omega arith) (omega arith) (classify w))
