-- A character of well-formed UTF-8 at the front of a text, or at its back: trimming by bytes takes it off just where its code point is White_Space.
-- Assumes nothing.
use Prim.Native.Nat.{ℕ, ◌+◌, ◌*◌, ◌≤◌, ◌<◌}
use mathlib.Core.Path.{◌≡◌, refl, sym, ◌∙◌}
use mathlib.Core.Bool.{Bool, true, false}
use mathlib.Core.List.{List, [], ◌∷◌}
use native.Mathlib.Omega.{arith}
use lib.ListN.{take}
use Rattle.text.proofs.Scan.{both, inside, and_true, and_false, within-true, within_low, within_high}
use Rattle.text.proofs.TrimLaws.{front_ascii, back_ascii}
use Rattle.std.specs.Prelude.{if◌then◌else◌}
use Rattle.text.specs.Base.{◌&◌, ◌or◌, within}
use Rattle.text.specs.Unicode.{white_space, one_has, white}
use Rattle.text.specs.Trim.{white_bytes, backwards, begins, size_of}

iff : (a b : Bool) → (a ≡ true → b ≡ true) → (b ≡ true → a ≡ true) → a ≡ b
iff true b f g = sym (f refl)
iff false true f g = g refl
iff false false f g = refl

all : (a b c : Bool) → a ≡ true → b ≡ true → c ≡ true → a & (b & (c & true)) ≡ true
all a b c p q r = rw (p, q, r)

-- the bytes of a row of two and of three, and the code points that they encode
module _ (x y k : ℕ) (hx : 0xC2 ≤ x) (hX : x ≤ 0xDF) (hy : 0x80 ≤ y) (hY : y ≤ 0xBF) (hk : k + 12416 ≡ x * 64 + y) where
  two : (b : ℕ) → 0x80 ≤ b → b ≤ 0xBF → within 0xC2 0xC2 x & (within b b y & true) ≡ within b b k
  two b h H =
      iff _ _
      (λ e. let p = both _ _ e in let q = both _ _ p.1 in
      let u = inside 0xC2 0xC2 x p.0 in let v = inside b b y q.0 in within-true b b k (omega arith) (omega arith))
      (λ e. let u = inside b b k e in
      rw (within-true 0xC2 0xC2 x (omega arith) (omega arith), within-true b b y (omega arith) (omega arith)))

module _ (x y z k : ℕ) (hx : 0xE0 ≤ x) (hX : x ≤ 0xEF) (hy : 0x80 ≤ y) (hY : y ≤ 0xBF) (hz : 0x80 ≤ z) (hZ : z ≤ 0xBF)
    (hk : k + 925824 ≡ x * 4096 + y * 64 + z) where
  module _ (a b lo hi c d : ℕ) (ha : 0xE0 ≤ a) (hA : a ≤ 0xEF) (hb : 0x80 ≤ b) (hB : b ≤ 0xBF) (hl : 0x80 ≤ lo) (hm : lo ≤ hi) (hh : hi ≤ 0xBF)
      (hc : c + 925824 ≡ a * 4096 + b * 64 + lo) (hd : d + 925824 ≡ a * 4096 + b * 64 + hi) where
    three : within a a x & (within b b y & (within lo hi z & true)) ≡ within c d k
    three =
        iff _ _
        (λ e. let p = both _ _ e in let q = both _ _ p.1 in let r = both _ _ q.1 in
        let u = inside a a x p.0 in let v = inside b b y q.0 in let w = inside lo hi z r.0 in within-true c d k (omega arith) (omega arith))
        (λ e. let u = inside c d k e in
        let p : x ≡ a = omega arith in
        let q : y ≡ b = omega arith in
        rw (within-true a a x (omega arith) (omega arith), within-true b b y (omega arith) (omega arith), within-true lo hi z (omega arith) (omega arith)))

-- ---- the choice of a row, and of a range of code points

one_of_lem : (a b c d e f : Bool) (n : ℕ) → (if a then n else if b then n else if c then n else if d then n else if e then n else if f then n else 0) ≡ (if a or (b or (c or (d or (e or (f or false))))) then n else 0)
one_of_lem true b c d e f n = refl
one_of_lem false true c d e f n = refl
one_of_lem false false true d e f n = refl
one_of_lem false false false true e f n = refl
one_of_lem false false false false true f n = refl
one_of_lem false false false false false true n = refl
one_of_lem false false false false false false n = refl

one_of_two : (a b : Bool) (n : ℕ) → (if a then n else if b then n else 0) ≡ (if a or (b or false) then n else 0)
one_of_two true b n = refl
one_of_two false true n = refl
one_of_two false false n = refl

-- the size of a character that is off, 0 if it stays
abbrev pub off : ℕ → ℕ → ℕ
off k n = if white k then n else 0

-- which ranges can have a code point
white_1 : (k : ℕ) → k < 0x80 → white k ≡ within 0x09 0x0D k or (within 0x20 0x20 k or false)
unfolding white white_space one_has
white_1 k h =
    rw (
      within_low 0x85 0x85 k (omega arith),
      within_low 0xA0 0xA0 k (omega arith),
      within_low 0x1680 0x1680 k (omega arith),
      within_low 0x2000 0x200A k (omega arith),
      within_low 0x2028 0x2029 k (omega arith),
      within_low 0x202F 0x202F k (omega arith),
      within_low 0x205F 0x205F k (omega arith),
      within_low 0x3000 0x3000 k (omega arith),
    )

white_2 : (k : ℕ) → 0x80 ≤ k → k < 0x800 → white k ≡ within 0x85 0x85 k or (within 0xA0 0xA0 k or false)
unfolding white white_space one_has
white_2 k g h =
    rw (
      within_high 0x09 0x0D k (omega arith),
      within_high 0x20 0x20 k (omega arith),
      within_low 0x1680 0x1680 k (omega arith),
      within_low 0x2000 0x200A k (omega arith),
      within_low 0x2028 0x2029 k (omega arith),
      within_low 0x202F 0x202F k (omega arith),
      within_low 0x205F 0x205F k (omega arith),
      within_low 0x3000 0x3000 k (omega arith),
    )

white_3 : (k : ℕ) → 0x800 ≤ k
    → white k ≡ within 0x1680 0x1680 k or (within 0x2000 0x200A k or (within 0x2028 0x2029 k or (within 0x202F 0x202F k or (within 0x205F 0x205F k or (within 0x3000 0x3000 k or false)))))
unfolding white white_space one_has
white_3 k h = rw (within_high 0x09 0x0D k (omega arith), within_high 0x20 0x20 k (omega arith), within_high 0x85 0x85 k (omega arith), within_high 0xA0 0xA0 k (omega arith))

white_4 : (k : ℕ) → 0x1_0000 ≤ k → white k ≡ false
unfolding white white_space one_has
white_4 k h =
    rw (
      within_high 0x09 0x0D k (omega arith),
      within_high 0x20 0x20 k (omega arith),
      within_high 0x85 0x85 k (omega arith),
      within_high 0xA0 0xA0 k (omega arith),
      within_high 0x1680 0x1680 k (omega arith),
      within_high 0x2000 0x200A k (omega arith),
      within_high 0x2028 0x2029 k (omega arith),
      within_high 0x202F 0x202F k (omega arith),
      within_high 0x205F 0x205F k (omega arith),
      within_high 0x3000 0x3000 k (omega arith),
    )

swap_2 : (a b : Bool) → a & (b & true) ≡ b & (a & true)
swap_2 true true = refl
swap_2 true false = refl
swap_2 false true = refl
swap_2 false false = refl

swap_3 : (a b c : Bool) → a & (b & (c & true)) ≡ c & (b & (a & true))
swap_3 true b true = refl
swap_3 true b false = and_false b
swap_3 false b true = sym (and_false b)
swap_3 false b false = refl

-- ---- characters of one byte

ascii_off : (x : ℕ) → x < 0x80 → size_of (take 2 white_bytes) (x ∷ []) ≡ off x 1
unfolding size_of white_bytes begins
ascii_off x h = rw (and_true (within 0x09 0x0D x), and_true (within 0x20 0x20 x), white_1 x h) (one_of_two (within 0x09 0x0D x) (within 0x20 0x20 x) 1)

pub front_1 : (x : ℕ) (s : List ℕ) → x < 0x80 → size_of white_bytes (x ∷ s) ≡ off x 1
front_1 x s h = front_ascii x s h ∙ ascii_off x h

pub back_1 : (x : ℕ) (s : List ℕ) → x < 0x80 → size_of (backwards white_bytes) (x ∷ s) ≡ off x 1
back_1 x s h = back_ascii x s h ∙ ascii_off x h

-- ---- of two

module _ (x y k : ℕ) (s : List ℕ) (hx : 0xC2 ≤ x) (hX : x ≤ 0xDF) (hy : 0x80 ≤ y) (hY : y ≤ 0xBF) (hk : k + 12416 ≡ x * 64 + y) where
  pub front_2 : size_of white_bytes (x ∷ y ∷ s) ≡ off k 2
  unfolding size_of white_bytes begins
  front_2 = rw (
    within_high 0x09 0x0D x (omega arith),
    within_high 0x20 0x20 x (omega arith),
    within_low 0xE1 0xE1 x (omega arith),
    within_low 0xE2 0xE2 x (omega arith),
    within_low 0xE3 0xE3 x (omega arith),
    two x y k hx hX hy hY hk 0x85 (omega arith) (omega arith),
    two x y k hx hX hy hY hk 0xA0 (omega arith) (omega arith),
    white_2 k (omega arith) (omega arith),
  )
      (one_of_two (within 0x85 0x85 k) (within 0xA0 0xA0 k) 2)

  pub back_2 : size_of (backwards white_bytes) (y ∷ x ∷ s) ≡ off k 2
  unfolding size_of white_bytes begins backwards
  back_2 = rw (
    within_high 0x09 0x0D y (omega arith),
    within_high 0x20 0x20 y (omega arith),
    within_high 0x9A 0x9A x (omega arith),
    within_high 0x80 0x80 x (omega arith),
    within_high 0x81 0x81 x (omega arith),
    and_false (within 0x80 0x80 y),
    and_false (within 0x80 0x8A y),
    and_false (within 0xA8 0xA9 y),
    and_false (within 0xAF 0xAF y),
    and_false (within 0x9F 0x9F y),
    swap_2 (within 0x85 0x85 y) (within 0xC2 0xC2 x),
    swap_2 (within 0xA0 0xA0 y) (within 0xC2 0xC2 x),
    two x y k hx hX hy hY hk 0x85 (omega arith) (omega arith),
    two x y k hx hX hy hY hk 0xA0 (omega arith) (omega arith),
    white_2 k (omega arith) (omega arith),
  )
      (one_of_two (within 0x85 0x85 k) (within 0xA0 0xA0 k) 2)

-- ---- of three

module _ (x y z k : ℕ) (s : List ℕ) (hx : 0xE0 ≤ x) (hX : x ≤ 0xEF) (hy : 0x80 ≤ y) (hY : y ≤ 0xBF) (hz : 0x80 ≤ z) (hZ : z ≤ 0xBF) (hl : 0x800 ≤ k)
    (hk : k + 925824 ≡ x * 4096 + y * 64 + z) where
  pub front_3 : size_of white_bytes (x ∷ y ∷ z ∷ s) ≡ off k 3
  unfolding size_of white_bytes begins
  front_3 = rw (
    within_high 0x09 0x0D x (omega arith),
    within_high 0x20 0x20 x (omega arith),
    within_high 0xC2 0xC2 x (omega arith),
    three x y z k hx hX hy hY hz hZ hk 0xE1 0x9A 0x80 0x80 0x1680 0x1680 (omega arith) (omega arith) (omega arith) (omega arith) (omega arith) (omega arith) (omega arith) (omega arith) (omega arith),
    three x y z k hx hX hy hY hz hZ hk 0xE2 0x80 0x80 0x8A 0x2000 0x200A (omega arith) (omega arith) (omega arith) (omega arith) (omega arith) (omega arith) (omega arith) (omega arith) (omega arith),
    three x y z k hx hX hy hY hz hZ hk 0xE2 0x80 0xA8 0xA9 0x2028 0x2029 (omega arith) (omega arith) (omega arith) (omega arith) (omega arith) (omega arith) (omega arith) (omega arith) (omega arith),
    three x y z k hx hX hy hY hz hZ hk 0xE2 0x80 0xAF 0xAF 0x202F 0x202F (omega arith) (omega arith) (omega arith) (omega arith) (omega arith) (omega arith) (omega arith) (omega arith) (omega arith),
    three x y z k hx hX hy hY hz hZ hk 0xE2 0x81 0x9F 0x9F 0x205F 0x205F (omega arith) (omega arith) (omega arith) (omega arith) (omega arith) (omega arith) (omega arith) (omega arith) (omega arith),
    three x y z k hx hX hy hY hz hZ hk 0xE3 0x80 0x80 0x80 0x3000 0x3000 (omega arith) (omega arith) (omega arith) (omega arith) (omega arith) (omega arith) (omega arith) (omega arith) (omega arith),
    white_3 k hl,
  )
      (one_of_lem (within 0x1680 0x1680 k) (within 0x2000 0x200A k) (within 0x2028 0x2029 k) (within 0x202F 0x202F k) (within 0x205F 0x205F k) (within 0x3000 0x3000 k) 3)

  pub back_3 : size_of (backwards white_bytes) (z ∷ y ∷ x ∷ s) ≡ off k 3
  unfolding size_of white_bytes begins backwards
  back_3 = rw (
    within_high 0x09 0x0D z (omega arith),
    within_high 0x20 0x20 z (omega arith),
    within_low 0xC2 0xC2 y (omega arith),
    and_false (within 0x85 0x85 z),
    and_false (within 0xA0 0xA0 z),
    swap_3 (within 0x80 0x80 z) (within 0x9A 0x9A y) (within 0xE1 0xE1 x),
    three x y z k hx hX hy hY hz hZ hk 0xE1 0x9A 0x80 0x80 0x1680 0x1680 (omega arith) (omega arith) (omega arith) (omega arith) (omega arith) (omega arith) (omega arith) (omega arith) (omega arith),
    swap_3 (within 0x80 0x8A z) (within 0x80 0x80 y) (within 0xE2 0xE2 x),
    three x y z k hx hX hy hY hz hZ hk 0xE2 0x80 0x80 0x8A 0x2000 0x200A (omega arith) (omega arith) (omega arith) (omega arith) (omega arith) (omega arith) (omega arith) (omega arith) (omega arith),
    swap_3 (within 0xA8 0xA9 z) (within 0x80 0x80 y) (within 0xE2 0xE2 x),
    three x y z k hx hX hy hY hz hZ hk 0xE2 0x80 0xA8 0xA9 0x2028 0x2029 (omega arith) (omega arith) (omega arith) (omega arith) (omega arith) (omega arith) (omega arith) (omega arith) (omega arith),
    swap_3 (within 0xAF 0xAF z) (within 0x80 0x80 y) (within 0xE2 0xE2 x),
    three x y z k hx hX hy hY hz hZ hk 0xE2 0x80 0xAF 0xAF 0x202F 0x202F (omega arith) (omega arith) (omega arith) (omega arith) (omega arith) (omega arith) (omega arith) (omega arith) (omega arith),
    swap_3 (within 0x9F 0x9F z) (within 0x81 0x81 y) (within 0xE2 0xE2 x),
    three x y z k hx hX hy hY hz hZ hk 0xE2 0x81 0x9F 0x9F 0x205F 0x205F (omega arith) (omega arith) (omega arith) (omega arith) (omega arith) (omega arith) (omega arith) (omega arith) (omega arith),
    swap_3 (within 0x80 0x80 z) (within 0x80 0x80 y) (within 0xE3 0xE3 x),
    three x y z k hx hX hy hY hz hZ hk 0xE3 0x80 0x80 0x80 0x3000 0x3000 (omega arith) (omega arith) (omega arith) (omega arith) (omega arith) (omega arith) (omega arith) (omega arith) (omega arith),
    white_3 k hl,
  )
      (one_of_lem (within 0x1680 0x1680 k) (within 0x2000 0x200A k) (within 0x2028 0x2029 k) (within 0x202F 0x202F k) (within 0x205F 0x205F k) (within 0x3000 0x3000 k) 3)

-- ---- of four: none is White_Space

module _ (w x y z k : ℕ) (s : List ℕ) (hw : 0xF0 ≤ w) (hx : 0x80 ≤ x) (hX : x ≤ 0xBF) (hy : 0x80 ≤ y) (hY : y ≤ 0xBF) (hz : 0x80 ≤ z) (hl : 0x1_0000 ≤ k) where
  pub front_4 : size_of white_bytes (w ∷ x ∷ y ∷ z ∷ s) ≡ off k 4
  unfolding size_of white_bytes begins
  front_4 = rw (
    within_high 0x09 0x0D w (omega arith),
    within_high 0x20 0x20 w (omega arith),
    within_high 0xC2 0xC2 w (omega arith),
    within_high 0xE1 0xE1 w (omega arith),
    within_high 0xE2 0xE2 w (omega arith),
    within_high 0xE3 0xE3 w (omega arith),
    white_4 k hl,
  )

  pub back_4 : size_of (backwards white_bytes) (z ∷ y ∷ x ∷ w ∷ s) ≡ off k 4
  unfolding size_of white_bytes begins backwards
  back_4 = rw (
    within_high 0x09 0x0D z (omega arith),
    within_high 0x20 0x20 z (omega arith),
    within_low 0xC2 0xC2 y (omega arith),
    and_false (within 0x85 0x85 z),
    and_false (within 0xA0 0xA0 z),
    within_low 0xE1 0xE1 x (omega arith),
    within_low 0xE2 0xE2 x (omega arith),
    within_low 0xE3 0xE3 x (omega arith),
    and_false (within 0x9A 0x9A y),
    and_false (within 0x80 0x80 y),
    and_false (within 0x81 0x81 y),
    and_false (within 0x80 0x80 z),
    and_false (within 0x80 0x8A z),
    and_false (within 0xA8 0xA9 z),
    and_false (within 0xAF 0xAF z),
    and_false (within 0x9F 0x9F z),
    white_4 k hl,
  )
