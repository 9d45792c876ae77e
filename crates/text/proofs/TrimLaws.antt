-- The laws of trimming by bytes. Assumes nothing.
use Prim.Native.Nat.{ℕ, zero, suc, ◌+◌, ◌-◌, ◌≤◌, ◌<◌}
use mathlib.Core.Path.{◌≡◌, refl, sym, ap, ◌∙◌}
use mathlib.Core.Bool.{Bool, true, false}
use mathlib.Core.List.{List, [], ◌∷◌, reverse, reverse-append, reverse-reverse}
use native.Mathlib.Omega.{arith}
use native.Mathlib.Nat.{add-zero, sub-zero, sub_self, le_refl}
use native.Mathlib.Numerals.{sub-one}
use lib.Dec.{eqb, eqb-suc-zero}
use lib.ListN.{length, length-take, length-drop, length-reverse, get_or, take, drop}
use lib.Seq.{drop-nil, drop-drop, get_or-drop, take-suc, take_all, take-length, length-take-le}
use borrow.Author.Tests.{lt-leb}
use Rattle.text.proofs.Scan.{by_cases, inside, and_false, rest_more, rest-none, within_low, within_high}
use Rattle.std.specs.Prelude.{if◌then◌else◌}
use Rattle.text.specs.Base.{◌&◌, within, part}
use Rattle.text.specs.Utf8.{Range}
use Rattle.text.specs.Trim.{white_bytes, backwards, begins, size_of, strip_from, trimmed_front, trimmed_back, trimmed, trim_place}
use Rattle.text.specs.declared.trim.Place.{Place}

-- ---- three bytes say it; past the end stands 0, which no row has

abbrev front3 : List ℕ → List ℕ
front3 s = get_or s 0 0 ∷ get_or s 1 0 ∷ get_or s 2 0 ∷ []

module _ (a : ℕ) (s : List ℕ) where
  -- below 0x80 the rows of one byte decide
  pub front_ascii : a < 0x80 → size_of white_bytes (a ∷ s) ≡ size_of (take 2 white_bytes) (a ∷ [])
  unfolding size_of white_bytes begins
  front_ascii h = rw (within_low 0xC2 0xC2 a (omega arith), within_low 0xE1 0xE1 a (omega arith), within_low 0xE2 0xE2 a (omega arith), within_low 0xE3 0xE3 a (omega arith))

  pub back_ascii : a < 0x80 → size_of (backwards white_bytes) (a ∷ s) ≡ size_of (take 2 white_bytes) (a ∷ [])
  unfolding size_of white_bytes begins backwards
  back_ascii h =
      rw (
        within_low 0x85 0x85 a (omega arith),
        within_low 0xA0 0xA0 a (omega arith),
        within_low 0x80 0x80 a (omega arith),
        within_low 0x80 0x8A a (omega arith),
        within_low 0xA8 0xA9 a (omega arith),
        within_low 0xAF 0xAF a (omega arith),
        within_low 0x9F 0x9F a (omega arith),
      )

-- from 0x80 on the others do
front_long : (s : List ℕ) → 0x80 ≤ get_or s 0 0 → size_of white_bytes s ≡ size_of (drop 2 white_bytes) (front3 s)
unfolding size_of white_bytes begins within
front_long [] h = refl
front_long (a ∷ []) h = rw (lt-leb a 0x0D (omega arith), lt-leb a 0x20 (omega arith), and_false _, and_false _)
front_long (a ∷ b ∷ []) h = rw (lt-leb a 0x0D (omega arith), lt-leb a 0x20 (omega arith), and_false _, and_false _)
front_long (a ∷ b ∷ c ∷ s) h = rw (lt-leb a 0x0D (omega arith), lt-leb a 0x20 (omega arith), and_false _, and_false _)

back_long : (s : List ℕ) → 0x80 ≤ get_or s 0 0 → size_of (backwards white_bytes) s ≡ size_of (drop 2 (backwards white_bytes)) (front3 s)
unfolding size_of white_bytes begins within backwards
back_long [] h = refl
back_long (a ∷ []) h = rw (lt-leb a 0x0D (omega arith), lt-leb a 0x20 (omega arith), and_false _, and_false _)
back_long (a ∷ b ∷ []) h = rw (lt-leb a 0x0D (omega arith), lt-leb a 0x20 (omega arith), and_false _, and_false _)
back_long (a ∷ b ∷ c ∷ s) h = rw (lt-leb a 0x0D (omega arith), lt-leb a 0x20 (omega arith), and_false _, and_false _)

-- ---- the walk that strips, size by size

begins-fits : (row : List Range) (s : List ℕ) → begins row s ≡ true → length row ≤ length s
unfolding begins
begins-fits [] s e = omega arith
begins-fits (r ∷ rs) [] e = let z : ◌≡◌ {A = ℕ} 0 1 = cc in omega arith
begins-fits (r ∷ rs) (x ∷ s) e = go (within r.lo r.hi x) e (begins-fits rs s)
  where
    go : (b : Bool) → b & begins rs s ≡ true → (begins rs s ≡ true → length rs ≤ length s) → suc (length rs) ≤ suc (length s)
    go true e ih = omega (arith, ih e)
    go false e ih = let z : ◌≡◌ {A = ℕ} 0 1 = cc in omega arith

-- a row that a text begins with is no longer than the text
pub size_fits : (rows : List (List Range)) (s : List ℕ) → size_of rows s ≤ length s
unfolding size_of
size_fits [] s = omega arith
size_fits (row ∷ rows) s = go (begins row s) (begins-fits row s) (size_fits rows s)
  where
    go : (b : Bool) → (b ≡ true → length row ≤ length s) → size_of rows s ≤ length s → (if b then length row else size_of rows s) ≤ length s
    go true f ih = f refl
    go false f ih = ih

-- what is left is no longer
strip_fits : (rows : List (List Range)) (k : ℕ) (s : List ℕ) → length (strip_from rows k s) ≤ length s
unfolding strip_from
strip_fits rows zero [] = omega arith
strip_fits rows (suc k) [] = omega arith
strip_fits rows (suc k) (x ∷ s) = omega (arith, strip_fits rows k s)
strip_fits rows zero (x ∷ s) =
    let ih = strip_fits rows (size_of rows (x ∷ s) - 1) s in
    by_cases (λ (r : List ℕ). length r ≤ suc (length s)) (eqb (size_of rows (x ∷ s)) 0) _ _ (omega arith) (omega arith)

pub trimmed-fits : (s : List ℕ) → length (trimmed s) ≤ length s
unfolding trimmed trimmed_back trimmed_front
trimmed-fits s =
    let f = strip_from white_bytes 0 s in
    let b = strip_from (backwards white_bytes) 0 (reverse f) in
    omega (arith, strip_fits white_bytes 0 s, strip_fits (backwards white_bytes) 0 (reverse f), length-reverse f, length-reverse b)

skip_drop : (rows : List (List Range)) (k : ℕ) (s : List ℕ) → strip_from rows k s ≡ strip_from rows 0 (drop k s)
unfolding strip_from
skip_drop rows zero [] = refl
skip_drop rows (suc k) [] = refl
skip_drop rows zero (x ∷ s) = refl
skip_drop rows (suc k) (x ∷ s) = skip_drop rows k s

-- what is stripped next
pub strip_on : (rows : List (List Range)) (s : List ℕ) (n : ℕ) → n ≡ size_of rows s → (n ≡ 0 → ⊥) → strip_from rows 0 s ≡ strip_from rows 0 (drop n s)
unfolding strip_from
strip_on rows [] n e z = rw (drop-nil)
strip_on rows (x ∷ s) zero e z = absurd (z refl)
strip_on rows (x ∷ s) (suc n) e z = rw (← e, sub-one, skip_drop rows n s, eqb-suc-zero n)

pub strip_done : (rows : List (List Range)) (s : List ℕ) (n : ℕ) → n ≡ size_of rows s → n ≡ 0 → strip_from rows 0 s ≡ s
unfolding strip_from
strip_done rows [] n e z = refl
strip_done rows (x ∷ s) n e z = rw (← e, z)

-- ---- a text read from the back

pub back_more : (s : List ℕ) (i : ℕ) → 0 < i → i ≤ length s → reverse (take i s) ≡ get_or s (i - 1) 0 ∷ reverse (take (i - 1) s)
back_more s zero h g = absurd (omega arith)
back_more s (suc i) h g = rw (sub-one, take-suc s i 0 (omega arith), reverse-append)

pub back_drop : (s : List ℕ) (i n : ℕ) → i ≤ length s → reverse (take (i - n) s) ≡ drop n (reverse (take i s))
back_drop s i zero h = rw sub-zero
back_drop s zero (suc n) h = let e : 0 - suc n ≡ 0 = omega arith in rw e
back_drop s (suc i) (suc n) h =
    let e : suc i - suc n ≡ i - n = omega arith in
    rw (e, back_more s (suc i) (omega arith) h, sub-one) (back_drop s i n (omega arith))

second-before : (s : List ℕ) (i : ℕ) → i ≤ length s → get_or (reverse (take i s)) 1 0 ≡ get_or (reverse (take (i - 1) s)) 0 0
second-before s zero h = refl
second-before s (suc i) h = rw (back_more s (suc i) (omega arith) h)

-- ---- the size at a place, and before one; for `search` to use

module _ (s : List ℕ) (at n : ℕ) where
  pub at_ascii : at < length s → get_or s at 0 < 0x80 → n ≡ size_of (take 2 white_bytes) (get_or s at 0 ∷ []) → n ≡ size_of white_bytes (drop at s)
  at_ascii h x e = rw (rest_more s at h, front_ascii (get_or s at 0) (drop (at + 1) s) x) e

  pub at_long : 0x80 ≤ get_or s at 0 → (b c : ℕ) → b ≡ get_or s (at + 1) 0 → c ≡ get_or s (at + 2) 0
      → n ≡ size_of (drop 2 white_bytes) (get_or s at 0 ∷ b ∷ c ∷ []) → n ≡ size_of white_bytes (drop at s)
  at_long x b c p q e =
      let z : get_or (drop at s) 0 0 ≡ get_or s at 0 = simp (get_or-drop, add-zero) in
      let w : 0x80 ≤ get_or (drop at s) 0 0 = rw z x in
      rw (front_long (drop at s) w, z, get_or-drop at s 1 0, get_or-drop at s 2 0, ← p, ← q) e

  module _ (h : 0 < at) (g : at ≤ length s) where
    pub before_ascii : get_or s (at - 1) 0 < 0x80 → n ≡ size_of (take 2 white_bytes) (get_or s (at - 1) 0 ∷ []) → n ≡ size_of (backwards white_bytes) (reverse (take at s))
    before_ascii x e = rw (back_more s at h g, back_ascii (get_or s (at - 1) 0) (reverse (take (at - 1) s)) x) e

    pub before_long : 0x80 ≤ get_or s (at - 1) 0 → (b c k : ℕ) → b ≡ get_or (reverse (take (at - 1) s)) 0 0 → k ≡ at - 2 → c ≡ get_or (reverse (take k s)) 0 0
        → n ≡ size_of (drop 2 (backwards white_bytes)) (get_or s (at - 1) 0 ∷ b ∷ c ∷ []) → n ≡ size_of (backwards white_bytes) (reverse (take at s))
    before_long x b c k p l q e =
        let m : k ≡ at - 1 - 1 = omega arith in
        let r = second-before s (at - 1) (omega arith) in
        rw (back_more s at h g, back_long (get_or s (at - 1) 0 ∷ reverse (take (at - 1) s)) x, r, ← m, ← p, ← q) e

pub first-before : (s : List ℕ) (at : ℕ) → (at ≡ 0 → ⊥) → at ≤ length s → get_or s (at - 1) 0 ≡ get_or (reverse (take at s)) 0 0
first-before s at h g = rw (back_more s at (omega arith) g)

pub nothing_before : (s : List ℕ) (at : ℕ) → at ≡ 0 → 0 ≡ get_or (reverse (take at s)) 0 0
nothing_before s at e = rw e

pub at-inside : (s : List ℕ) (at n : ℕ) → n ≡ size_of white_bytes (drop at s) → n ≤ length s - at
at-inside s at n e = omega (arith, size_fits white_bytes (drop at s), length-drop at s)

pub at_end : (s : List ℕ) (at : ℕ) → length s ≤ at → 0 ≡ size_of white_bytes (drop at s)
unfolding size_of white_bytes begins
at_end s at h = rw (rest-none s at h)

pub before-inside : (s : List ℕ) (at n : ℕ) → at ≤ length s → n ≡ size_of (backwards white_bytes) (reverse (take at s)) → n ≤ at
before-inside s at n h e = omega (arith, size_fits (backwards white_bytes) (reverse (take at s)), length-reverse (take at s), length-take at s)

pub ruleset place_steps = (at_ascii, at_long, before_ascii, before_long, first-before, nothing_before, at-inside, at_end, before-inside)

-- ---- ASCII at an end

-- a byte that a row of one byte has is below 0x80, and the row has one byte
blank_size : (a n : ℕ) → n ≡ size_of (take 2 white_bytes) (a ∷ []) → (n ≡ 0 → ⊥) → (a < 0x80) × (n ≡ 1)
unfolding size_of white_bytes begins
blank_size a n e z = go (within 0x09 0x0D a) (within 0x20 0x20 a) (inside 0x09 0x0D a) (inside 0x20 0x20 a) e
  where
    go : (b c : Bool) → (b ≡ true → (0x09 ≤ a) × (a ≤ 0x0D)) → (c ≡ true → (0x20 ≤ a) × (a ≤ 0x20))
        → n ≡ (if b & true then 1 else if c & true then 1 else 0) → (a < 0x80) × (n ≡ 1)
    go true c f g e = (omega (arith, f refl), e)
    go false true f g e = (omega (arith, g refl), e)
    go false false f g e = absurd (z e)

-- one that stands at the front goes
pub blank_on : (s whole : List ℕ) (i n : ℕ) → n ≡ size_of (take 2 white_bytes) (get_or s i 0 ∷ []) → (n ≡ 0 → ⊥) → i < length s → trimmed_front (drop i s) ≡ whole
    → trimmed_front (drop (i + 1) s) ≡ whole
unfolding trimmed_front
blank_on s whole i n e z h q =
    let p = blank_size (get_or s i 0) n e z in
    let l = at_ascii s i n h p.0 e in
    let f : strip_from white_bytes 0 (drop i s) ≡ strip_from white_bytes 0 (drop (i + 1) s) =
    strip_on white_bytes (drop i s) n l z ∙ ap (λ (k : ℕ). strip_from white_bytes 0 (drop k (drop i s))) p.1 ∙ ap (strip_from white_bytes 0) (drop-drop 1 i s) in
    sym f ∙ q

-- an ASCII character above the blank is in no row
plain_size : (a : ℕ) → within 0x21 0x7F a ≡ true → (a < 0x80) × (0 ≡ size_of (take 2 white_bytes) (a ∷ []))
unfolding size_of white_bytes begins
plain_size a e =
    let p = inside 0x21 0x7F a e in
    let n : ◌≡◌ {A = ℕ} 0 (if within 0x09 0x0D a & true then 1 else if within 0x20 0x20 a & true then 1 else 0) =
    rw (within_high 0x09 0x0D a (omega (arith, p.0)), within_high 0x20 0x20 a (omega (arith, p.0))) in
    (omega (arith, p.1), n)

-- so nothing is trimmed there
plain_front : (s : List ℕ) (i : ℕ) → i < length s → within 0x21 0x7F (get_or s i 0) ≡ true → trimmed_front (drop i s) ≡ drop i s
unfolding trimmed_front
plain_front s i h e =
    let p = plain_size (get_or s i 0) e in
    strip_done white_bytes (drop i s) 0 (at_ascii s i 0 h p.0 p.1) refl

plain_back : (s : List ℕ) → 0 < length s → within 0x21 0x7F (get_or s (length s - 1) 0) ≡ true → trimmed_back s ≡ s
unfolding trimmed_back
plain_back s h e =
    let p = plain_size (get_or s (length s - 1) 0) e in
    let t : take (length s) s ≡ s = take-length s in
    let n : 0 ≡ size_of (backwards white_bytes) (reverse s) =
    before_ascii s (length s) 0 h (le_refl (length s)) p.0 p.1 ∙ ap (λ (r : List ℕ). size_of (backwards white_bytes) (reverse r)) t in
    ap reverse (strip_done (backwards white_bytes) (reverse s) 0 n refl) ∙ reverse-reverse s

abbrev pub place : (start len : ℕ) → Place
place start len = record { start = start; len = len }

-- ---- both ends: the front ends at i, the back of what is left begins at j

whole_rest : (s : List ℕ) (i : ℕ) → take (length s - i) (drop i s) ≡ drop i s
whole_rest s i = take_all (length s - i) (drop i s) (omega (arith, length-drop i s))

module _ (s : List ℕ) (i j : ℕ) (h : i ≤ length s) (p : drop i s ≡ trimmed_front s)
    (q : take j (take (length s - i) (drop i s)) ≡ trimmed_back (take (length s - i) (drop i s))) (k : j ≤ length (take (length s - i) (drop i s))) where
  -- the place is the one that is meant
  pub place_is : place i j ≡ trim_place s
  unfolding trim_place trimmed
  place_is =
      let r = whole_rest s i ∙ p in
      let n : i ≡ length s - length (trimmed_front s) = omega (arith, ap length p, length-drop i s) in
      let m : j ≡ length (trimmed_back (trimmed_front s)) =
      sym (length-take-le j (take (length s - i) (drop i s)) k) ∙ ap length q ∙ ap (λ (t : List ℕ). length (trimmed_back t)) r in
      rw (← n, ← m)

-- ---- the place where only ASCII White_Space was passed at the front

module _ (s : List ℕ) (i : ℕ) (h : i ≤ length s) (q : trimmed_front (drop i s) ≡ trimmed_front s) where
  -- and all of the text was
  pub place_none : length s ≤ i → place i 0 ≡ trim_place s
  unfolding trim_place trimmed trimmed_front trimmed_back strip_from
  place_none g =
      let f : [] ≡ strip_from white_bytes 0 s = (rw (rest-none s i g) at q) in
      let e : i ≡ length s = omega arith in
      rw (← f, e, sub-zero (length s))

  -- or what is left stays
  pub place-plain : i < length s → within 0x21 0x7F (get_or s i 0) ≡ true → within 0x21 0x7F (get_or s (length s - 1) 0) ≡ true → place i (length s - i) ≡ trim_place s
  place-plain g x y =
      let p : drop i s ≡ trimmed_front s = sym (plain_front s i g x) ∙ q in
      let n : i + (length (drop i s) - 1) ≡ length s - 1 = omega (arith, length-drop i s) in
      let l : get_or (drop i s) (length (drop i s) - 1) 0 ≡ get_or s (length s - 1) 0 = get_or-drop i s (length (drop i s) - 1) 0 ∙ ap (λ (k : ℕ). get_or s k 0) n in
      let b : trimmed_back (drop i s) ≡ drop i s = plain_back (drop i s) (omega (arith, length-drop i s)) (rw l y) in
      let r = whole_rest s i in
      let k : length s - i ≤ length (take (length s - i) (drop i s)) = rw r (omega (arith, length-drop i s)) in
      place_is s i (length s - i) h p (rw r (whole_rest s i ∙ sym b)) k

-- ---- the place of the trimmed text

-- one byte more in front of what is left off
further : (x : ℕ) (s l : List ℕ) → length l ≤ length s → drop (length s - length l) s ≡ l → drop (suc (length s) - length l) (x ∷ s) ≡ l
further x s l h e = let n : suc (length s) - length l ≡ suc (length s - length l) = omega arith in rw n e

front_drops : (rows : List (List Range)) (k : ℕ) (s : List ℕ) → drop (length s - length (strip_from rows k s)) s ≡ strip_from rows k s
unfolding strip_from
front_drops rows zero [] = refl
front_drops rows (suc k) [] = refl
front_drops rows (suc k) (x ∷ s) = further x s _ (strip_fits rows k s) (front_drops rows k s)
front_drops rows zero (x ∷ s) = go (eqb (size_of rows (x ∷ s)) 0) (further x s _ (strip_fits rows (size_of rows (x ∷ s) - 1) s) (front_drops rows (size_of rows (x ∷ s) - 1) s))
  where
    less : List ℕ
    less = strip_from rows (size_of rows (x ∷ s) - 1) s

    go : (b : Bool) → drop (suc (length s) - length less) (x ∷ s) ≡ less
        → drop (suc (length s) - length (if b then (x ∷ s) else less)) (x ∷ s) ≡ (if b then (x ∷ s) else less)
    go true e = rw (sub_self (suc (length s)))
    go false e = e

back_takes : (s : List ℕ) → take (length (trimmed_back s)) s ≡ trimmed_back s
unfolding trimmed_back
back_takes s =
    let l : List ℕ = strip_from (backwards white_bytes) 0 (reverse s) in
    let n : length (reverse s) ≡ length s = length-reverse s in
    let k : length (reverse l) ≡ length s - (length s - length l) = omega (arith, length-reverse l, strip_fits (backwards white_bytes) 0 (reverse s)) in
    let e : reverse (take (length s - (length s - length l)) s) ≡ l =
    back_drop s (length s) (length s - length l) (le_refl (length s))
    ∙ ap (λ (t : List ℕ). drop (length s - length l) (reverse t)) (take-length s)
    ∙ (rw n at (front_drops (backwards white_bytes) 0 (reverse s))) in
    rw k (sym (reverse-reverse (take (length s - (length s - length l)) s)) ∙ ap reverse e)

-- what stands there is the trimmed text
pub trimmed-part : (s : List ℕ) → part s (trim_place s).start (trim_place s).len ≡ trimmed s
unfolding trim_place trimmed trimmed_front
trimmed-part s = rw (front_drops white_bytes 0 s) (back_takes (strip_from white_bytes 0 s))

-- and stands inside
pub trim-inside : (s : List ℕ) → (trim_place s).start + (trim_place s).len ≤ length s
unfolding trim_place trimmed trimmed_front trimmed_back
trim-inside s =
    let f : List ℕ = strip_from white_bytes 0 s in
    let b : List ℕ = strip_from (backwards white_bytes) 0 (reverse f) in
    omega (arith, strip_fits white_bytes 0 s, strip_fits (backwards white_bytes) 0 (reverse f), length-reverse f, length-reverse b)

-- for `search` to use: of a place that is the trimmed text's
module _ (s : List ℕ) (p : Place) (e : p ≡ trim_place s) where
  pub at_place : part s p.start p.len ≡ trimmed s
  at_place = rw e (trimmed-part s)

  pub place_inside : p.start + p.len ≤ length s
  place_inside = rw e (trim-inside s)

pub ruleset trim_steps = (place_is, place_none, place-plain, at_place, place_inside)
