-- THE THEOREM OF UTF-8: a list of bytes is well formed by table 3-7 exactly when it is the concatenation of the encodings (table 3-6) of scalar values, and
-- decoding gives those scalar values back. Assumes nothing.
use Prim.Native.Nat.{ℕ, zero, suc, ◌+◌, ◌-◌, ◌*◌, ◌≤◌}
use mathlib.Core.Path.{◌≡◌, refl, sym, ap, ◌∙◌}
use mathlib.Core.Bool.{Bool, true, false}
use mathlib.Core.List.{List, [], ◌∷◌, ◌++◌}
use native.Mathlib.Omega.{arith}
use lib.Dec.{leb}
use lib.ListN.{length}
use borrow.Author.Tests.{leb-true, leb-false}
use Rattle.text.proofs.Scan.{never, both, inside}
use Rattle.characters.proofs.Scalars.{scalar_low, scalar_high, Second3, Class, one, two, three, four, bad, classify, coded, is_1, is_2, is_3, is_4}
use Rattle.text.specs.Base.{◌&◌, within}
use Rattle.text.specs.Utf8.{well_formed_from, well_formed}
use Rattle.text.specs.Unicode.{scalar, all_scalars, encoded, spread, encoded_all, scalars_from, scalars}

-- ---- from scalar values to bytes, and back

-- the encodings of scalar values are well formed
pub encodings_are_well_formed : (cs : List ℕ) → all_scalars cs ≡ true → well_formed (encoded_all cs) ≡ true
unfolding well_formed encoded_all spread all_scalars well_formed_from
encodings_are_well_formed [] v = refl
encodings_are_well_formed (c ∷ cs) v =
    let p = both (scalar c) (all_scalars cs) v in
    (coded c p.0).formed (spread encoded cs) ∙ encodings_are_well_formed cs p.1

-- decoding gives them back
pub encodings_are_decoded : (cs : List ℕ) → all_scalars cs ≡ true → scalars (encoded_all cs) ≡ cs
unfolding scalars encoded_all spread all_scalars scalars_from
encodings_are_decoded [] v = refl
encodings_are_decoded (c ∷ cs) v =
    let p = both (scalar c) (all_scalars cs) v in
    (coded c p.0).decoded (spread encoded cs) ∙ ap (λ (r : List ℕ). c ∷ r) (encodings_are_decoded cs p.1)

-- ---- from well-formed bytes to scalar values

-- bytes that encode scalar values
record Text (s : List ℕ) : Type 0 where
  cs : List ℕ
  valid : all_scalars cs ≡ true
  is : s ≡ encoded_all cs

-- a scalar value more
add : (c : ℕ) (bytes s : List ℕ) → encoded c ≡ bytes → scalar c ≡ true → Text s → Text (bytes ++ s)
unfolding encoded_all spread all_scalars
add c bytes s e v t = record { cs = c ∷ t.cs; valid = rw v t.valid; is = rw (e, t.is) }

-- three bytes encode no surrogate
scalar_3 : (x y z c : ℕ) → Second3 x y → x ≤ 0xEF → 0x80 ≤ z → z ≤ 0xBF → c + 925824 ≡ x * 4096 + y * 64 + z → scalar c ≡ true
scalar_3 x y z c hy hX hz hZ hc = go (leb 15328 (x * 64 + y)) refl
  where
    go : (b : Bool) → leb 15328 (x * 64 + y) ≡ b → scalar c ≡ true
    go true e = let g = hy.gap (leb-true 15328 (x * 64 + y) e) in scalar_high c (omega arith) (omega (arith, hy.high))
    go false e = let g = leb-false 15328 (x * 64 + y) e in scalar_low c (omega arith)

step : (n x : ℕ) (s : List ℕ) → Class x → ((t : List ℕ) → length t ≤ n → well_formed_from [] t ≡ true → Text t) → length s ≤ n → well_formed_from [] (x ∷ s) ≡ true → Text (x ∷ s)
unfolding well_formed_from
step n x s (one hx a) ih h w = add x (x ∷ []) s (is_1 x hx) (scalar_low x (omega arith)) (ih s h (rw (a, well_formed_from) at w))
step n x [] (two hx hX a) ih h w = never (sym (rw (a, well_formed_from) at w))
step n x (y ∷ s) (two hx hX a) ih h w =
    let v : within 0x80 0xBF y & well_formed_from [] s ≡ true = rw (a, well_formed_from) at w in
    let p = both _ _ v in
    let u = inside 0x80 0xBF y p.0 in
    let c : ℕ = (x - 0xC0) * 64 + (y - 0x80) in
    add c (x ∷ y ∷ []) s (is_2 x y c hx hX u.0 u.1 (omega arith)) (scalar_low c (omega arith)) (ih s (omega arith) p.1)
step n x [] (three lo hi hx hX up down a) ih h w = never (sym (rw (a, well_formed_from) at w))
step n x (y ∷ []) (three lo hi hx hX up down a) ih h w =
    let v : within lo hi y & false ≡ true = rw (a, well_formed_from) at w in
    never (sym (both (within lo hi y) false v).1)
step n x (y ∷ z ∷ s) (three lo hi hx hX up down a) ih h w =
    let v : within lo hi y & (within 0x80 0xBF z & well_formed_from [] s) ≡ true = rw (a, well_formed_from) at w in
    let p = both _ _ v in
    let q = both _ _ p.1 in
    let u = inside lo hi y p.0 in
    let t = inside 0x80 0xBF z q.0 in
    let k = up y u.0 u.1 in
    let c : ℕ = (x - 0xE0) * 4096 + (y - 0x80) * 64 + (z - 0x80) in
    let hc : c + 925824 ≡ x * 4096 + y * 64 + z = omega (arith, k.low) in
    add c (x ∷ y ∷ z ∷ []) s (is_3 x y z c hx hX k t.0 t.1 hc) (scalar_3 x y z c k hX t.0 t.1 hc) (ih s (omega arith) q.1)
step n x [] (four lo hi hx hX up down a) ih h w = never (sym (rw (a, well_formed_from) at w))
step n x (b ∷ []) (four lo hi hx hX up down a) ih h w =
    let v : within lo hi b & false ≡ true = rw (a, well_formed_from) at w in
    never (sym (both (within lo hi b) false v).1)
step n x (b ∷ d ∷ []) (four lo hi hx hX up down a) ih h w =
    let v : within lo hi b & (within 0x80 0xBF d & false) ≡ true = rw (a, well_formed_from) at w in
    never (sym (both (within 0x80 0xBF d) false (both (within lo hi b) (within 0x80 0xBF d & false) v).1).1)
step n x (b ∷ d ∷ e ∷ s) (four lo hi hx hX up down a) ih h w =
    let v : within lo hi b & (within 0x80 0xBF d & (within 0x80 0xBF e & well_formed_from [] s)) ≡ true = rw (a, well_formed_from) at w in
    let p = both _ _ v in
    let q = both _ _ p.1 in
    let r = both _ _ q.1 in
    let u = inside lo hi b p.0 in
    let i = inside 0x80 0xBF d q.0 in
    let j = inside 0x80 0xBF e r.0 in
    let k = up b u.0 u.1 in
    let c : ℕ = (x - 0xF0) * 262144 + (b - 0x80) * 4096 + (d - 0x80) * 64 + (e - 0x80) in
    let hc : c + 63447168 ≡ x * 262144 + b * 4096 + d * 64 + e = omega (arith, k.low) in
    add c (x ∷ b ∷ d ∷ e ∷ []) s (is_4 x b d e c hx hX k i.0 i.1 j.0 j.1 hc) (scalar_high c (omega (arith, k.long)) (omega (arith, k.most)))
    (ih s (omega arith) r.1)
step n x s (bad g l a) ih h w = never (sym (rw (a, well_formed_from) at w))

-- by cases on the bytes apart from the recursion on how many there are
from_next : (n : ℕ) (s : List ℕ) → ((t : List ℕ) → length t ≤ n → well_formed_from [] t ≡ true → Text t) → length s ≤ suc n → well_formed_from [] s ≡ true → Text s
unfolding encoded_all spread all_scalars
from_next n [] ih h w = record { cs = []; valid = refl; is = refl }
from_next n (x ∷ s) ih h w = step n x s (classify x) ih (omega arith) w

split : (n : ℕ) (s : List ℕ) → length s ≤ n → well_formed_from [] s ≡ true → Text s
unfolding encoded_all spread all_scalars
split zero s h w = empty s h
  where
    empty : (t : List ℕ) → length t ≤ 0 → Text t
    empty [] k = record { cs = []; valid = refl; is = refl }
    empty (x ∷ t) k = absurd (omega arith)
split (suc n) s h w = from_next n s (λ t k v. split n t k v) h w

-- what well-formed bytes are: the encodings of the scalar values that decoding gives
pub record Decoded (s : List ℕ) : Type 0 where
  pub valid : all_scalars (scalars s) ≡ true
  pub is : s ≡ encoded_all (scalars s)

pub well_formed_are_encodings : (s : List ℕ) → well_formed s ≡ true → Decoded s
unfolding well_formed
well_formed_are_encodings s w =
    let t = split (length s) s (omega arith) w in
    let d : scalars s ≡ t.cs = ap scalars t.is ∙ encodings_are_decoded t.cs t.valid in
    record { valid = ap all_scalars d ∙ t.valid; is = t.is ∙ ap encoded_all (sym d) }
