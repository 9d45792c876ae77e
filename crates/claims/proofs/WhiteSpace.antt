-- Trimming the characters of a text takes off exactly the White_Space at both ends. Assumes nothing.
use Prim.Native.Nat.{ℕ}
use mathlib.Core.Path.{◌≡◌, refl, sym, ap, ◌∙◌}
use mathlib.Core.Bool.{Bool, true, false}
use mathlib.Core.List.{List, [], ◌∷◌, ◌++◌, reverse, reverse-append, reverse-reverse}
use Rattle.std.specs.Prelude.{if◌then◌else◌}
use Rattle.text.specs.Unicode.{white}
use Rattle.text.specs.Trim.{front_trimmed, scalars_trimmed}
use Rattle.text.proofs.Scan.{both}
use Rattle.claims.specs.WhiteSpace.{all_white, begins_white, Trimmed}

-- ---- at the front

record Front (cs kept : List ℕ) : Type 0 where
  cut : List ℕ
  parts : cs ≡ cut ++ kept
  is_all_white : all_white cut ≡ true

front : (cs : List ℕ) → Front cs (front_trimmed cs)
unfolding front_trimmed all_white
front [] = record { cut = []; parts = refl; is_all_white = refl }
front (c ∷ cs) = go (white c) refl (front cs)
  where
    go : (b : Bool) → white c ≡ b → Front cs (front_trimmed cs) → Front (c ∷ cs) (if b then front_trimmed cs else (c ∷ cs))
    go true e f = record { cut = c ∷ f.cut; parts = ap (λ (r : List ℕ). c ∷ r) f.parts; is_all_white = rw e f.is_all_white }
    go false e f = record { cut = []; parts = refl; is_all_white = refl }

begins_otherwise : (cs : List ℕ) → begins_white (front_trimmed cs) ≡ false
unfolding front_trimmed begins_white
begins_otherwise [] = refl
begins_otherwise (c ∷ cs) = go (white c) refl (begins_otherwise cs)
  where
    go : (b : Bool) → white c ≡ b → begins_white (front_trimmed cs) ≡ false → begins_white (if b then front_trimmed cs else (c ∷ cs)) ≡ false
    go true e ih = ih
    go false e ih = e

-- ---- at both ends

white-append : (xs ys : List ℕ) → all_white xs ≡ true → all_white ys ≡ true → all_white (xs ++ ys) ≡ true
unfolding all_white
white-append [] ys v w = w
white-append (x ∷ xs) ys v w = let p = both (white x) (all_white xs) v in rw p.0 (white-append xs ys p.1 w)

white-reverse : (cs : List ℕ) → all_white cs ≡ true → all_white (reverse cs) ≡ true
unfolding all_white
white-reverse [] v = refl
white-reverse (c ∷ cs) v =
    let p = both (white c) (all_white cs) v in
    rw (reverse-append (c ∷ []) cs) (white-append (reverse cs) (c ∷ []) (white-reverse cs p.1) (rw p.0))

begins-part : (xs ys : List ℕ) → begins_white (xs ++ ys) ≡ false → begins_white xs ≡ false
unfolding begins_white
begins-part [] ys h = refl
begins-part (x ∷ xs) ys h = h

pub trimmed-is : (cs : List ℕ) → Trimmed cs (scalars_trimmed cs)
unfolding scalars_trimmed
trimmed-is cs =
    let t : List ℕ = front_trimmed cs in
    let k : List ℕ = front_trimmed (reverse t) in
    let f = front cs in
    let b = front (reverse t) in
    let e : t ≡ reverse k ++ reverse b.cut = sym (reverse-reverse t) ∙ ap reverse b.parts ∙ reverse-append b.cut k in
    record {
      before = f.cut;
      after = reverse b.cut;
      parts = f.parts ∙ ap (λ (r : List ℕ). f.cut ++ r) e;
      white-before = f.is_all_white;
      white-after = white-reverse b.cut b.is_all_white;
      begins = begins-part (reverse k) (reverse b.cut) (ap begins_white (sym e) ∙ begins_otherwise cs);
      ends = ap begins_white (reverse-reverse k) ∙ begins_otherwise (reverse t);
    }
