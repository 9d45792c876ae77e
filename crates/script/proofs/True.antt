-- Every piece is true: what is done to a piece is done to its bytes, and the place that a record keeps of it has its bytes. Assumes nothing.
use Prim.Native.Nat.{ℕ, zero, suc, ◌+◌, ◌-◌, ◌≤◌}
use mathlib.Core.Path.{◌≡◌, refl, sym, ◌∙◌}
use mathlib.Core.List.{List, [], ◌∷◌}
use native.Mathlib.Omega.{arith}
use native.Mathlib.Nat.{sub-zero, zero-sub, suc-sub-suc, add-sub_cancel_left}
use lib.ListN.{take, drop}
use lib.Seq.{take-take, take-nil, drop-drop}
use Rattle.text.specs.Base.{part}
use Rattle.text.specs.Trim.{trimmed, trim_place}
use Rattle.text.specs.Parts.{span}
use Rattle.text.specs.declared.parts.Span.{Span}
use Rattle.text.proofs.TrimLaws.{trim-inside, trimmed-part}
use Rattle.script.specs.Pieces.{place_of, place, bytes, trim, inner, cut_at}
use Rattle.script.specs.Inside.{In}
use Rattle.script.proofs.Inside.{length-bytes}

drop-take : (n m : ℕ) (l : List ℕ) → drop n (take m l) ≡ take (m - n) (drop n l)
drop-take zero m l = rw (sub-zero m) refl
drop-take (suc n) zero l = rw (zero-sub (suc n)) refl
drop-take (suc n) (suc m) [] = sym (take-nil (suc m - suc n))
drop-take (suc n) (suc m) (x ∷ l) = rw (suc-sub-suc m n) (drop-take n m l)

-- n bytes of a piece from its a-th byte on
pub part-true : (text : List ℕ) (p : Span) (a n : ℕ) → a + n ≤ p.end - p.start → bytes text (span (p.start + a) (p.start + a + n)) ≡ part (bytes text p) a n
unfolding bytes
part-true text p a n h =
    rw (add-sub_cancel_left (p.start + a) n, drop-take a (p.end - p.start) (drop p.start text), drop-drop a p.start text)
    (sym (take-take n (p.end - p.start - a) (drop (p.start + a) text) (omega arith)))

-- the bytes of a piece behind its first a
pub behind-true : (text : List ℕ) (p : Span) (a : ℕ) → bytes text (span (p.start + a) p.end) ≡ drop a (bytes text p)
unfolding bytes
behind-true text p a =
    let e : p.end - (p.start + a) ≡ p.end - p.start - a = omega arith in
    rw (e, drop-take a (p.end - p.start) (drop p.start text), drop-drop a p.start text)

-- a trimmed piece has the trimmed bytes
pub trim-true : (text : List ℕ) (p : Span) → In text p → bytes text (trim text p) ≡ trimmed (bytes text p)
unfolding trim
trim-true text p i =
    let t = trim_place (bytes text p) in
    part-true text p t.start t.len (omega (arith, trim-inside (bytes text p), length-bytes text p i)) ∙ trimmed-part (bytes text p)

-- a piece cut at its n-th byte: the bytes before, and those behind
module _ (text : List ℕ) (p : Span) (n : ℕ) where
  pub before-true : n ≤ p.end - p.start → bytes text (cut_at p n).before ≡ take n (bytes text p)
  unfolding cut_at
  before-true h =
      let e : p.start + 0 ≡ p.start = omega arith in
      rw e at (part-true text p 0 n (omega arith))

  pub after-true : bytes text (cut_at p n).after ≡ drop (n + 1) (bytes text p)
  unfolding cut_at
  after-true = let e : p.start + n + 1 ≡ p.start + (n + 1) = omega arith in rw e (behind-true text p (n + 1))

-- a piece without its first and its last byte
pub inner-true : (text : List ℕ) (p : Span) → 2 ≤ p.end - p.start → bytes text (inner p) ≡ part (bytes text p) 1 (p.end - p.start - 2)
unfolding inner
inner-true text p h =
    let e : p.start + 1 + (p.end - p.start - 2) ≡ p.end - 1 = omega arith in
    rw e at (part-true text p 1 (p.end - p.start - 2) (omega arith))

-- the place that is kept of a piece has the bytes of the piece
pub place-true : (text : List ℕ) (p : Span) → part text (place p).start (place p).len ≡ bytes text p
unfolding place place_of bytes
place-true text p = go (p.end - p.start)
  where
    go : (n : ℕ) → part text (place_of p.start n).start (place_of p.start n).len ≡ part text p.start n
    go zero = refl
    go (suc n) = refl
