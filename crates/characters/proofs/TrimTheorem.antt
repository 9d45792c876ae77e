-- THE THEOREM OF TRIMMING: of the encodings of scalar values, and so of any well-formed text, trimming the bytes is trimming the scalar values; so what is
-- trimmed is well formed again. Assumes nothing.
use Prim.Native.Nat.{ℕ, ◌≤◌}
use mathlib.Core.Path.{◌≡◌, refl, sym, ap, ◌∙◌}
use mathlib.Core.Bool.{Bool, true, false}
use mathlib.Core.List.{List, [], ◌∷◌, ◌++◌, append_assoc, append-nil, reverse, reverse-append, reverse-reverse}
use native.Mathlib.Omega.{arith}
use lib.ListN.{length, length-reverse}
use lib.Seq.{drop-append_seam}
use Rattle.text.proofs.Scan.{both, by_cases}
use Rattle.characters.proofs.Scalars.{coded}
use Rattle.text.proofs.TrimLaws.{strip_on, strip_done}
use Rattle.characters.proofs.TrimChars.{off}
use Rattle.std.specs.Prelude.{if◌then◌else◌}
use Rattle.text.specs.Utf8.{Range}
use Rattle.text.specs.Unicode.{scalar, all_scalars, encoded, spread, encoded_all, white}
use Rattle.text.specs.Trim.{front_trimmed, scalars_trimmed, white_bytes, backwards, size_of, strip_from, trimmed_front, trimmed_back, trimmed}

-- ---- one end: by the rows, and how a scalar value is written when read from that end

module _ (rows : List (List Range)) (written : ℕ → List ℕ)
    (taken : (c : ℕ) → scalar c ≡ true → (s : List ℕ) → size_of rows (written c ++ s) ≡ off c (length (written c)))
    (size : (c : ℕ) → scalar c ≡ true → 1 ≤ length (written c)) where
  stripped : (cs : List ℕ) → all_scalars cs ≡ true → strip_from rows 0 (spread written cs) ≡ spread written (front_trimmed cs)
  unfolding spread front_trimmed all_scalars strip_from
  stripped [] v = refl
  stripped (c ∷ cs) v = let p = both (scalar c) (all_scalars cs) v in go (white c) refl p.0 (stripped cs p.1)
    where
      go : (b : Bool) → white c ≡ b → scalar c ≡ true → strip_from rows 0 (spread written cs) ≡ spread written (front_trimmed cs)
          → strip_from rows 0 (written c ++ spread written cs) ≡ spread written (if b then front_trimmed cs else (c ∷ cs))
      go true w v ih =
          let e : length (written c) ≡ size_of rows (written c ++ spread written cs) = sym (rw w at (taken c v (spread written cs))) in
          strip_on rows (written c ++ spread written cs) (length (written c)) e (λ z. omega (arith, size c v)) ∙ rw (drop-append_seam (written c) (spread written cs)) ih
      go false w v ih =
          let e : 0 ≡ size_of rows (written c ++ spread written cs) = sym (rw w at (taken c v (spread written cs))) in
          strip_done rows (written c ++ spread written cs) 0 e refl

-- ---- both ends

abbrev backwards_of : ℕ → List ℕ
backwards_of c = reverse (encoded c)

spread-append : (f : ℕ → List ℕ) (xs ys : List ℕ) → spread f (xs ++ ys) ≡ spread f xs ++ spread f ys
unfolding spread
spread-append f [] ys = refl
spread-append f (a ∷ xs) ys = rw (spread-append f xs ys) (sym (append_assoc (f a) (spread f xs) (spread f ys)))

-- the encodings read from the back
spread-reverse : (cs : List ℕ) → reverse (spread encoded cs) ≡ spread backwards_of (reverse cs)
unfolding spread
spread-reverse [] = refl
spread-reverse (c ∷ cs) =
    reverse-append (encoded c) (spread encoded cs)
    ∙ ap (λ (r : List ℕ). r ++ reverse (encoded c)) (spread-reverse cs)
    ∙ sym (ap (λ (r : List ℕ). spread backwards_of (reverse cs) ++ r) (append-nil (reverse (encoded c))))
    ∙ sym (spread-append backwards_of (reverse cs) (c ∷ []))
    ∙ ap (λ (r : List ℕ). spread backwards_of r) (sym (reverse-append (c ∷ []) cs))

-- all are scalar values still, with some left out at the front, and from the back
front_scalars : (cs : List ℕ) → all_scalars cs ≡ true → all_scalars (front_trimmed cs) ≡ true
unfolding front_trimmed all_scalars
front_scalars [] v = refl
front_scalars (c ∷ cs) v = by_cases (λ (r : List ℕ). all_scalars r ≡ true) (white c) _ _ (front_scalars cs (both (scalar c) (all_scalars cs) v).1) v

scalars-append : (xs ys : List ℕ) → all_scalars xs ≡ true → all_scalars ys ≡ true → all_scalars (xs ++ ys) ≡ true
unfolding all_scalars
scalars-append [] ys v w = w
scalars-append (a ∷ xs) ys v w = let p = both (scalar a) (all_scalars xs) v in rw p.0 (scalars-append xs ys p.1 w)

scalars-reverse : (cs : List ℕ) → all_scalars cs ≡ true → all_scalars (reverse cs) ≡ true
unfolding all_scalars
scalars-reverse [] v = refl
scalars-reverse (c ∷ cs) v =
    let p = both (scalar c) (all_scalars cs) v in
    rw (reverse-append (c ∷ []) cs) (scalars-append (reverse cs) (c ∷ []) (scalars-reverse cs p.1) (rw p.0))

pub both_scalars : (cs : List ℕ) → all_scalars cs ≡ true → all_scalars (scalars_trimmed cs) ≡ true
unfolding scalars_trimmed
both_scalars cs v = scalars-reverse _ (front_scalars _ (scalars-reverse _ (front_scalars cs v)))

at_front : (cs : List ℕ) → all_scalars cs ≡ true → trimmed_front (spread encoded cs) ≡ spread encoded (front_trimmed cs)
unfolding trimmed_front
at_front cs v = stripped white_bytes encoded (λ c e. (coded c e).front) (λ c e. (coded c e).size) cs v

at_back : (cs : List ℕ) → all_scalars cs ≡ true → trimmed_back (spread encoded cs) ≡ spread encoded (reverse (front_trimmed (reverse cs)))
unfolding trimmed_back
at_back cs v =
    ap reverse
    (ap (strip_from (backwards white_bytes) 0) (spread-reverse cs)
    ∙ stripped (backwards white_bytes) backwards_of (λ c e s. (coded c e).back s ∙ ap (off c) (sym (length-reverse (encoded c))))
    (λ c e. rw (length-reverse (encoded c)) (coded c e).size) (reverse cs) (scalars-reverse cs v)
    ∙ ap (spread backwards_of) (sym (reverse-reverse (front_trimmed (reverse cs))))
    ∙ sym (spread-reverse (reverse (front_trimmed (reverse cs)))))
    ∙ reverse-reverse (spread encoded (reverse (front_trimmed (reverse cs))))

-- trimming the encodings is encoding the trimmed
pub trimmed_encodings : (cs : List ℕ) → all_scalars cs ≡ true → trimmed (encoded_all cs) ≡ encoded_all (scalars_trimmed cs)
unfolding trimmed encoded_all scalars_trimmed
trimmed_encodings cs v = ap trimmed_back (at_front cs v) ∙ at_back (front_trimmed cs) (front_scalars cs v)
