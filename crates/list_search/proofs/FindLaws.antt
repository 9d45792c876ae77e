-- The laws of looking for a pattern in a row of pieces, a piece at a time: it may begin in one piece and go on in the next. Assumes nothing.
use Prim.Native.Nat.{ℕ, zero, suc, ◌+◌, ◌-◌, ◌≤◌, ◌<◌}
use mathlib.Core.Path.{◌≡◌, refl, sym, ap, ◌∙◌}
use mathlib.Core.Bool.{Bool, true, false}
use mathlib.Core.List.{List, [], ◌∷◌, ◌++◌}
use native.Mathlib.Omega.{arith}
use lib.ListN.{length, get_or, take, drop, length-append, length-drop, get_or-append}
use lib.Seq.{drop-append_seam, drop-append-le, take_all}
use lib.Dec.{eqb}
use Rattle.text.specs.Base.{◌or◌, ◌&◌}
use Rattle.text.specs.Parts.{starts_with}
use Rattle.text.proofs.Scan.{never}
use Rattle.text.specs.Skip.{Without}
use Rattle.verdicts.specs.Decisions.{contains}
use Rattle.finding.proofs.SearchLaws.{none_left, tried, stands, passed}
use Rattle.list_pieces.specs.Pieces.{opens}

-- ---- in a value with more behind it

-- where the pattern fits, what is behind does not matter
starts_fit : (p s more : List ℕ) → length p ≤ length s → starts_with p (s ++ more) ≡ starts_with p s
unfolding starts_with
starts_fit [] s more h = refl
starts_fit (b ∷ p) [] more h = absurd (omega arith)
starts_fit (b ∷ p) (x ∷ s) more h = ap (λ (c : Bool). eqb x b & c) (starts_fit p s more (omega arith))

starts_more : (p s more : List ℕ) → starts_with p s ≡ true → starts_with p (s ++ more) ≡ true
unfolding starts_with
starts_more [] s more t = refl
starts_more (b ∷ p) [] more t = never (sym t)
starts_more (b ∷ p) (x ∷ s) more t = go (eqb x b) (starts_with p s) (starts_with p (s ++ more)) (starts_more p s more) t
  where
    go : (d e f : Bool) → (e ≡ true → f ≡ true) → d & e ≡ true → d & f ≡ true
    go true e f g u = g u
    go false e f g u = u

contains_more : (p s more : List ℕ) → (length p ≡ 0 → ⊥) → contains p s ≡ true → contains p (s ++ more) ≡ true
unfolding contains starts_with
contains_more p [] more n t = absurd (n (starts_none p t))
  where
    starts_none : (p : List ℕ) → starts_with p [] ≡ true → length p ≡ 0
    starts_none [] t = refl
    starts_none (b ∷ p) t = never (sym t)
contains_more p (x ∷ s) more n t = go (starts_with p (x ∷ s)) (starts_with p ((x ∷ s) ++ more)) (contains p s) (contains p (s ++ more)) (starts_more p (x ∷ s) more) (contains_more p s more n) t
  where
    go : (a b d e : Bool) → (a ≡ true → b ≡ true) → (d ≡ true → e ≡ true) → a or d ≡ true → b or e ≡ true
    go a true d e f g u = refl
    go true false d e f g u = never (sym (f refl))
    go false false d e f g u = g u

-- a pattern that does not stand in the value does not begin at a place from which it would end there
fits-nowhere : (p s more : List ℕ) (k : ℕ) → contains p s ≡ false → (0 < k → k + length p ≤ length s + 1) → (length p ≡ 0 → ⊥) → contains p (drop k (s ++ more)) ≡ contains p (s ++ more)
unfolding contains
fits-nowhere p s more zero f h n = refl
fits-nowhere p [] more (suc k) f h n = absurd (n (omega (arith, h (omega arith))))
fits-nowhere p (x ∷ s) more (suc k) f h n =
    let l = h (omega arith) in
    let d : starts_with p (x ∷ s) ≡ false = or_first (starts_with p (x ∷ s)) (contains p s) f in
    let e : contains p s ≡ false = or_second (starts_with p (x ∷ s)) (contains p s) f in
    fits-nowhere p s more k e (λ (g : 0 < k). omega arith) n ∙ sym (rw (starts_fit p (x ∷ s) more (omega arith) ∙ d))
  where
    or_first : (a b : Bool) → a or b ≡ false → a ≡ false
    or_first true b e = never e
    or_first false b e = refl

    or_second : (a b : Bool) → a or b ≡ false → b ≡ false
    or_second true b e = never e
    or_second false b e = e

-- ---- in one piece

module _ (p piece more : List ℕ) (g : 0 < length p) where
  some : length p ≡ 0 → ⊥
  some e = omega arith

  inside : (i : ℕ) → i ≤ length piece → i ≤ length (piece ++ more)
  inside i l = omega (arith, length-append piece more)

  -- a byte that does not stand in the piece does not stand in the row, up to its end
  without : (b i r : ℕ) → r ≤ length piece → Without b piece i r → Without b (piece ++ more) i r
  unfolding Without
  without b i r l w k m n e = w k m n (sym (get_or-append piece more 0 k (omega arith)) ∙ e)

  module _ (b : Bool) (f : b ≡ contains p piece) where
    pub piece_whole : b ≡ true → contains p (piece ++ more) ≡ true
    piece_whole t = contains_more p piece more some (sym f ∙ t)

    pub piece_begun : (i r : ℕ) → b ≡ false → i ≤ r → r ≤ length piece → (0 < i → i + length p ≤ length piece + 1) → Without (get_or p 0 0) piece i r → contains p (drop r (piece ++ more)) ≡ contains p (piece ++ more)
    piece_begun i r t m l h w =
        passed p (piece ++ more) i r some m (inside r l) (without (get_or p 0 0) i r l w)
        ∙ fits-nowhere p piece more i (sym f ∙ t) h some

  module _ (i : ℕ) (e : contains p (drop i (piece ++ more)) ≡ contains p (piece ++ more)) where
    pub piece_over : i ≤ length piece → length piece ≤ i → contains p (piece ++ more) ≡ contains p more
    piece_over l m =
        let d : i ≡ length piece = omega arith in
        sym e ∙ ap (λ (s : List ℕ). contains p s) (ap (λ (k : ℕ). drop k (piece ++ more)) d ∙ drop-append_seam piece more)

    -- another byte stands here
    pub piece_other : (r : ℕ) → (get_or piece i 0 ≡ get_or p 0 0 → ⊥) → i + 1 ≤ r → r ≤ length piece → Without (get_or p 0 0) piece (i + 1) r → contains p (drop r (piece ++ more)) ≡ contains p (piece ++ more)
    unfolding Without
    piece_other r d l k w =
        passed p (piece ++ more) (i + 1) r some l (inside r k) (without (get_or p 0 0) (i + 1) r k w)
        ∙ passed p (piece ++ more) i (i + 1) some (omega arith) (inside (i + 1) (omega arith)) (without (get_or p 0 0) i (i + 1) (omega arith) here)
        ∙ e
      where
        here : Without (get_or p 0 0) piece i (i + 1)
        here m a c x = let z : m ≡ i = omega arith in d (rw z at x)

    -- b says whether the pattern stands here
    module _ (b : Bool) (f : b ≡ opens false p (take (length piece - i) (drop i piece) ++ more)) (m : i < length piece) where
      stood : b ≡ starts_with p (drop i (piece ++ more))
      unfolding opens
      stood = rw (drop-append-le i piece more (omega arith), ← take_all (length piece - i) (drop i piece) (omega (arith, length-drop i piece))) f

      pub piece_here : b ≡ true → contains p (piece ++ more) ≡ true
      piece_here t = sym e ∙ stands p (piece ++ more) i some (omega (arith, inside (i + 1) (omega arith))) (sym stood ∙ t)

      pub piece_later : (r : ℕ) → b ≡ false → i + 1 ≤ r → r ≤ length piece → Without (get_or p 0 0) piece (i + 1) r → contains p (drop r (piece ++ more)) ≡ contains p (piece ++ more)
      piece_later r t l k w =
          passed p (piece ++ more) (i + 1) r some l (inside r k) (without (get_or p 0 0) (i + 1) r k w)
          ∙ sym (tried p (piece ++ more) i some (omega (arith, inside (i + 1) (omega arith))) (sym stood ∙ t))
          ∙ e

pub ruleset piece_turns = (piece_whole, piece_begun, piece_other, piece_over, piece_here, piece_later)

-- ---- in all of them

-- b says whether the pattern stands in the first of the pieces that are left
module _ (p : List ℕ) (old piece more : List ℕ) (whole b : Bool) (e : contains p old ≡ whole) (d : old ≡ piece ++ more) (f : contains p (piece ++ more) ≡ b or contains p more) where
  pub list_here : b ≡ true → true ≡ whole
  list_here t = rw t at (sym f ∙ ap (contains p) (sym d) ∙ e)

  pub list_later : b ≡ false → contains p more ≡ whole
  list_later t = rw t at (sym f ∙ ap (contains p) (sym d) ∙ e)

-- none is left
pub list_ended : (p : List ℕ) (whole : Bool) → (length p ≡ 0 → ⊥) → contains p [] ≡ whole → false ≡ whole
list_ended p whole n e = sym (none_left p [] 0 n (omega arith)) ∙ e
