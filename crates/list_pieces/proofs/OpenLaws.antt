-- The laws of comparing a row of pieces with a pattern, a piece at a time. Assumes nothing.
use Prim.Native.Nat.{ℕ, ◌-◌, ◌≤◌, ◌<◌}
use mathlib.Core.Path.{◌≡◌, refl, sym, ap, ◌∙◌}
use mathlib.Core.Bool.{Bool, true, false, not}
use mathlib.Core.List.{List, [], ◌∷◌, ◌++◌}
use native.Mathlib.Omega.{arith}
use lib.Dec.{eqb}
use lib.ListN.{length, take, drop, length-append, length-drop}
use lib.Seq.{take_all}
use borrow.Author.Tests.{eq-eqb, ne_eqb, eqb-true, eqb-false}
use Rattle.text.specs.Base.{◌&◌}
use Rattle.text.specs.Parts.{starts_with, same_bytes}
use Rattle.text.proofs.LiteralLaws.{other_length}
use Rattle.list_pieces.specs.Pieces.{opens}

-- ---- a pattern, and a value that goes on behind its first bytes

opens_cons : (whole : Bool) (y : ℕ) (l : List ℕ) (x : ℕ) (v : List ℕ) → opens whole (y ∷ l) (x ∷ v) ≡ eqb x y & opens whole l v
unfolding opens starts_with same_bytes
opens_cons true y l x v = refl
opens_cons false y l x v = refl

turned : (x y : ℕ) (b : Bool) → eqb x y ≡ b → eqb y x ≡ b
turned x y true e = eq-eqb y x (sym (eqb-true x y e))
turned x y false e = ne_eqb y x (λ f. eqb-false x y e (sym f))

-- the bytes are no more than the pattern's
pub opens-split : (whole : Bool) (s more l : List ℕ) → length s ≤ length l → opens whole l (s ++ more) ≡ starts_with s l & opens whole (drop (length s) l) more
unfolding starts_with
opens-split whole [] more l h = refl
opens-split whole (x ∷ s) more [] h = absurd (omega arith)
opens-split whole (x ∷ s) more (y ∷ l) h = opens_cons whole y l x (s ++ more) ∙ rw (turned x y (eqb x y) refl) (go (eqb x y) (opens-split whole s more l (omega arith)))
  where
    go : (b : Bool) → opens whole l (s ++ more) ≡ starts_with s l & opens whole (drop (length s) l) more → b & opens whole l (s ++ more) ≡ (b & starts_with s l) & opens whole (drop (length s) l) more
    go true e = e
    go false e = refl

-- they are more
pub opens-within : (s more l : List ℕ) → length l ≤ length s → opens false l (s ++ more) ≡ starts_with l s
unfolding opens starts_with
opens-within s more [] h = refl
opens-within [] more (y ∷ l) h = absurd (omega arith)
opens-within (x ∷ s) more (y ∷ l) h = ap (λ (b : Bool). eqb x y & b) (opens-within s more l (omega arith))

pub opens_longer : (s more l : List ℕ) → length l < length s → opens true l (s ++ more) ≡ false
unfolding opens
opens_longer s more l h = sym (other_length (s ++ more) l (λ e. omega (arith, length-append s more)))

-- at the end of the value
opens_both : (whole : Bool) → opens whole [] [] ≡ true
unfolding opens starts_with same_bytes
opens_both true = refl
opens_both false = refl

opens-none : (whole : Bool) (y : ℕ) (l : List ℕ) → opens whole (y ∷ l) [] ≡ false
unfolding opens starts_with same_bytes
opens-none true y l = refl
opens-none false y l = refl

opens_end : (whole : Bool) (l : List ℕ) → opens whole l [] ≡ eqb (length l) 0
opens_end whole [] = opens_both whole
opens_end whole (y ∷ l) = opens-none whole y l ∙ sym (ne_eqb (length (y ∷ l)) 0 (λ f. omega arith))

-- ---- a turn of the loop

-- s is the piece, `more` is behind it, l is left of the pattern, and b is the answer
module _ (s more l : List ℕ) (whole b : Bool) (e : opens whole l (s ++ more) ≡ b) where
  pub list_longer : whole ≡ true → length l < length s → not whole ≡ b
  list_longer t g = rw t (sym (opens_longer s more l g) ∙ (rw t at e))

  pub list_within : (r : Bool) → r ≡ starts_with l s → not whole ≡ true → length l < length s → r ≡ b
  list_within r f t g = f ∙ sym (opens-within s more l (omega arith)) ∙ (rw (unwhole whole t) at e)
    where
      unwhole : (w : Bool) → not w ≡ true → w ≡ false
      unwhole true t = sym t
      unwhole false t = refl

  module _ (r : Bool) (f : r ≡ starts_with s l) (g : length s ≤ length l) where
    split : r & opens whole (drop (length s) l) more ≡ b
    split = rw f (sym (opens-split whole s more l g) ∙ e)

    pub list_other : r ≡ false → false ≡ b
    list_other t = rw t at split

    pub list_same : r ≡ true → opens whole (take (length l - length s) (drop (length s) l)) more ≡ b
    list_same t = rw (take_all (length l - length s) (drop (length s) l) (omega (arith, length-drop (length s) l))) (rw t at split)

-- nothing is behind the pieces
pub list_over : (l : List ℕ) (whole b : Bool) → opens whole l [] ≡ b → eqb (length l) 0 ≡ b
list_over l whole b e = sym (opens_end whole l) ∙ e

pub ruleset list_turns = (list_over, list_longer, list_within, list_other, list_same)
