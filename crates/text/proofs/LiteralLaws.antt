-- A word of a definition is a quoted text; a word of the code is a list of bytes. Assumes nothing.
use Prim.Native.Nat.{ℕ, suc}
use Prim.Native.Char.{code}
use Prim.Native.String.{String, [] as []ˢ, ◌∷◌ as ◌∷ˢ◌}
use mathlib.Core.Path.{◌≡◌, refl, sym, ap, ◌∙◌}
use mathlib.Core.Bool.{Bool, true, false}
use mathlib.Core.List.{List, [], ◌∷◌}
use lib.Dec.{eqb}
use lib.ListN.{length}
use borrow.Author.Tests.{eq-eqb, ne_eqb, eqb-true, eqb-false}
use Rattle.text.proofs.Scan.{and_false}
use Rattle.std.specs.Prelude.{if◌then◌else◌}
use Rattle.text.specs.Base.{◌&◌}
use Rattle.text.specs.Literal.{spells, begins_with, word_length}
use Rattle.text.specs.Parts.{starts_with, same_bytes}

-- the bytes of a word
abbrev pub codes : String → List ℕ
codes []ˢ = []
codes (c ∷ˢ w) = code c ∷ codes w

pub eqb_sym : (a b : ℕ) → eqb a b ≡ eqb b a
eqb_sym a b = go (eqb b a) refl
  where
    go : (t : Bool) → eqb b a ≡ t → eqb a b ≡ t
    go true e = eq-eqb a b (sym (eqb-true b a e))
    go false e = ne_eqb a b (λ f. eqb-false b a e (sym f))

pub spells_as : (w : String) (s : List ℕ) → spells w s ≡ same_bytes s (codes w)
unfolding spells same_bytes
spells_as []ˢ [] = refl
spells_as []ˢ (x ∷ s) = refl
spells_as (c ∷ˢ w) [] = refl
spells_as (c ∷ˢ w) (x ∷ s) = rw (eqb_sym (code c) x) (go (eqb x (code c)) (spells_as w s))
  where
    go : (b : Bool) → spells w s ≡ same_bytes s (codes w) → (if b then spells w s else false) ≡ b & same_bytes s (codes w)
    go true ih = ih
    go false ih = refl

pub begins_as : (w : String) (s : List ℕ) → begins_with w s ≡ starts_with (codes w) s
unfolding begins_with starts_with
begins_as []ˢ s = refl
begins_as (c ∷ˢ w) [] = refl
begins_as (c ∷ˢ w) (x ∷ s) = rw (eqb_sym (code c) x) (go (eqb x (code c)) (begins_as w s))
  where
    go : (b : Bool) → begins_with w s ≡ starts_with (codes w) s → (if b then begins_with w s else false) ≡ b & starts_with (codes w) s
    go true ih = ih
    go false ih = refl

pub length_as : (w : String) → word_length w ≡ length (codes w)
unfolding word_length
length_as []ˢ = refl
length_as (c ∷ˢ w) = ap suc (length_as w)

-- lists of other lengths are not the same
pub other_length : (a b : List ℕ) → (length a ≡ length b → ⊥) → false ≡ same_bytes a b
unfolding same_bytes
other_length [] [] n = absurd (n refl)
other_length [] (y ∷ b) n = refl
other_length (x ∷ a) [] n = refl
other_length (x ∷ a) (y ∷ b) n = sym (and_false (eqb x y)) ∙ ap (λ (t : Bool). eqb x y & t) (other_length a b (λ e. n (ap suc e)))
