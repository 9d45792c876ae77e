-- What the library calls UTF-8, the encodings of characters, is what table 3-7 calls well formed. Assumes nothing.
use Prim.Native.Nat.{ℕ, suc}
use mathlib.Core.Path.{◌≡◌, refl, sym, ap, ◌∙◌}
use mathlib.Core.Bool.{Bool, true, false}
use mathlib.Core.List.{List, [], ◌∷◌}
use native.Mathlib.Omega.{arith}
use lib.Dec.{leb, ltb}
use lib.Utf8.{scalar as scalar_std, scalars as scalars_std, encode, encodes}
use borrow.Author.Tests.{leb-true, leb-false, lt-ltb, le-ltb, le-leb}
use Rattle.std.specs.Prelude.{Ok, Err, Result, is_ok, MatchResult}
use Rattle.std.specs.Str.{IsUtf8}
use Rattle.characters.proofs.Unicode.{encodings_are_well_formed, well_formed_are_encodings}
use Rattle.text.proofs.Scan.{and_false}
use Rattle.text.proofs.StdLaws.{both_ways}
use Rattle.text.specs.Base.{within}
use Rattle.text.specs.Unicode.{scalar, all_scalars, encoded, spread, encoded_all, scalars}
use Rattle.text.specs.Utf8.{well_formed}

encode_is : (c : ℕ) → encode c ≡ encoded c
unfolding encode encoded
encode_is c = refl

encodes_are : (cs : List ℕ) → encodes cs ≡ encoded_all cs
unfolding encoded_all spread
encodes_are [] = refl
encodes_are (c ∷ cs) = rw (encode_is c, encodes_are cs)

below : (c n : ℕ) → ltb c (suc n) ≡ leb c n
below c n = go (leb c n) refl
  where
    go : (b : Bool) → leb c n ≡ b → ltb c (suc n) ≡ b
    go true e = lt-ltb c (suc n) (omega (arith, leb-true c n e))
    go false e = le-ltb c (suc n) (omega (arith, leb-false c n e))

scalar_is : (c : ℕ) → scalar_std c ≡ scalar c
unfolding scalar within
scalar_is c = go (leb c 0xD7FF) refl
  where
    go : (low : Bool) → leb c 0xD7FF ≡ low → scalar_std c ≡ scalar c
    go true l = let h = leb-true c 0xD7FF l in rw (below c 0xD7FF, l, le-leb 0 c (omega arith))
    go false l = rw (below c 0xD7FF, below c 0x10_FFFF, l, and_false (leb 0 c)) (both_ways (leb 0xE000 c) refl)

scalars_are : (cs : List ℕ) → scalars_std cs ≡ all_scalars cs
unfolding all_scalars
scalars_are [] = refl
scalars_are (c ∷ cs) = rw (scalar_is c) (both_ways (scalar c) (scalars_are cs))

yes : (s : List ℕ) → IsUtf8 s → true ≡ well_formed s
yes s h = sym (ap well_formed (sym h.1.1 ∙ encodes_are h.0) ∙ encodings_are_well_formed h.0 (sym (scalars_are h.0) ∙ h.1.0))

is_utf8 : (s : List ℕ) → well_formed s ≡ true → IsUtf8 s
is_utf8 s w = let d = well_formed_are_encodings s w in (scalars s, (scalars_are (scalars s) ∙ d.valid, encodes_are (scalars s) ∙ sym d.is))

-- the library's answer
pub answers : {A E : Type 0} (P : A → Type 0) (Q : E → Type 0) (s : List ℕ) (r : Result A E) → MatchResult r (λ t. P t × IsUtf8 s) (λ e. (IsUtf8 s → ⊥) × Q e) → is_ok r ≡ well_formed s
answers P Q s (Ok t) h = yes s h.1
answers P Q s (Err e) h = go (well_formed s) refl
  where
    go : (b : Bool) → well_formed s ≡ b → false ≡ b
    go true w = absurd (h.0 (is_utf8 s w))
    go false w = refl
