-- What the library says of equal slices, of a slice's front and of its last element, in the words of this project. Assumes nothing.
use Rattle.std.specs.Prelude.{None, Option, Some}
use Rattle.std.specs.Option.{option_copied, option_eq}
use Rattle.std.specs.List.{slice_get}
use Rattle.std.specs.Cmp.Lexicographic.{pointwise}
use Prim.Native.Nat.{ℕ, ◌-◌}
use mathlib.Core.Path.{◌≡◌, refl}
use mathlib.Core.Bool.{Bool, true, false, ◌&&◌}
use mathlib.Core.List.{List, [], ◌∷◌}
use native.Mathlib.Numerals.{sub-one}
use denote.Ref.{Bor}
use lib.Dec.{eqb}
use lib.ListN.{length, take}
use Rattle.text.specs.Base.{◌&◌}
use Rattle.text.specs.Parts.{starts_with, ends_with, same_bytes}
use Rattle.text.proofs.LiteralLaws.{eqb_sym}

-- the library's conjunction is ours
pub both_ways : (t : Bool) {a b : Bool} → a ≡ b → (t && a) ≡ t & b
both_ways true e = e
both_ways false e = refl

pub same_is : (a b : List ℕ) → pointwise eqb a b ≡ same_bytes a b
unfolding same_bytes
same_is [] [] = refl
same_is [] (y ∷ b) = refl
same_is (x ∷ a) [] = refl
same_is (x ∷ a) (y ∷ b) = both_ways (eqb x y) (same_is a b)

pub front_is : (p s : List ℕ) → pointwise eqb p (take (length p) s) ≡ starts_with p s
unfolding starts_with
front_is [] s = refl
front_is (x ∷ p) [] = refl
front_is (x ∷ p) (y ∷ s) = rw (eqb_sym x y) (both_ways (eqb y x) (front_is p s))

last_of : (s : List ℕ) (b : ℕ) → option_eq eqb (slice_get s (length s - 1)) (Some b) ≡ ends_with s b
unfolding ends_with
last_of [] b = refl
last_of (x ∷ []) b = refl
last_of (x ∷ y ∷ s) b = rw sub-one (rw sub-one at (last_of (y ∷ s) b))

pub last_is : (s : List ℕ) (r : Option (Bor ℕ)) (b : Bor ℕ) → option_copied r ≡ slice_get s (length s - 1)
    → option_eq (λ x y. eqb x.now y.now) r (Some b) ≡ ends_with s b.now
last_is s None b e = rw (← e) at (last_of s b.now)
last_is s (Some x) b e = rw (← e) at (last_of s b.now)
