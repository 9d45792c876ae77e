-- From a loop over the places of a slice to a definition by recursion over the list of its bytes: the laws that the proofs share.
-- Assumes nothing.
use mathlib.Core.Path.{◌≡◌, refl, sym, ap, ◌∙◌}
use mathlib.Core.Bool.{Bool, true, false}
use mathlib.Core.List.{List, [], ◌∷◌, ◌++◌, append_assoc, append-nil}
use native.Mathlib.Nat.{add-zero}
use Prim.Native.Nat.{ℕ, suc, ◌+◌, ◌-◌, ◌≤◌, ◌<◌}
use native.Mathlib.Numerals.{add-one}
use native.Mathlib.Omega.{arith}
use lib.Dec.{leb}
use lib.ListN.{length, get_or, take, drop, set, drop_of_length-le}
use lib.Seq.{drop-cons, take-suc-set, take_all}
use borrow.Author.Tests.{le-leb, lt-leb, leb-true}
use Rattle.std.specs.Prelude.{if◌then◌else◌}
use Rattle.text.specs.Base.{◌&◌, within}

-- at a place inside, the rest of a text is the byte there and the rest from the next place
pub rest_more : (text : List ℕ) (i : ℕ) → i < length text → drop i text ≡ get_or text i 0 ∷ drop (i + 1) text
rest_more text i h = rw (add-one, drop-cons text i 0)

-- at the end or past it, nothing is left
pub rest-none : (text : List ℕ) (i : ℕ) → length text ≤ i → drop i text ≡ []
rest-none text i h = drop_of_length-le text h

-- the rest from n on, of a rest that begins at `at`
pub shift : (x : ℕ) (rest : List ℕ) (at n : ℕ) → at + 1 ≤ n → drop (n - (at + 1)) rest ≡ drop (n - at) (x ∷ rest)
shift x rest at n h = let e : n - at ≡ suc (n - (at + 1)) = omega arith in rw e

-- true is not false
pub never {ℓ} : {A : Type ℓ} → true ≡ false → A
never e = let z : ◌≡◌ {A = ℕ} 0 1 = cc in absurd (omega arith)

-- from what a call ensures of its flag, and what the flag was found to be; for `search` to use
pub flag : (b t f : Bool) → b ≡ t → b ≡ f → t ≡ f
flag b t f p q = sym p ∙ q

-- what holds of both branches holds of a choice
pub by_cases : {A : Type 0} (P : A → Type 0) (b : Bool) (x y : A) → P x → P y → P (if b then x else y)
by_cases P true x y p q = p
by_cases P false x y p q = q

-- and so where each branch may use what its test says
pub by_test : {A : Type 0} (P : A → Type 0) (b : Bool) (x y : A) → (b ≡ true → P x) → (b ≡ false → P y) → P (if b then x else y)
by_test P true x y p q = p refl
by_test P false x y p q = q refl

-- what a conjunction says of its two sides, and a range of its ends
pub both : (a b : Bool) → a & b ≡ true → (a ≡ true) × (b ≡ true)
both true b e = (refl, e)
both false b e = never (sym e)

pub inside : (lo hi x : ℕ) → within lo hi x ≡ true → (lo ≤ x) × (x ≤ hi)
unfolding within
inside lo hi x e = let p = both (leb lo x) (leb x hi) e in (leb-true lo x p.0, leb-true x hi p.1)

pub and_true : (b : Bool) → b & true ≡ b
and_true true = refl
and_true false = refl

pub and_false : (b : Bool) → b & false ≡ false
and_false true = refl
and_false false = refl

pub within-true : (lo hi x : ℕ) → lo ≤ x → x ≤ hi → within lo hi x ≡ true
unfolding within
within-true lo hi x p q = rw (le-leb lo x p, le-leb x hi q)

pub within_low : (lo hi x : ℕ) → x < lo → within lo hi x ≡ false
unfolding within
within_low lo hi x p = rw (lt-leb lo x p)

pub within_high : (lo hi x : ℕ) → hi < x → within lo hi x ≡ false
unfolding within
within_high lo hi x q = rw (lt-leb x hi q) (and_false (leb lo x))

-- ---- a loop that writes a list from the front: what is written, and then what is still to come, is the whole

-- one byte more is written
pub written_more : (out : List ℕ) (o b : ℕ) (rest whole : List ℕ) → o < length out → take o out ++ b ∷ rest ≡ whole → take (o + 1) (set out o b) ++ rest ≡ whole
written_more out o b rest whole h e = rw (add-one o, take-suc-set out o b h, append_assoc (take o out) (b ∷ []) rest) e

-- nothing is still to come, and the room was exactly the whole's
pub written_all : (out : List ℕ) (o : ℕ) (rest whole : List ℕ) → rest ≡ [] → o + length rest ≡ length whole → length out ≡ length whole → take o out ++ rest ≡ whole → out ≡ whole
written_all out o rest whole n k l e =
    let k0 : o ≡ length whole = sym (add-zero o) ∙ (rw n at k) in
    sym (take_all o out (omega arith)) ∙ sym (append-nil (take o out)) ∙ ap (λ (r : List ℕ). take o out ++ r) (sym n) ∙ e
