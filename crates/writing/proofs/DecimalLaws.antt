-- Decimal digits: a number below 10 is one digit, any other the digits of its tenth and one more; what is written is read back. Assumes nothing.
use Rattle.std.specs.Prelude.{Some}
use Prim.Native.Nat.{ℕ, zero, suc, ◌+◌, ◌-◌, ◌*◌, ◌/◌, ◌%◌, ◌^◌, ◌≤◌, ◌<◌}
use mathlib.Core.Path.{◌≡◌, refl, sym, ap, ◌∙◌}
use mathlib.Core.Bool.{Bool, true, false}
use mathlib.Core.List.{List, [], ◌∷◌, ◌++◌}
use native.Mathlib.Omega.{arith}
use native.Mathlib.Nat.{mod-lt, div-add-mod', pow-suc}
use lib.Dec.{ltb}
use lib.ListN.{length, length-append}
use borrow.Author.Tests.{lt-ltb, le-ltb, ltb-true, ltb-false, le-leb}
use Rattle.text.specs.Base.{within}
use Rattle.text.proofs.Scan.{both}
use Rattle.values.specs.Numbers.{all_digits, decimal_from, digits}
use Rattle.values.specs.Decimal.{decimal_by, decimal}

-- n is ten times its tenth and its last digit
tenth : (n : ℕ) → (n / 10 * 10 + n % 10 ≡ n) × (n % 10 < 10)
tenth n = (div-add-mod' n 10, mod-lt n (omega arith))

by_small : (steps n : ℕ) → n < 10 → decimal_by (suc steps) n ≡ (0x30 + n) ∷ []
unfolding decimal_by
by_small steps n h = rw (lt-ltb n 10 h)

by_more : (steps n : ℕ) → 10 ≤ n → decimal_by (suc steps) n ≡ decimal_by steps (n / 10) ++ ((0x30 + n % 10) ∷ [])
unfolding decimal_by
by_more steps n h = rw (le-ltb n 10 h)

-- more steps than enough change nothing
enough : (a b n : ℕ) → n < a → n < b → decimal_by a n ≡ decimal_by b n
enough zero b n h k = absurd (omega arith)
enough (suc a) zero n h k = absurd (omega arith)
enough (suc a) (suc b) n h k = go (ltb n 10) refl (enough a b (n / 10))
  where
    go : (t : Bool) → ltb n 10 ≡ t → (n / 10 < a → n / 10 < b → decimal_by a (n / 10) ≡ decimal_by b (n / 10)) → decimal_by (suc a) n ≡ decimal_by (suc b) n
    go true e ih = let l = ltb-true n 10 e in by_small a n l ∙ sym (by_small b n l)
    go false e ih =
        let l = ltb-false n 10 e in
        let t = tenth n in
        by_more a n l ∙ ap (λ (xs : List ℕ). xs ++ ((0x30 + n % 10) ∷ [])) (ih (omega arith) (omega arith)) ∙ sym (by_more b n l)

pub decimal-small : (n : ℕ) → n < 10 → decimal n ≡ (0x30 + n) ∷ []
unfolding decimal
decimal-small n h = by_small n n h

pub decimal_more : (n : ℕ) → 10 ≤ n → decimal n ≡ decimal (n / 10) ++ ((0x30 + n % 10) ∷ [])
unfolding decimal
decimal_more n h =
    let t = tenth n in
    by_more n n h ∙ ap (λ (xs : List ℕ). xs ++ ((0x30 + n % 10) ∷ [])) (enough n (suc (n / 10)) (n / 10) (omega arith) (omega arith))

-- one digit, or one more than the tenth has
pub digits_one : (n : ℕ) → n < 10 → length (decimal n) ≡ 1
digits_one n h = ap length (decimal-small n h)

pub digits_longer : (n : ℕ) → 10 ≤ n → length (decimal n) ≡ length (decimal (n / 10)) + 1
digits_longer n h = ap length (decimal_more n h) ∙ length-append (decimal (n / 10)) ((0x30 + n % 10) ∷ [])

pub tenth_less : (n : ℕ) → 10 ≤ n → n / 10 < n
tenth_less n h = let t = tenth n in omega arith

-- a number below the k-th power of 10 has at most k digits
digits_most : (k n : ℕ) → n < 10 ^ suc k → length (decimal n) ≤ suc k
digits_most zero n h = omega (arith, ap length (decimal-small n (omega arith)))
digits_most (suc k) n h = go (ltb n 10) refl (digits_most k (n / 10))
  where
    go : (t : Bool) → ltb n 10 ≡ t → (n / 10 < 10 ^ suc k → length (decimal (n / 10)) ≤ suc k) → length (decimal n) ≤ suc (suc k)
    go true e ih = omega (arith, ap length (decimal-small n (ltb-true n 10 e)))
    go false e ih =
        let l = ltb-false n 10 e in
        let t = tenth n in
        let p : 10 ^ suc (suc k) ≡ 10 ^ suc k * 10 = pow-suc 10 (suc k) in
        let f = length-append (decimal (n / 10)) ((0x30 + n % 10) ∷ []) in
        omega (arith, ih (omega arith), ap length (decimal_more n l))

-- a number of the machine has at most 20
pub decimal-length : (n : ℕ) → n < 2 ^ 64 → length (decimal n) ≤ 20
decimal-length n h = digits_most 19 n (omega arith)

-- ---- what is written is read back

-- digits, then one more
all_more : (xs : List ℕ) (d : ℕ) → d < 10 → all_digits xs ≡ true → all_digits (xs ++ ((0x30 + d) ∷ [])) ≡ true
unfolding all_digits within
all_more [] d h e = rw (le-leb 0x30 (0x30 + d) (omega arith), le-leb (0x30 + d) 0x39 (omega arith))
all_more (x ∷ xs) d h e = let b = both (within 0x30 0x39 x) (all_digits xs) e in rw b.0 (all_more xs d h b.1)

spelt_more : (v : ℕ) (xs : List ℕ) (d : ℕ) → decimal_from v (xs ++ ((0x30 + d) ∷ [])) ≡ decimal_from v xs * 10 + d
unfolding decimal_from
spelt_more v [] d = omega arith
spelt_more v (x ∷ xs) d = spelt_more (v * 10 + (x - 0x30)) xs d

-- its digits are digits, and spell it
spells_it : (steps n : ℕ) → n < steps → (all_digits (decimal n) ≡ true) × (decimal_from 0 (decimal n) ≡ n)
unfolding all_digits decimal_from
spells_it zero n h = absurd (omega arith)
spells_it (suc steps) n h = go (ltb n 10) refl (spells_it steps (n / 10))
  where
    go : (t : Bool) → ltb n 10 ≡ t → (n / 10 < steps → (all_digits (decimal (n / 10)) ≡ true) × (decimal_from 0 (decimal (n / 10)) ≡ n / 10)) → (all_digits (decimal n) ≡ true) × (decimal_from 0 (decimal n) ≡ n)
    go true e ih = let l = ltb-true n 10 e in rw (decimal-small n l) (all_more [] n l refl, omega arith)
    go false e ih =
        let l = ltb-false n 10 e in
        let t = tenth n in
        let r = ih (omega arith) in
        rw (decimal_more n l)
        (all_more (decimal (n / 10)) (n % 10) t.1 r.0, spelt_more 0 (decimal (n / 10)) (n % 10) ∙ ap (λ (k : ℕ). k * 10 + n % 10) r.1 ∙ t.0)

-- there is one at least
one_digit : (n : ℕ) → 0 < length (decimal n)
one_digit n = go (ltb n 10) refl
  where
    go : (t : Bool) → ltb n 10 ≡ t → 0 < length (decimal n)
    go true e = omega (arith, ap length (decimal-small n (ltb-true n 10 e)))
    go false e = omega (arith, ap length (decimal_more n (ltb-false n 10 e)), length-append (decimal (n / 10)) ((0x30 + n % 10) ∷ []))

pub reads_back : (limit n : ℕ) → n < limit → digits limit (decimal n) ≡ Some n
unfolding digits
reads_back limit n h = let s = spells_it (suc n) n (omega arith) in go (decimal n) (one_digit n) s.0 s.1
  where
    go : (xs : List ℕ) → 0 < length xs → all_digits xs ≡ true → decimal_from 0 xs ≡ n → digits limit xs ≡ Some n
    go [] l a v = absurd (omega arith)
    go (x ∷ xs) l a v = rw (a, v, lt-ltb n limit h)
