-- Timestamps: the definition's runs of digits, and the numbers that they spell. Assumes nothing.
use Prim.Native.Nat.{ℕ, zero, suc, ◌+◌, ◌-◌, ◌*◌, ◌^◌, ◌≤◌, ◌<◌}
use mathlib.Core.Path.{◌≡◌, refl, sym, ap, ◌∙◌}
use mathlib.Core.Bool.{Bool, true, false, not, ◌&&◌}
use mathlib.Core.List.{List, [], ◌∷◌, ◌++◌}
use native.Mathlib.Omega.{arith}
use native.Mathlib.Nat.{mul-le-mul_right, mul-le-mul_left, one-le-pow, pow-suc, mul_assoc, mul_comm, le_trans, le_of_eq, pow-le-pow_right, one-mul, zero-add, not-suc-le-zero}
use lib.Dec.{eqb, leb}
use lib.ListN.{length, get_or, take, drop, length-drop}
use borrow.Author.Tests.{eq-eqb, ne_eqb}
use Rattle.std.specs.Prelude.{if◌then◌else◌}
use Rattle.std.specs.Char.{is_ascii_digit}
use Rattle.std.proofs.lemmas.List.{append-nil, take_all}
use Rattle.text.specs.Base.{◌&◌, within}
use Rattle.values.specs.Numbers.{all_digits, decimal_from}
use Rattle.text.proofs.Scan.{rest_more, rest-none, inside, both}
use Rattle.version.specs.Version.{DOT}
use Rattle.script.specs.Timestamps.{Run, run, digit_run, fraction, some_digits}

-- a digit, as the library tests it
digit_is : (x : ℕ) → within 0x30 0x39 x ≡ is_ascii_digit x
unfolding within
digit_is x = go (leb 0x30 x) (leb x 0x39)
  where
    go : (a b : Bool) → a & b ≡ (a && b)
    go true b = refl
    go false b = refl

-- ---- where digits end

module _ (s : List ℕ) (i : ℕ) where
  -- no digit stands there
  abbrev pub Stopped : Type 0
  Stopped = digit_run (drop i s) ≡ run [] (drop i s)

  pub run_over : length s ≤ i → Stopped
  unfolding digit_run
  run_over h = rw (rest-none s i h)

  pub run_none : i < length s → false ≡ is_ascii_digit (get_or s i 0) → Stopped
  unfolding digit_run
  run_none h x = rw (rest_more s i h, digit_is (get_or s i 0), ← x)

  pub run_more : i < length s → true ≡ is_ascii_digit (get_or s i 0)
      → digit_run (drop i s) ≡ run (get_or s i 0 ∷ (digit_run (drop (i + 1) s)).digits) (digit_run (drop (i + 1) s)).rest
  unfolding digit_run
  run_more h x = rw (rest_more s i h, digit_is (get_or s i 0), ← x)

-- the first i bytes and what the digits are from there on
pub taken_more : (s : List ℕ) (i : ℕ) → i < length s → (ys : List ℕ) → take (i + 1) s ++ ys ≡ take i s ++ (get_or s i 0 ∷ ys)
taken_more s i h ys = let e : i + 1 ≡ suc i = omega arith in rw e (go s i h)
  where
    go : (s : List ℕ) (i : ℕ) → i < length s → take (suc i) s ++ ys ≡ take i s ++ (get_or s i 0 ∷ ys)
    go [] i h = absurd (not-suc-le-zero h)
    go (x ∷ s) zero h = refl
    go (x ∷ s) (suc i) h = ap (λ (l : List ℕ). x ∷ l) (go s i (omega arith))

-- the walk over the digits: the bytes before i are digits, and from there on it goes as the definition goes
abbrev pub Walked : (s : List ℕ) (i : ℕ) → Type 0
Walked s i = digit_run s ≡ run (take i s ++ (digit_run (drop i s)).digits) (digit_run (drop i s)).rest

module _ (s : List ℕ) (i : ℕ) (w : Walked s i) where
  pub walked_here : Stopped s i → run (take i s) (take (length s - i) (drop i s)) ≡ digit_run s
  walked_here e = rw (take_all (length s - i) (drop i s) (omega (arith, length-drop i s))) (sym (rw (e, append-nil (take i s)) at w))

  pub walked_on : i < length s → true ≡ is_ascii_digit (get_or s i 0) → Walked s (i + 1)
  walked_on h x = w ∙ rw (run_more s i h x, taken_more s i h (digit_run (drop (i + 1) s)).digits)

  pub walked_all : length s ≤ i → run s [] ≡ digit_run s
  walked_all h = sym (rw (run_over s i h, rest-none s i h, append-nil (take i s), take_all i s h) at w)

-- what follows digits begins with none
pub run_rest : (xs : List ℕ) → digit_run (digit_run xs).rest ≡ run [] (digit_run xs).rest
unfolding digit_run
run_rest [] = refl
run_rest (x ∷ xs) = go (within 0x30 0x39 x) refl (run_rest xs)
  where
    more : Run
    more = digit_run xs

    go : (b : Bool) → within 0x30 0x39 x ≡ b → digit_run more.rest ≡ run [] more.rest
        → digit_run (if b then run (x ∷ more.digits) more.rest else run [] (x ∷ xs)).rest
        ≡ run [] (if b then run (x ∷ more.digits) more.rest else run [] (x ∷ xs)).rest
    go true e ih = ih
    go false e ih = rw (digit_run, e)

-- a run is of digits
pub run_digits : (xs : List ℕ) → all_digits (digit_run xs).digits ≡ true
unfolding digit_run all_digits
run_digits [] = refl
run_digits (x ∷ xs) = go (within 0x30 0x39 x) refl (run_digits xs)
  where
    go : (b : Bool) → within 0x30 0x39 x ≡ b → all_digits (digit_run xs).digits ≡ true
        → all_digits (if b then run (x ∷ (digit_run xs).digits) (digit_run xs).rest else run [] (x ∷ xs)).digits ≡ true
    go true e ih = rw e ih
    go false e ih = refl

pub fraction_digits : (xs : List ℕ) → all_digits (fraction xs).digits ≡ true
unfolding fraction all_digits
fraction_digits [] = refl
fraction_digits (x ∷ xs) = go (eqb x DOT)
  where
    go : (b : Bool) → all_digits (if b then digit_run xs else run [] (x ∷ xs)).digits ≡ true
    go true = run_digits xs
    go false = refl

-- ---- at most 18 digits are below 10 ^ 18

abbrev pub Room : (v k : ℕ) → Type 0
Room v k = (v + 1) * 10 ^ k ≤ 10 ^ 18

pub room_more : (v k d : ℕ) → d ≤ 9 → (v * 10 + d + 1) * 10 ^ k ≤ (v + 1) * 10 ^ suc k
room_more v k d h =
    le_trans (mul-le-mul_right (10 ^ k) (le_trans (omega arith) (le_of_eq (mul_comm 10 (v + 1)))))
    (le_of_eq (mul_assoc (v + 1) 10 (10 ^ k) ∙ ap (λ (n : ℕ). (v + 1) * n) (mul_comm 10 (10 ^ k) ∙ sym (pow-suc 10 k))))

pub room_fits : (v k : ℕ) → Room v k → v < 10 ^ 18
room_fits v k r =
    let p : (v + 1) * 1 ≤ (v + 1) * 10 ^ k = mul-le-mul_left (v + 1) (one-le-pow k 10 (omega arith)) in
    omega (arith, p, r)

-- digits, after those that spelled v
pub room_after : (xs : List ℕ) (v k : ℕ) → all_digits xs ≡ true → (decimal_from v xs + 1) * 10 ^ k ≤ (v + 1) * 10 ^ (length xs + k)
unfolding all_digits decimal_from
room_after [] v k e = le_of_eq (ap (λ (n : ℕ). (v + 1) * 10 ^ n) (sym (zero-add k)))
room_after (x ∷ xs) v k e =
    let t = both (within 0x30 0x39 x) (all_digits xs) e in
    let n : suc (length xs + k) ≡ suc (length xs) + k = omega arith in
    le_trans (room_after xs (v * 10 + (x - 0x30)) k t.1)
    (le_trans (room_more v (length xs + k) (x - 0x30) (omega (arith, (inside 0x30 0x39 x t.0).1)))
    (le_of_eq (ap (λ (m : ℕ). (v + 1) * 10 ^ m) n)))

pub room_of : (k : ℕ) → k ≤ 18 → (0 + 1) * 10 ^ k ≤ 10 ^ 18
room_of k h = le_trans (le_of_eq (one-mul (10 ^ k))) (pow-le-pow_right (omega arith) h)

-- all are digits where nothing follows the digits
pub all_digits_lem : (xs : List ℕ) → all_digits xs ≡ eqb (length (digit_run xs).rest) 0
unfolding digit_run all_digits
all_digits_lem [] = refl
all_digits_lem (x ∷ xs) = go (within 0x30 0x39 x) (all_digits_lem xs)
  where
    more : Run
    more = digit_run xs

    go : (b : Bool) → all_digits xs ≡ eqb (length more.rest) 0
        → b & all_digits xs ≡ eqb (length (if b then run (x ∷ more.digits) more.rest else run [] (x ∷ xs)).rest) 0
    go true ih = ih
    go false ih = sym (ne_eqb (suc (length xs)) 0 (λ e. absurd (omega arith)))

-- an exponent's digits: at least one, and nothing behind them
pub exponent_ends : (xs : List ℕ) → some_digits xs ≡ not (eqb (length (digit_run xs).digits) 0) & eqb (length (digit_run xs).rest) 0
unfolding some_digits digit_run
exponent_ends [] = refl
exponent_ends (x ∷ xs) = all_digits_lem (x ∷ xs) ∙ go (within 0x30 0x39 x)
  where
    more : Run
    more = digit_run xs

    go : (b : Bool) → eqb (length (if b then run (x ∷ more.digits) more.rest else run [] (x ∷ xs)).rest) 0
        ≡ not (eqb (length (if b then run (x ∷ more.digits) more.rest else run [] (x ∷ xs)).digits) 0)
        & eqb (length (if b then run (x ∷ more.digits) more.rest else run [] (x ∷ xs)).rest) 0
    go true = rw (ne_eqb (suc (length more.digits)) 0 (λ e. absurd (omega arith))) refl
    go false = ne_eqb (suc (length xs)) 0 (λ e. absurd (omega arith))

-- the same of the two parts that the code has
module _ (s digits rest : List ℕ) (e : run digits rest ≡ digit_run s) where
  ends : some_digits s ≡ not (eqb (length digits) 0) & eqb (length rest) 0
  ends = exponent_ends s ∙ ap (λ (r : Run). not (eqb (length r.digits) 0) & eqb (length r.rest) 0) (sym e)

  pub nothing_there : length digits ≡ 0 → false ≡ some_digits s
  nothing_there h = sym (ends ∙ rw (eq-eqb _ _ h))

  pub by_rest : (length digits ≡ 0 → ⊥) → eqb (length rest) 0 ≡ some_digits s
  by_rest h = sym (ends ∙ rw (ne_eqb _ _ h))

-- a run is no longer than the text
pub run_length : (xs : List ℕ) → length (digit_run xs).digits + length (digit_run xs).rest ≡ length xs
unfolding digit_run
run_length [] = refl
run_length (x ∷ xs) = go (within 0x30 0x39 x) (run_length xs)
  where
    more : Run
    more = digit_run xs

    go : (b : Bool) → length more.digits + length more.rest ≡ length xs
        → length (if b then run (x ∷ more.digits) more.rest else run [] (x ∷ xs)).digits + length (if b then run (x ∷ more.digits) more.rest else run [] (x ∷ xs)).rest
        ≡ suc (length xs)
    go true ih = omega arith
    go false ih = omega arith

pub fraction_length : (xs : List ℕ) → length (fraction xs).digits ≤ length xs
unfolding fraction
fraction_length [] = omega arith
fraction_length (x ∷ xs) = go (eqb x DOT)
  where
    go : (b : Bool) → length (if b then digit_run xs else run [] (x ∷ xs)).digits ≤ length (x ∷ xs)
    go true = omega (arith, run_length xs)
    go false = omega arith
