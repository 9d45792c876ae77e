-- Hex: the walk over the bytes answers what the definition answers, one step of it at a place; trailing quotes do not show; a byte takes
-- two characters. Assumes nothing.
use Prim.Native.Nat.{ℕ, zero, suc, ◌+◌, ◌*◌, ◌≤◌, ◌<◌}
use mathlib.Core.Path.{◌≡◌, refl, sym, ap, ◌∙◌}
use mathlib.Core.Bool.{Bool, true, false}
use mathlib.Core.List.{List, [], ◌∷◌, ◌++◌, append_assoc, append-nil}
use native.Mathlib.Omega.{arith}
use native.Mathlib.Nat.{zero-add}
use lib.Dec.{eqb, ltb}
use lib.ListN.{length, get_or, drop, replicate, length-append}
use borrow.Author.Tests.{eqb-true, ne_eqb, ltb-true, ltb-false}
use Rattle.std.specs.Prelude.{if◌then◌else◌}
use Rattle.text.specs.Base.{◌&◌, ◌or◌, within, BLANK, QUOTE, PLUS}
use Rattle.values.specs.Hex.{without, without_blanks, character_starts, hex_value, is_hex, hex_byte, hex_pairs, hex_decoded}
use Rattle.hexadecimal.specs.HexWalk.{HexTable, on_digit, on_other, hex_step, hex_from}
use Rattle.hexadecimal.specs.declared.HexStep.{HexStep}
use Rattle.hexadecimal.specs.declared.HexStep.TheVariants.{Held, Byte}
use Rattle.text.proofs.Table.{follows, entry}
use Rattle.text.proofs.Scan.{rest_more, rest-none, and_false, by_cases, by_test, inside, within_low}

-- ---- the bytes that are characters of their own

signs : List ℕ → List ℕ
signs s = character_starts (without_blanks s)

abbrev skipped : ℕ → Bool
skipped x = eqb x BLANK or within 0x80 0xBF x

signs-none : signs [] ≡ []
unfolding signs character_starts without_blanks without
signs-none = refl

signs_more : (x : ℕ) (rest : List ℕ) → signs (x ∷ rest) ≡ (if skipped x then signs rest else x ∷ signs rest)
unfolding signs character_starts without_blanks without
signs_more x rest = go (eqb x BLANK)
  where
    go : (b : Bool) → without (within 0x80 0xBF) (if b then without_blanks rest else x ∷ without_blanks rest) ≡ (if b or within 0x80 0xBF x then signs rest else x ∷ signs rest)
    go true = refl
    go false = refl

-- ---- the values

-- from one test over the whole table
pub table_right : (table : List ℕ) → follows hex_value 0 table ≡ true → length table ≡ 256 → HexTable table
table_right table t n = record { size = n; rule = λ x h. entry hex_value table t x (omega arith) }

-- v is the value of x: 16, or x is a digit, which stands where no blank, no `+` and no byte from 80 on stands
abbrev Valued : (x v : ℕ) → Type 0
Valued x v = (v ≤ 16) × (v < 16 → (0x30 ≤ x) × (x < 0x80))

valued : (x : ℕ) → Valued x (hex_value x)
unfolding hex_value
valued x =
    by_test (Valued x) (within 0x30 0x39 x) _ _ (λ e. let h = inside 0x30 0x39 x e in (omega arith, λ l. omega arith))
    (λ n. by_test (Valued x) (within 0x41 0x46 x) _ _ (λ e. let h = inside 0x41 0x46 x e in (omega arith, λ l. omega arith))
    (λ n. by_test (Valued x) (within 0x61 0x66 x) _ _ (λ e. let h = inside 0x61 0x66 x e in (omega arith, λ l. omega arith)) (λ n. (omega arith, λ l. omega arith))))

-- the value that is held of a first character
hex_first : ℕ → ℕ
hex_first a = if eqb a PLUS then 0 else hex_value a

first_most : (a : ℕ) → hex_first a ≤ 16
unfolding hex_first
first_most a = by_cases (λ v. v ≤ 16) (eqb a PLUS) _ _ (omega arith) (valued a).0

-- what a pair comes to, by the value held
abbrev paired : (a b : ℕ) → List ℕ
paired a b = if ltb (hex_first a) 16 & is_hex b then (hex_first a * 16 + hex_value b) ∷ [] else []

plus : (b : ℕ) → hex_byte PLUS b ≡ paired PLUS b
unfolding hex_byte hex_first hex_value within
plus b = rw zero-add

other : (a b : ℕ) → eqb a PLUS ≡ false → hex_byte a b ≡ paired a b
unfolding hex_byte hex_first
other a b e = rw e

pair : (a b : ℕ) → hex_byte a b ≡ paired a b
pair a b = go (eqb a PLUS) refl
  where
    go : (p : Bool) → eqb a PLUS ≡ p → hex_byte a b ≡ paired a b
    go true e = rw (eqb-true a PLUS e) (plus b)
    go false e = other a b e

-- ---- the walk is the definition

module _ (held x : ℕ) (rest : List ℕ) where
  on_held : (h : ℕ) → hex_step held x ≡ Held h → hex_from held (x ∷ rest) ≡ hex_from h rest
  unfolding hex_from
  on_held h e = rw (e, hex_from)

  on-byte : (b : ℕ) → hex_step held x ≡ Byte b → hex_from held (x ∷ rest) ≡ b ∷ hex_from 17 rest
  unfolding hex_from
  on-byte b e = rw (e, hex_from)

-- what is left becomes the same by both, with nothing held and with a first character held
record Same (rest : List ℕ) : Type 0 where
  alone : hex_from 17 rest ≡ hex_pairs (signs rest)
  first : (a : ℕ) → hex_from (hex_first a) rest ≡ hex_pairs (a ∷ signs rest)

module _ (x : ℕ) (rest : List ℕ) (same : Same rest) where
  skip : is_hex x ≡ false → skipped x ≡ true → Same (x ∷ rest)
  unfolding hex_step on_other
  skip d k =
      let signs-same : signs (x ∷ rest) ≡ signs rest = rw (signs_more, k) in
      let stays : (h : ℕ) → hex_step h x ≡ Held h = λ h. rw (d, k) in
      record {
        alone = on_held 17 x rest 17 (stays 17) ∙ same.alone ∙ ap hex_pairs (sym signs-same);
        first = λ a. on_held (hex_first a) x rest (hex_first a) (stays (hex_first a)) ∙ same.first a ∙ ap (λ (l : List ℕ). hex_pairs (a ∷ l)) (sym signs-same);
      }

  -- a character of its own: what becomes of a pair
  module _ (k : skipped x ≡ false) where
    held_alone : hex_step 17 x ≡ Held (hex_first x) → hex_from 17 (x ∷ rest) ≡ hex_pairs (signs (x ∷ rest))
    held_alone e = rw (signs_more, k) (on_held 17 x rest (hex_first x) e ∙ same.first x)

    pairs_two : (a : ℕ) → hex_pairs (a ∷ signs (x ∷ rest)) ≡ paired a x ++ hex_pairs (signs rest)
    unfolding hex_pairs
    pairs_two a = rw (signs_more, k, pair)

    other_character : is_hex x ≡ false → Same (x ∷ rest)
    unfolding hex_step on_other hex_first
    other_character d =
        let none : hex_value x ≡ 16 = omega (arith, (valued x).0, ltb-false (hex_value x) 16 d) in
        let held : hex_step 17 x ≡ Held (hex_first x) = rw (d, k, none) in
        let ends : (a : ℕ) → hex_step (hex_first a) x ≡ Held 17 = λ a. rw (d, k, ne_eqb (hex_first a) 17 (λ e. omega (arith, first_most a))) in
        record {
          alone = held_alone held;
          first = λ a. on_held (hex_first a) x rest 17 (ends a) ∙ same.alone ∙ sym (rw (pairs_two a, d, and_false (ltb (hex_first a) 16)));
        }

    second_digit : is_hex x ≡ true → (a : ℕ) (t : Bool) → ltb (hex_first a) 16 ≡ t → hex_from (hex_first a) (x ∷ rest) ≡ hex_pairs (a ∷ signs (x ∷ rest))
    unfolding hex_step on_digit
    second_digit d a true e =
        on-byte (hex_first a) x rest (hex_first a * 16 + hex_value x) (rw (d, e))
        ∙ ap (λ (l : List ℕ). (hex_first a * 16 + hex_value x) ∷ l) same.alone
        ∙ sym (rw (pairs_two a, e, d))
    second_digit d a false e =
        on_held (hex_first a) x rest 17 (rw (d, e, ne_eqb (hex_first a) 17 (λ p. omega (arith, first_most a))))
        ∙ same.alone
        ∙ sym (rw (pairs_two a, e))

    digit : is_hex x ≡ true → Same (x ∷ rest)
    unfolding hex_step on_digit hex_first
    digit d =
        let value : hex_first x ≡ hex_value x = rw (ne_eqb x PLUS (λ e. omega (arith, (valued x).1 (ltb-true (hex_value x) 16 d)))) in
        let held : hex_step 17 x ≡ Held (hex_first x) = rw (d, value) in
        record {
          alone = held_alone held;
          first = λ a. second_digit d a (ltb (hex_first a) 16) refl;
        }

  -- a digit is never skipped
  digit_kept : is_hex x ≡ true → skipped x ≡ false
  digit_kept d =
      let v = (valued x).1 (ltb-true (hex_value x) 16 d) in
      rw (ne_eqb x BLANK (λ e. omega arith), within_low 0x80 0xBF x v.1)

  more : (d k : Bool) → is_hex x ≡ d → skipped x ≡ k → Same (x ∷ rest)
  more true k d e = digit (digit_kept d) d
  more false true d k = skip d k
  more false false d k = other_character k d

same : (s : List ℕ) → Same s
unfolding hex_from hex_pairs
same [] = record { alone = rw signs-none; first = λ a. rw signs-none }
same (x ∷ rest) = more x rest (same rest) (is_hex x) (skipped x) refl refl

pub walked : (s : List ℕ) → hex_from 17 s ≡ hex_decoded s
unfolding hex_decoded signs
walked s = (same s).alone

-- ---- one step at a place

module _ (s : List ℕ) (i held : ℕ) (step : HexStep) (h : i < length s) (e : step ≡ hex_step held (get_or s i 0)) where
  pub at_held : (next : ℕ) → step ≡ Held next → hex_from held (drop i s) ≡ hex_from next (drop (i + 1) s)
  at_held next p = rw (rest_more s i h) (on_held held (get_or s i 0) (drop (i + 1) s) next (sym e ∙ p))

  pub at_byte : (b : ℕ) → step ≡ Byte b → hex_from held (drop i s) ≡ b ∷ hex_from 17 (drop (i + 1) s)
  at_byte b p = rw (rest_more s i h) (on-byte held (get_or s i 0) (drop (i + 1) s) b (sym e ∙ p))

pub none_left : (s : List ℕ) (i held : ℕ) → length s ≤ i → hex_from held (drop i s) ≡ []
unfolding hex_from
none_left s i held h = rw (rest-none s i h)

-- ---- trailing quotes

without_end : (test : ℕ → Bool) (y : ℕ) → test y ≡ false → (s : List ℕ) → without test (s ++ y ∷ []) ≡ without test s ++ y ∷ []
unfolding without
without_end test y n [] = rw n
without_end test y n (x ∷ s) = rw (without_end test y n s) (go (test x))
  where
    go : (t : Bool) → (if t then without test s ++ y ∷ [] else x ∷ without test s ++ y ∷ []) ≡ (if t then without test s else x ∷ without test s) ++ y ∷ []
    go true = refl
    go false = refl

pairs_end : (s : List ℕ) → hex_pairs (s ++ QUOTE ∷ []) ≡ hex_pairs s
unfolding hex_pairs hex_byte hex_value within
pairs_end [] = refl
pairs_end (a ∷ []) = rw (and_false (is_hex a), and_false (eqb a PLUS))
pairs_end (a ∷ b ∷ s) = ap (λ (l : List ℕ). hex_byte a b ++ l) (pairs_end s)

pub trailing_quote : (s : List ℕ) → hex_decoded (s ++ QUOTE ∷ []) ≡ hex_decoded s
unfolding hex_decoded character_starts without_blanks within
trailing_quote s =
    rw (without_end (λ x. eqb x BLANK) QUOTE refl s, without_end (within 0x80 0xBF) QUOTE refl (without_blanks s))
    (pairs_end (character_starts (without_blanks s)))

-- any number of them; the Rust takes them off first
pub trailing_quotes : (n : ℕ) (s : List ℕ) → hex_decoded (s ++ replicate n QUOTE) ≡ hex_decoded s
trailing_quotes zero s = rw append-nil
trailing_quotes (suc n) s = sym (ap hex_decoded (append_assoc s (QUOTE ∷ []) (replicate n QUOTE))) ∙ trailing_quotes n (s ++ QUOTE ∷ []) ∙ trailing_quote s

-- ---- two characters to a byte

without_shorter : (test : ℕ → Bool) (s : List ℕ) → length (without test s) ≤ length s
unfolding without
without_shorter test [] = omega arith
without_shorter test (x ∷ s) =
    let h = without_shorter test s in
    by_cases (λ l. length l ≤ length (x ∷ s)) (test x) (without test s) (x ∷ without test s) (omega arith) (omega arith)

byte_one : (a b : ℕ) → length (hex_byte a b) ≤ 1
unfolding hex_byte
byte_one a b =
    let P : List ℕ → Type 0 = λ l. length l ≤ 1 in
    by_cases P (is_hex a & is_hex b) _ _ (omega arith) (by_cases P (eqb a PLUS & is_hex b) _ _ (omega arith) (omega arith))

pairs_half : (s : List ℕ) → length (hex_pairs s) * 2 ≤ length s
unfolding hex_pairs
pairs_half [] = omega arith
pairs_half (a ∷ []) = omega arith
pairs_half (a ∷ b ∷ s) = omega (arith, length-append (hex_byte a b) (hex_pairs s), byte_one a b, pairs_half s)

pub hex_half : (s : List ℕ) → length (hex_decoded s) * 2 ≤ length s
unfolding hex_decoded character_starts without_blanks
hex_half s =
    let blanks = without_blanks s in
    omega (arith, pairs_half (character_starts blanks), without_shorter (within 0x80 0xBF) blanks, without_shorter (λ x. eqb x BLANK) s)
