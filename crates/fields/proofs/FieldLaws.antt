-- The laws of fields: what the code finds at a word is what the definitions say, and a field's word ends on the line. Assumes nothing.
use Rattle.std.specs.Prelude.{None, Option, Some}
use Prim.Native.Nat.{ℕ, suc, ◌+◌, ◌-◌, ◌*◌, ◌^◌, ◌≤◌, ◌<◌}
use mathlib.Core.Path.{◌≡◌, refl, sym, ap, ◌∙◌}
use mathlib.Core.List.{List, [], ◌∷◌, ◌++◌, append_assoc, append-nil}
use native.Mathlib.Nat.{sub-zero}
use native.Mathlib.Numerals.{add-one}
use native.Mathlib.Omega.{arith}
use lib.IntN.{ℤ}
use lib.ListN.{length, take, drop, set, length-drop}
use lib.Seq.{take_at, take_all, take-suc-set}
use borrow.Author.Tests.{eq-eqb, ne_eqb, le-leb, lt-leb}
use Rattle.text.specs.Base.{overlaid}
use Rattle.text.specs.Words.{word_at}
use Rattle.values.specs.Numbers.{number, signed}
use Rattle.values.specs.Hex.{hex_decoded}
use Rattle.hexadecimal.proofs.HexLaws.{hex_half}
use Rattle.fields.specs.Fields.{field, after, behind, word_bytes, number_at, integer_at, numbers_at, hex_for, marked_hex, bytes_at, bytes_in, byte_count}
use Rattle.fields.specs.Field.{Field}

-- ---- one word

emptied : (s : List ℕ) → length s ≡ 0 → s ≡ []
emptied [] e = refl
emptied (x ∷ s) e = absurd (omega arith)

-- word and end are those of the first word
module _ (line : List ℕ) (at : ℕ) (word : List ℕ) (end : ℕ) (k : word ≡ word_bytes line (word_at line at)) (e : end ≡ (word_at line at).end) where
  module _ (n : Option ℕ) (q : n ≡ number (2 ^ 64) word) where
    pub number_is : (v : ℕ) → n ≡ Some v → Some (field v end) ≡ number_at line at
    unfolding number_at
    number_is v r = rw (e, ← k, ← q, r)

    pub no_number : n ≡ None → None ≡ number_at line at
    unfolding number_at
    no_number r = rw (← k, ← q, r)

  module _ (n : Option ℤ) (q : n ≡ signed word) where
    pub integer_is : (v : ℤ) → n ≡ Some v → Some (field v end) ≡ integer_at line at
    unfolding integer_at
    integer_is v r = rw (e, ← k, ← q, r)

    pub no_integer : n ≡ None → None ≡ integer_at line at
    unfolding integer_at
    no_integer r = rw (← k, ← q, r)

  module _ (most : ℕ) where
    pub no_word : length word ≡ 0 → None ≡ bytes_at most line at
    unfolding bytes_at marked_hex
    no_word z = rw (← k, emptied word z)

    module _ (x : ℕ) (hex : List ℕ) (z : word ≡ x ∷ hex) where
      pub unmarked : (x ≡ 0x78 → ⊥) → None ≡ bytes_at most line at
      unfolding bytes_at marked_hex
      unmarked d = rw (← k, z, ne_eqb x 0x78 d)

      module _ (m : x ≡ 0x78) (room : List ℕ) (b : Option ℕ) (q : bytes_in room b ≡ hex_for most hex) where
        pub no_bytes : b ≡ None → None ≡ bytes_at most line at
        unfolding bytes_at marked_hex
        no_bytes r = rw (← k, z, eq-eqb x 0x78 m, ← q, r)

        pub bytes_are : (n : ℕ) → b ≡ Some n → Some (field (take n room) end) ≡ bytes_at most line at
        unfolding bytes_at marked_hex
        bytes_are n r = rw (e, ← k, z, eq-eqb x 0x78 m, ← q, r)

pub ruleset word_laws = (number_is, no_number, integer_is, no_integer, no_word, unmarked, no_bytes, bytes_are)

-- ---- several numbers

behind-none : (f : Option (Field (List ℕ))) → behind [] f ≡ f
unfolding behind
behind-none (Some f) = refl
behind-none None = refl

behind_both : (a b : List ℕ) (f : Option (Field (List ℕ))) → behind a (behind b f) ≡ behind (a ++ b) f
unfolding behind
behind_both a b (Some f) = ap (λ (l : List ℕ). Some (field l f.end)) (sym (append_assoc a b f.value))
behind_both a b None = refl

-- i numbers are filled of as many as are lent, and the others stand from `at` on
module _ (line : List ℕ) (from at i : ℕ) (lent out : List ℕ) where
  abbrev pub Filling : Type 0
  Filling = numbers_at (length lent) line from ≡ behind (take i out) (numbers_at (length lent - i) line at)

  module _ (f : Filling) (l : length out ≡ length lent) where
    pub all_filled : length out ≤ i → Some (field out at) ≡ numbers_at (length lent) line from
    unfolding numbers_at behind
    all_filled h =
        let z : length lent - i ≡ 0 = omega arith in
        sym (f ∙ rw (z, take_all i out h, append-nil out))

    module _ (r : Option (Field ℕ)) (q : r ≡ number_at line at) (h : i < length out) where
      next_one : numbers_at (length lent - i) line at ≡ after r None (λ n end. behind (n ∷ []) (numbers_at (length lent - (i + 1)) line end))
      unfolding numbers_at
      next_one = let z : length lent - i ≡ suc (length lent - (i + 1)) = omega arith in rw (z, ← q)

      pub none_next : r ≡ None → None ≡ numbers_at (length lent) line from
      unfolding after behind
      none_next b = let n = rw b at next_one in sym (f ∙ rw n)

      pub one_filled : (d : Field ℕ) → r ≡ Some d
          → numbers_at (length lent) line from ≡ behind (take (i + 1) (set out i d.value)) (numbers_at (length lent - (i + 1)) line d.end)
      unfolding after
      one_filled d b =
          let n = rw b at next_one in
          let t : take (i + 1) (set out i d.value) ≡ take i out ++ (d.value ∷ []) = rw (add-one i) (take-suc-set out i d.value h) in
          f ∙ rw (n, t) (behind_both (take i out) (d.value ∷ []) (numbers_at (length lent - (i + 1)) line d.end))

pub begun : (line : List ℕ) (from : ℕ) (lent : List ℕ) → Filling line from from 0 lent lent
begun line from lent = rw (sub-zero (length lent)) (sym (behind-none _))

pub ruleset numbers_laws = (all_filled, none_next, one_filled, begun)

-- what is left of a line from a place on
pub rest_of : (s : List ℕ) (p : ℕ) → take (length s - p) (drop p s) ≡ drop p s
rest_of s p = take_all (length s - p) (drop p s) (omega (arith, length-drop p s))

-- ---- bytes

module _ (hex lent room : List ℕ) (n : ℕ) (c : n ≡ length (hex_decoded hex)) (o : room ≡ overlaid (hex_decoded hex) lent) (l : length room ≡ length lent) where
  pub no_longer : n ≤ length hex
  no_longer = omega (arith, hex_half hex)

  pub too_long : length room < n → None ≡ hex_for (length lent) hex
  unfolding hex_for
  too_long h = rw (lt-leb (length (hex_decoded hex)) (length lent) (omega arith))

  pub other_length : n ≤ length room → (length hex - n ≡ n → ⊥) → None ≡ hex_for (length lent) hex
  unfolding hex_for
  other_length h d =
      rw (le-leb (length (hex_decoded hex)) (length lent) (omega arith), ne_eqb (length hex) (2 * length (hex_decoded hex)) (λ f. d (omega arith)))

  pub is_hex : n ≤ length room → length hex - n ≡ n → Some (take n room) ≡ hex_for (length lent) hex
  unfolding hex_for overlaid
  is_hex h d =
      let g = le-leb (length (hex_decoded hex)) (length lent) (omega arith) in
      let k : room ≡ hex_decoded hex ++ drop (length (hex_decoded hex)) lent = rw g at o in
      rw (g, eq-eqb (length hex) (2 * length (hex_decoded hex)) (omega (arith, hex_half hex)))
      (ap Some (ap (take n) k ∙ take_at (hex_decoded hex) (drop (length (hex_decoded hex)) lent) n (sym c)))

pub byte_bound : (b : Option ℕ) (n most : ℕ) → b ≡ Some n → byte_count b ≤ most → n ≤ most
byte_bound b n most e h = rw e at h
