-- The laws of a dump on a line: a number in front, and the numbers one after another. Assumes nothing.
use Rattle.std.specs.Prelude.{None, Option, Some}
use Prim.Native.Nat.{ℕ, ◌-◌, ◌^◌, ◌≤◌, ◌<◌}
use mathlib.Core.Path.{◌≡◌, refl, sym, ap, ◌∙◌}
use mathlib.Core.Bool.{Bool, true, false}
use mathlib.Core.List.{List, [], ◌∷◌}
use native.Mathlib.Omega.{arith}
use lib.Dec.{eqb}
use lib.ListN.{length, take, drop, length-drop}
use lib.Seq.{length-take-le}
use Rattle.text.specs.Base.{◌&◌}
use Rattle.text.specs.Parts.{starts_with, same_bytes}
use Rattle.text.specs.Words.{word_at}
use Rattle.text.proofs.Scan.{both, never}
use Rattle.text.proofs.WordLaws.{words_at, known}
use Rattle.values.specs.Numbers.{number}
use Rattle.numbers.specs.Numbers.{low_bytes, bytes_of}
use Rattle.fields.specs.Fields.{word_bytes}
use Rattle.fields.proofs.FieldLaws.{rest_of}
use Rattle.replayed.specs.Dumps.{in_front, is_dump}

-- ---- a number in front

front_long : (prefix s : List ℕ) → starts_with prefix s ≡ true → length prefix ≤ length s
unfolding starts_with
front_long [] s e = omega arith
front_long (p ∷ prefix) [] e = never (sym e)
front_long (p ∷ prefix) (x ∷ s) e = omega (arith, front_long prefix s (both (eqb x p) (starts_with prefix s) e).1)

pub eight : (o : Option ℕ) (found : List ℕ) (t : Bool) → t ≡ in_front o found → t ≡ true → 8 ≤ length found
unfolding in_front bytes_of low_bytes
eight None found t g e = never (sym e ∙ g)
eight (Some n) found t g e = front_long (bytes_of n) found (sym g ∙ e)

-- ---- numbers, one after another

-- word and end are those of the first word
module _ (line : List ℕ) (at : ℕ) (word : List ℕ) (end : ℕ) (k : word ≡ word_bytes line (word_at line at)) (e : end ≡ (word_at line at).end) (i : at ≤ length line) where
  begins : (length word ≡ 0 → ⊥) → (word_at line at).start ≡ (word_at line at).end → ⊥
  begins d z = let n : (word_at line at).end - (word_at line at).start ≡ 0 = omega arith in d (rw (k, n))

  ends : length word ≡ 0 → (word_at line at).start ≡ (word_at line at).end
  ends z =
      let w = known line at (word_at line at) i refl in
      let n : length (word_bytes line (word_at line at)) ≡ (word_at line at).end - (word_at line at).start = length-take-le ((word_at line at).end - (word_at line at).start) (drop (word_at line at).start line) (omega (arith, length-drop (word_at line at).start line, w.forward, w.inside)) in
      omega (arith, ap length k, n, w.forward)

  -- a word takes something of the line
  pub word_less : (length word ≡ 0 → ⊥) → length line - end < length line - at
  word_less d = let w = known line at (word_at line at) i refl in omega (arith, w.begins, w.forward, w.inside, begins d)

  module _ (store found : List ℕ) (whole : Bool) (here : is_dump line (words_at line at) store found ≡ whole) where
    pub no_word : length word ≡ 0 → (b : Bool) → b ≡ same_bytes found store → b ≡ whole
    unfolding is_dump
    no_word z b s = s ∙ rw ((known line at (word_at line at) i refl).none (ends z)) at here

    module _ (d : length word ≡ 0 → ⊥) (t : Bool) (g : t ≡ in_front (number (2 ^ 64) word) found) where
      next : t & is_dump line (words_at line end) store (drop 8 found) ≡ whole
      unfolding is_dump
      next = rw (g, k, e) (rw ((known line at (word_at line at) i refl).more (begins d)) at here)

      pub other : t ≡ false → false ≡ whole
      other r = rw r at next

      pub goes_on : t ≡ true → is_dump line (words_at line end) store (take (length found - 8) (drop 8 found)) ≡ whole
      goes_on r = rw (rest_of found 8) (rw r at next)
