-- Laws for `back_start`. Assumes nothing.
use Prim.Native.Nat.{ℕ, ◌-◌, ◌≤◌}
use mathlib.Core.Path.{◌≡◌, sym, ap, ◌∙◌}
use mathlib.Core.List.{List, reverse, reverse-reverse}
use native.Mathlib.Omega.{arith}
use lib.ListN.{length, take}
use Rattle.text.proofs.TrimLaws.{strip_on, strip_done, back_drop}
use Rattle.text.specs.Utf8.{Range}
use Rattle.text.specs.Trim.{white_bytes, backwards, size_of, strip_from}

abbrev pub rows : List (List Range)
rows = backwards white_bytes

module _ (s : List ℕ) (i : ℕ) (whole : List ℕ) where
  abbrev pub Here : Type 0
  Here = reverse (strip_from rows 0 (reverse (take i s))) ≡ whole

  pub over : Here → i ≤ 0 → take i s ≡ whole
  unfolding strip_from
  over q h = let z : i ≡ 0 = omega arith in rw z (rw z at q)

  module _ (q : Here) (n : ℕ) (e : n ≡ size_of rows (reverse (take i s))) where
    pub stop : n ≡ 0 → take i s ≡ whole
    stop z = sym (reverse-reverse (take i s)) ∙ ap (λ (r : List ℕ). reverse r) (sym (strip_done rows (reverse (take i s)) n e z)) ∙ q

    pub on : i ≤ length s → (n ≡ 0 → ⊥) → reverse (strip_from rows 0 (reverse (take (i - n) s))) ≡ whole
    on h z = rw (back_drop s i n h) (ap (λ (r : List ℕ). reverse r) (sym (strip_on rows (reverse (take i s)) n e z)) ∙ q)

pub ruleset walk = (over, stop, on)
