-- Laws for `search::contains`. Assumes nothing.
use Prim.Native.Nat.{ℕ, ◌+◌, ◌-◌, ◌≤◌, ◌<◌}
use mathlib.Core.Path.{◌≡◌, sym, ◌∙◌}
use mathlib.Core.Bool.{Bool, true, false}
use mathlib.Core.List.{List}
use native.Mathlib.Omega.{arith}
use lib.ListN.{length-drop, length, get_or, take, drop}
use Rattle.text.specs.Parts.{starts_with}
use Rattle.verdicts.specs.Decisions.{contains}
use Rattle.finding.specs.Places.{Apart}
use Rattle.finding.proofs.SearchLaws.{empty_in}
use Rattle.finding.proofs.PlaceLaws.{short_left, found_at, not_at, passed_by}
use lib.Seq.{take_all}

-- the part of a text from i on is its rest
pub rest-is : (s : List ℕ) (i : ℕ) → take (length s - i) (drop i s) ≡ drop i s
rest-is s i = take_all (length s - i) (drop i s) (omega (arith, length-drop i s))

-- how far the last byte stands behind the first
abbrev pub reach : (p : List ℕ) → ℕ
reach p = length p - 1

abbrev pub Clear : (p s : List ℕ) (i j : ℕ) → Type 0
Clear p s i j = Apart (get_or p 0 0) (get_or p (reach p) 0) (reach p) s i j

module _ (p s : List ℕ) (n : length p ≡ 0 → ⊥) (i : ℕ) (e : contains p (drop i s) ≡ contains p s) where
  pub over : length s < i + length p → false ≡ contains p s
  over h = sym (short_left p s i n h) ∙ e

  -- the places up to r are passed by, and b says whether the pattern stands there
  module _ (r : ℕ) (l : i ≤ r) (h : r + reach p ≤ length s) (w : Clear p s i r) (b : Bool) (q : b ≡ starts_with p (take (length s - r) (drop r s))) where
    pub at-r : contains p (drop r s) ≡ contains p s
    at-r = passed_by p s (reach p) i r (omega arith) l h w ∙ e

    pub here : b ≡ true → true ≡ contains p s
    here t = sym (found_at p s r n (sym (rw (rest-is s r) at q) ∙ t)) ∙ at-r

    pub later : b ≡ false → contains p (drop (r + 1) s) ≡ contains p s
    later f = sym (not_at p s r n (sym (rw (rest-is s r) at q) ∙ f)) ∙ at-r

pub ruleset walk = (empty_in, over, here, later)
