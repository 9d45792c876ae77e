-- Laws for `front_end`. Assumes nothing.
use Prim.Native.Nat.{ℕ, ◌+◌, ◌≤◌}
use mathlib.Core.Path.{◌≡◌, sym, ◌∙◌}
use mathlib.Core.List.{List}
use lib.ListN.{length, drop}
use lib.Seq.{drop-drop}
use Rattle.text.proofs.Scan.{rest-none}
use Rattle.text.proofs.TrimLaws.{strip_on, strip_done}
use Rattle.text.specs.Trim.{white_bytes, size_of, strip_from}

module _ (s : List ℕ) (i : ℕ) (whole : List ℕ) where
  abbrev pub Here : Type 0
  Here = strip_from white_bytes 0 (drop i s) ≡ whole

  pub over : Here → length s ≤ i → drop i s ≡ whole
  unfolding strip_from
  over q h = rw (rest-none s i h) (rw (rest-none s i h) at q)

  module _ (q : Here) (n : ℕ) (e : n ≡ size_of white_bytes (drop i s)) where
    pub stop : n ≡ 0 → drop i s ≡ whole
    stop z = sym (strip_done white_bytes (drop i s) n e z) ∙ q

    pub on : (n ≡ 0 → ⊥) → strip_from white_bytes 0 (drop (i + n) s) ≡ whole
    on z = rw (← drop-drop n i s) (sym (strip_on white_bytes (drop i s) n e z) ∙ q)

pub ruleset walk = (over, stop, on)
