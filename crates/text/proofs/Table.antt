-- A table's rule at each of its entries, from one test over the whole table, which antt computes. Assumes nothing.
use Prim.Native.Nat.{ℕ, zero, suc, ◌+◌, ◌<◌}
use mathlib.Core.Path.{◌≡◌, sym, ap, ◌∙◌}
use mathlib.Core.Bool.{Bool, true}
use mathlib.Core.List.{List, [], ◌∷◌}
use native.Mathlib.Nat.{add-zero, zero-add, add-suc, suc-add, le_of_suc-le-suc, not-suc-le-zero}
use lib.Dec.{eqb}
use lib.ListN.{length, get_or}
use borrow.Author.Tests.{eqb-true}
use Rattle.text.specs.Base.{◌&◌}
use Rattle.text.proofs.Scan.{both}

-- every entry is what the rule gives at its place, the first at i
abbrev pub follows : (rule : ℕ → ℕ) (i : ℕ) → List ℕ → Bool
follows rule i [] = true
follows rule i (x ∷ rest) = eqb x (rule i) & follows rule (suc i) rest

from : (rule : ℕ → ℕ) (table : List ℕ) (i : ℕ) → follows rule i table ≡ true → (k : ℕ) → k < length table → get_or table k 0 ≡ rule (i + k)
from rule [] i t k h = absurd (not-suc-le-zero h)
from rule (x ∷ rest) i t zero h = eqb-true x (rule i) (both (eqb x (rule i)) (follows rule (suc i) rest) t).0 ∙ ap rule (sym (add-zero i))
from rule (x ∷ rest) i t (suc k) h = from rule rest (suc i) (both (eqb x (rule i)) (follows rule (suc i) rest) t).1 k (le_of_suc-le-suc h) ∙ ap rule (suc-add i k ∙ sym (add-suc i k))

pub entry : (rule : ℕ → ℕ) (table : List ℕ) → follows rule 0 table ≡ true → (k : ℕ) → k < length table → get_or table k 0 ≡ rule k
entry rule table t k h = from rule table 0 t k h ∙ ap rule (zero-add k)
