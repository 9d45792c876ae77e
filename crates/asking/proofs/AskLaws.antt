-- What the calls ask of the scratch, row by row. Assumes nothing.
use Prim.Native.Nat.{ℕ, suc, ◌+◌, ◌≤◌, ◌<◌}
use mathlib.Core.Path.{◌≡◌, ap, ◌∙◌}
use mathlib.Core.Bool.{false}
use mathlib.Core.List.{List, [], ◌∷◌}
use native.Mathlib.Omega.{arith}
use lib.ListN.{length, drop, get_or}
use lib.Seq.{drop-cons}
use lib.Dec.{ltb}
use borrow.Author.Tests.{ltb-false}
use Rattle.rows.specs.Rows.{at}
use Rattle.judging.proofs.Orders.{neither}
use Rattle.asking.specs.Asking.{asks_more}

-- the rows from i on are row i and those behind it
pub rows_from : (rows : List (List ℕ)) (i : ℕ) → i < length rows → drop i rows ≡ get_or rows i [] ∷ drop (i + 1) rows
rows_from rows i h =
    let e : suc i ≡ i + 1 = omega arith in
    drop-cons rows i [] h ∙ ap (λ (n : ℕ). get_or rows i [] ∷ drop n rows) e

module _ (lent : ℕ) (rows : List (List ℕ)) (i : ℕ) where
  -- where no row asks for more, row i does not, nor do those behind it
  pub lent_here : i < length rows → asks_more lent (drop i rows) ≡ false → at (get_or rows i []) 2 ≤ lent
  unfolding asks_more
  lent_here h e = ltb-false lent (at (get_or rows i []) 2) (neither (ltb lent (at (get_or rows i []) 2)) (asks_more lent (drop (i + 1) rows)) (rw (rows_from rows i h) at e)).0

  pub lent_later : i < length rows → asks_more lent (drop i rows) ≡ false → asks_more lent (drop (i + 1) rows) ≡ false
  unfolding asks_more
  lent_later h e = (neither (ltb lent (at (get_or rows i []) 2)) (asks_more lent (drop (i + 1) rows)) (rw (rows_from rows i h) at e)).1
