-- `asking::asks_more` meets its contract. Assumes nothing.
use Rattle.std.specs.List.{list_any}
use Rattle.std.proofs.lemmas.Iterator.{YieldsList-from_slice}
use Rattle.std.proofs.lemmas.Iterator.Search.{any_from_yields_List}
use Prim.Native.Nat.{ℕ}
use mathlib.Core.Path.{◌≡◌, refl, ◌∙◌}
use mathlib.Core.Bool.{Bool, true, false, ◌||◌}
use mathlib.Core.List.{List, [], ◌∷◌}
use lib.Dec.{ltb}
use borrow.Author.Rules.{rules}
use borrow.Author.Tests.{tests}
use Rattle.text.specs.Base.{◌or◌}
use Rattle.rows.specs.Rows.{at}
use Rattle.asking.specs.Asking.{asks_more}
use Rattle.asking.proofs.asks_more.Goals as goal

one_asks : (lent : ℕ) (rows : List (List ℕ)) → list_any (λ row. ltb lent (at row 2)) rows ≡ asks_more lent rows
unfolding asks_more
one_asks lent [] = refl
one_asks lent (row ∷ rows) = go (ltb lent (at row 2)) (one_asks lent rows)
  where
    go : (t : Bool) → list_any (λ row. ltb lent (at row 2)) rows ≡ asks_more lent rows → (t || list_any (λ row. ltb lent (at row 2)) rows) ≡ t or asks_more lent rows
    go true e = refl
    go false e = e

pub returns : goal.returns
unfolding at
returns c =
    any_from_yields_List (λ row. ltb c.args.lent (at row 2)) _ _ c.any.result c.any.ensures.ran (YieldsList-from_slice c.args.calls.now cc) (λ x b q k. search (rules, tests))
    ∙ one_asks c.args.lent c.args.calls.now
