-- `signs::is_plain` meets its contract: a pattern is plain where none of its bytes is a sign. Assumes nothing.
use Rattle.std.specs.List.{list_any}
use Rattle.std.proofs.lemmas.Iterator.{YieldsList-from_slice}
use Rattle.std.proofs.lemmas.Iterator.Search.{any_from_yields_List}
use Prim.Native.Nat.{ℕ}
use mathlib.Core.Path.{◌≡◌, refl, ap, ◌∙◌}
use mathlib.Core.Bool.{Bool, true, false, not, ◌||◌}
use mathlib.Core.List.{List, [], ◌∷◌}
use borrow.Author.Rules.{rules}
use borrow.Author.Tests.{tests}
use Rattle.text.specs.Base.{◌&◌}
use Rattle.verdicts.specs.Decisions.{signs, one_of, plain}
use Rattle.signs.proofs.is_plain.Goals as goal

none_is : (s : List ℕ) → not (list_any (one_of signs) s) ≡ plain s
unfolding plain
none_is [] = refl
none_is (b ∷ s) = go (one_of signs b) (none_is s)
  where
    go : (t : Bool) → not (list_any (one_of signs) s) ≡ plain s → not (t || list_any (one_of signs) s) ≡ not t & plain s
    go true e = refl
    go false e = e

pub returns : goal.returns
returns c =
    let any = any_from_yields_List (one_of signs) _ _ c.any.result c.any.ensures.ran (YieldsList-from_slice c.args.pattern.now cc) (λ x b q k. search (rules, tests)) in
    ap not any ∙ none_is c.args.pattern.now
