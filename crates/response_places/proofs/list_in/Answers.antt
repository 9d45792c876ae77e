-- `response_places::list_in` meets its contract: each text of the range is tested. Assumes nothing.
use Rattle.std.specs.List.{list_all}
use Rattle.std.proofs.lemmas.Iterator.{YieldsList-from_slice}
use Rattle.std.proofs.lemmas.Iterator.Search.{all_from_yields_List}
use Prim.Native.Nat.{ℕ}
use mathlib.Core.Path.{◌≡◌, refl, sym, ap, ◌∙◌}
use mathlib.Core.Bool.{Bool, true, false, ◌&&◌}
use mathlib.Core.List.{List, [], ◌∷◌}
use lib.ListN.{get_or}
use borrow.Author.Rules.{rules}
use borrow.Author.Tests.{tests}
use Rattle.text.specs.Base.{◌&◌}
use Rattle.verdicts.specs.Held.{inside, items_in, list_in}
use Rattle.response_places.proofs.list_in.Goals as goal

abbrev test : ℕ → List ℕ → Bool
test n item = inside n (get_or item 0 0) (get_or item 1 0)

all_are : (n : ℕ) (items : List (List ℕ)) → list_all (test n) items ≡ items_in n items
unfolding items_in
all_are n [] = refl
all_are n (item ∷ items) = go (test n item) (all_are n items)
  where
    go : (t : Bool) → list_all (test n) items ≡ items_in n items → (t && list_all (test n) items) ≡ t & items_in n items
    go true e = e
    go false e = refl

second : (a b r : Bool) → a ≡ true → r ≡ b → r ≡ a & b
second a b r h e = rw (h, e)

pub returns-then-inside : goal.returns-then-inside
unfolding list_in
returns-then-inside c =
    let all = all_from_yields_List (test c.args.n) _ _ c.all.result c.all.ensures.ran (YieldsList-from_slice c.part_of.result.now cc) (λ x b q k. search (rules, tests)) in
    let inside_it = ap (λ (room : ℕ). inside room c.args.r.first c.args.r.count) (sym c.room.ensures) ∙ sym c.inside.ensures ∙ c.if-inside.true in
    second _ _ _ inside_it (all ∙ all_are c.args.n c.part_of.result.now ∙ ap (items_in c.args.n) c.part_of.ensures)
