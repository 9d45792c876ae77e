-- `item_sets::put_features` meets its contract. Assumes nothing.
use mathlib.Core.Path.{refl, sym, ap, ◌∙◌}
use Rattle.tables.specs.Items.{items_for, features_of}
use Rattle.tables.specs.Walks.{filled_left, words_left}
use Rattle.tables.proofs.ItemLaws.{features-braced, features_apart}
use Rattle.tables.proofs.WalkLaws.{places_room, places_written}
use Rattle.item_sets.proofs.put_features.Goals as goal

pub put_places-requires : goal.put_places-requires
unfolding features_of
put_places-requires c κs =
    let i = c.in-Some.ensures in
    let same = ap items_for (features-braced c.args.v c.trimmed-q.result c.trimmed-q.ensures.text c.trimmed-q.ensures.at c.in-Some.p i.0 i.1 i.2 ∙ sym c.of.ensures) in
    ((refl, tt), (tt, (tt, places_room _ _ c.args.items.now same c.requires)))

pub put_places-requires-in-None : goal.put_places-requires-in-None
unfolding features_of
put_places-requires-in-None c κs =
    let same = ap items_for (features_apart c.args.v c.trimmed-q.result c.trimmed-q.ensures.text c.trimmed-q.ensures.at c.in-None.ensures ∙ sym c.of-in-None.ensures) in
    ((refl, tt), (tt, (tt, places_room _ _ c.args.items.now same c.requires)))

pub returns-in-Some : goal.returns-in-Some
unfolding features_of
returns-in-Some c =
    let i = c.in-Some.ensures in
    let same = ap items_for (features-braced c.args.v c.trimmed-q.result c.trimmed-q.ensures.text c.trimmed-q.ensures.at c.in-Some.p i.0 i.1 i.2 ∙ sym c.of.ensures) in
    places_written filled_left _ _ _ _ c.put_places.ensures same

pub returns-in-None : goal.returns-in-None
unfolding features_of
returns-in-None c =
    let same = ap items_for (features_apart c.args.v c.trimmed-q.result c.trimmed-q.ensures.text c.trimmed-q.ensures.at c.in-None.ensures ∙ sym c.of-in-None.ensures) in
    places_written words_left _ _ _ _ c.put_places-in-None.ensures same
