-- `item_sets::put_path` meets its contract. Assumes nothing.
use mathlib.Core.Path.{refl, sym, ap, ◌∙◌}
use Rattle.tables.specs.Items.{items_for}
use Rattle.tables.specs.Walks.{items_left}
use Rattle.tables.proofs.ItemLaws.{path_parts}
use Rattle.tables.proofs.WalkLaws.{places_room, places_written}
use Rattle.item_sets.proofs.put_path.Goals as goal

pub put_places-requires : goal.put_places-requires
put_places-requires c κs =
    let same = path_parts _ _ (sym c.is_empty.ensures ∙ c.if-not-is_empty.true) ∙ ap items_for (sym c.of.ensures) in
    ((refl, tt), (tt, (tt, places_room _ _ c.args.items.now same c.requires)))

pub returns-then-not-is_empty : goal.returns-then-not-is_empty
returns-then-not-is_empty c =
    let same = path_parts _ _ (sym c.is_empty.ensures ∙ c.if-not-is_empty.true) ∙ ap items_for (sym c.of.ensures) in
    places_written items_left _ _ _ _ c.put_places.ensures same
