-- What reading writes of one value into the lent tables. An item is a place, two numbers of the table: where it starts and how many bytes it has.
-- Assumes nothing.
use Rattle.std.specs.Prelude.{ℕ, List, [], ◌∷◌, map}
use Rattle.text.specs.declared.parts.Span.{Span}
use Rattle.script.specs.Contents.{items_in}
use Rattle.script.specs.Pieces.{place}
use Rattle.script.specs.Sets as Sets
use Rattle.script.specs.declared.records.Place.{Place}

unfoldable pub item_of : Place → List ℕ
item_of p = p.start ∷ p.len ∷ []

-- the items of some pieces
unfoldable pub items_for : List Span → List (List ℕ)
items_for ps = map item_of (map place ps)

module _ (text : List ℕ) where
  -- the items of a path set, and of a feature set
  unfoldable pub items_of : Span → List (List ℕ)
  items_of v = items_for (items_in text v)

  unfoldable pub features_of : Span → List (List ℕ)
  features_of v = items_for (Sets.features text v)
