-- Laws of what is laid out in the lent tables: one part behind the other. Assumes nothing.
use mathlib.Core.Path.{◌≡◌, ap, ◌∙◌}
use mathlib.Core.List.{[], ◌++◌, map, map-append}
use Rattle.script.specs.Layout.{Tables}
use Rattle.tables.specs.Items.{item_of}
use Rattle.below.proofs.LeftLaws.{Left, left_begun, left_over, left_room, left_on}
use Rattle.entries.specs.Laid.{Lent, wrote_all, RoomFor}

-- nothing, and t before u
abbrev pub none : Tables
none = record { entries = []; items = []; expectations = []; store = [] }

abbrev pub both : Tables → Tables → Tables
both t u = record { entries = t.entries ++ u.entries; items = t.items ++ u.items; expectations = t.expectations ++ u.expectations; store = t.store ++ u.store }

-- Once v has written what is left, it is as w is once it has written all; there is room for it.
pub record Gone (all : Tables) (w : Lent) (left : Tables) (v : Lent) : Type 0 where
  pub entries_left : Left all.entries w.entries left.entries v.entries
  pub items_left : Left (map item_of all.items) w.items (map item_of left.items) v.items
  pub expectations_left : Left all.expectations w.expectations left.expectations v.expectations
  pub store_left : Left all.store w.store left.store v.store

pub gone_first : (all : Tables) (w : Lent) → RoomFor all w → Gone all w all w
gone_first all w r = record {
  entries_left = left_begun all.entries w.entries r.0;
  items_left = left_begun (map item_of all.items) w.items r.1;
  expectations_left = left_begun all.expectations w.expectations r.2;
  store_left = left_begun all.store w.store r.3;
}

module _ {all : Tables} {w : Lent} {left : Tables} {v : Lent} (g : Gone all w left v) where
  -- there is room for what is left
  pub gone_room : RoomFor left v
  gone_room = (g.entries_left.room, g.items_left.room, g.expectations_left.room, g.store_left.room)

  -- nothing is left
  pub gone_over : left ≡ none → v ≡ wrote_all all w
  unfolding wrote_all
  gone_over e =
      rw (
        ← left_over g.entries_left (ap (λ (t : Tables). t.entries) e),
        ← left_over g.items_left (ap (λ (t : Tables). map item_of t.items) e),
        ← left_over g.expectations_left (ap (λ (t : Tables). t.expectations) e),
        ← left_over g.store_left (ap (λ (t : Tables). t.store) e),
      )

  -- all that is left is written
  pub gone_all : (u : Lent) → u ≡ wrote_all left v → u ≡ wrote_all all w
  unfolding wrote_all
  gone_all u p = p ∙ rw (g.entries_left.same, g.items_left.same, g.expectations_left.same, g.store_left.same)

  -- t comes next
  module _ (t later : Tables) (e : left ≡ both t later) where
    entries_both : left.entries ≡ t.entries ++ later.entries
    entries_both = ap (λ (x : Tables). x.entries) e

    items_both : map item_of left.items ≡ map item_of t.items ++ map item_of later.items
    items_both = ap (λ (x : Tables). map item_of x.items) e ∙ map-append item_of t.items later.items

    expectations_both : left.expectations ≡ t.expectations ++ later.expectations
    expectations_both = ap (λ (x : Tables). x.expectations) e

    store_both : left.store ≡ t.store ++ later.store
    store_both = ap (λ (x : Tables). x.store) e

    pub next_room : RoomFor t v
    next_room = (
      left_room g.entries_left t.entries later.entries entries_both,
      left_room g.items_left (map item_of t.items) (map item_of later.items) items_both,
      left_room g.expectations_left t.expectations later.expectations expectations_both,
      left_room g.store_left t.store later.store store_both,
    )

    -- it is written
    pub gone_on : (u : Lent) → u ≡ wrote_all t v → Gone all w later u
    unfolding wrote_all
    gone_on u p = record {
      entries_left = left_on g.entries_left t.entries later.entries entries_both u.entries (ap (λ (x : Lent). x.entries) p);
      items_left = left_on g.items_left (map item_of t.items) (map item_of later.items) items_both u.items (ap (λ (x : Lent). x.items) p);
      expectations_left = left_on g.expectations_left t.expectations later.expectations expectations_both u.expectations (ap (λ (x : Lent). x.expectations) p);
      store_left = left_on g.store_left t.store later.store store_both u.store (ap (λ (x : Lent). x.store) p);
    }
