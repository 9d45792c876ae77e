-- The preamble and the entries: what the code writes and stores is what the reading lays out. Assumes nothing.
use Rattle.std.specs.Prelude.{None, Option}
use Prim.Native.Nat.{ℕ, ◌≤◌}
use mathlib.Core.Path.{◌≡◌, refl, sym, ap, ap₂, ◌∙◌}
use mathlib.Core.Bool.{false}
use mathlib.Core.List.{List, [], ◌++◌, map}
use native.Mathlib.Omega.{arith}
use denote.MutBor.{MutBor}
use lib.ListN.{length, length-map}
use Rattle.text.specs.Lines.{lines}
use Rattle.text.specs.declared.parts.Span.{Span}
use Rattle.script.specs.Pieces.{place}
use Rattle.script.specs.Values.{plain_rules}
use Rattle.script.specs.Roles.{Marked, roles}
use Rattle.script.specs.Contents.{sayings, expectations, last_of, value_of, features_in, lead, or_none, entries, preamble_of, contents}
use Rattle.script.specs.Layout.{Tables, tables_from, laid_preamble, laid_script}
use Rattle.script.specs.declared.records.Counts.{Counts}
use Rattle.script.specs.declared.records.Entry.{Entry}
use Rattle.script.specs.declared.records.Expectation.{Expectation}
use Rattle.script.specs.declared.records.Preamble.{Preamble}
use Rattle.script.specs.declared.records.Script.{Script}
use Rattle.script.specs.declared.roles.Key.{Key}
use Rattle.script.specs.declared.roles.Where.TheVariants.{InPreamble}
use Rattle.said.specs.Said.{said_of, SaidIn}
use Rattle.said.specs.declared.said.Heard.{Heard}
use Rattle.records.specs.Records.{preamble_record}
use Rattle.records.proofs.RecordLaws.{preamble-is, preamble_same}
use Rattle.written.specs.declared.Writer.{Writer}
use Rattle.written.specs.Writing.{writer, Room, wrote}
use Rattle.written.specs.Written.{written_at}
use Rattle.written.proofs.WriterLaws.{wrote_none, wrote_at, handed_written}
use Rattle.tables.specs.Items.{item_of, items_for}
use Rattle.stored.specs.Closing.{front_of}
use Rattle.stored.proofs.ClosingLaws.{laid_front}
use Rattle.stored.proofs.WriteLaws.{items-length}
use Rattle.below.specs.Below.{roles_at, ahead, ahead_of, pairs_items}
use Rattle.below.specs.declared.lines_below.Ahead.{Ahead}
use Rattle.entries.specs.Laid.{Lent, lent, RoomFor, wrote_all, laid_ahead}
use Rattle.entries.specs.Whole.{reading_of}
use Rattle.entries.proofs.LaidLaws.{both, Gone, gone_first, next_room, gone_on, gone_room, gone_all}
use Rattle.entries.proofs.EntriesLaws.{entries-ahead}
use Rattle.entries.proofs.InsideLaws.{values_in}

-- nothing is written yet
abbrev pub AtStart : Lent → Type 0
AtStart w = (w.items.at ≡ 0) × (w.expectations.at ≡ 0) × (w.store.at ≡ 0)

module _ (text : List ℕ) where
  abbrev ms : List Marked
  ms = roles_at text InPreamble 0 1

  abbrev above : List Marked
  above = lead ms

  abbrev front : List Span
  front = (preamble_of plain_rules text above).client_features ++ or_none (preamble_of plain_rules text above).server_features

  abbrev early : List Expectation
  early = expectations above

  -- what the preamble adds, and what the entries do
  abbrev first : Tables
  first = record { entries = []; items = map place front; expectations = early; store = [] }

  abbrev rest : Tables
  rest = tables_from (length front) (length early) 0 (entries plain_rules text ms)

  the_tables : (reading_of text).tables ≡ both first rest
  unfolding reading_of laid_script contents roles lines roles_at preamble_of
  the_tables = refl

  the_preamble : (reading_of text).script.preamble ≡ laid_preamble (preamble_of plain_rules text above)
  unfolding reading_of laid_script contents roles lines roles_at preamble_of
  the_preamble = refl

  items_count : length (map item_of (map place front)) ≡ length front
  unfolding items_for
  items_count = items-length front

  module _ (w : Lent) (start : AtStart w) (room : RoomFor (reading_of text).tables w) where
    all_left : Gone (reading_of text).tables w (reading_of text).tables w
    all_left = gone_first (reading_of text).tables w room

    first_room : RoomFor first w
    first_room = next_room all_left first rest the_tables

    -- ---- the preamble's lines write no items

    no_pairs : pairs_items false (sayings above) ≡ []
    unfolding pairs_items
    no_pairs = refl

    pub no_pairs_room : Room (length (pairs_items false (sayings above))) w.items
    no_pairs_room = omega (arith, ap length no_pairs, first_room.1)

    pub early_room : Room (length early) w.expectations
    early_room = first_room.2

    -- ---- what they say

    module _ (heard : Heard) (v : (k : Key) → said_of heard k ≡ last_of k None (sayings above)) where
      abbrev value : Key → Option Span
      value = said_of heard

      said : (k : Key) → value k ≡ value_of k (sayings above)
      unfolding value_of
      said k = v k

      pub said_in : SaidIn text heard
      said_in = values_in text InPreamble 0 1 (omega arith) heard v

      front_is : front ≡ front_of text value
      front_is = laid_front text value above said

      module _ (its : Writer (List ℕ)) (p : its ≡ wrote (pairs_items false (sayings above)) w.items) where
        same_items : its ≡ w.items
        same_items = p ∙ ap (λ (l : List (List ℕ)). wrote l w.items) no_pairs ∙ sym (wrote_none w.items)

        pub front_room : Room (length (front_of text value)) its
        front_room = rw (same_items, ← front_is) (omega (arith, first_room.1, items_count))

        module _ (expects : Writer Expectation) (q : expects ≡ wrote early w.expectations) where
          early_count : expects.at ≡ length early
          early_count = omega (arith, wrote_at early w.expectations expects q, start.1)

          pub preamble-laid : (features server : ℕ) → features ≡ length (or_none (features_in text (value Key.Features))) → server ≡ length (or_none (features_in text (value Key.ServerFeatures)))
              → (r : Preamble) → r ≡ preamble_record text value features server expects.at → r ≡ (reading_of text).script.preamble
          unfolding preamble_of features_in
          preamble-laid features server f g r e =
              e
              ∙ ap (λ (k : ℕ). preamble_record text value features server k) early_count
              ∙ ap₂ (λ (a b : ℕ). preamble_record text value a b (length early)) f g
              ∙ preamble_same text value (λ k. value_of k (sayings above)) _ _ _ said
              ∙ ap₂ (λ (a b : ℕ). preamble_record text (λ k. value_of k (sayings above)) a b (length early))
              (ap (λ (o : Option Span). length (or_none (features_in text o))) (said Key.Features))
              (ap (λ (o : Option Span). length (or_none (features_in text o))) (said Key.ServerFeatures))
              ∙ preamble-is text above
              ∙ sym the_preamble

          -- ---- its features are written, and the entries are ahead

          module _ (its' : Writer (List ℕ)) (p' : its' ≡ wrote (items_for (front_of text value)) its) (next : Option Ahead) (n : ahead_of text next ≡ ahead ms) where
            abbrev now : Lent
            now = record { entries = w.entries; items = its'; expectations = expects; store = w.store }

            first_written : now ≡ wrote_all first w
            unfolding wrote_all items_for
            first_written = rw (p', same_items, ← front_is, q, ← wrote_none w.entries, ← wrote_none w.store)

            front_count : its'.at ≡ length front
            front_count = omega (arith, wrote_at (items_for (front_of text value)) its its' p', ap (λ (u : Writer (List ℕ)). u.at) same_items, start.0, items-length (front_of text value), ap length front_is)

            rest_is : rest ≡ laid_ahead text next now
            unfolding laid_ahead
            rest_is = rw (n, ← entries-ahead text ms, front_count, early_count, start.2)

            rest_left : Gone (reading_of text).tables w (laid_ahead text next now) now
            rest_left = rw rest_is at (gone_on all_left first rest the_tables now first_written)

            pub entries_room : RoomFor (laid_ahead text next now) now
            entries_room = gone_room rest_left

            pub script_written : (u : Lent) → u ≡ wrote_all (laid_ahead text next now) now → u ≡ wrote_all (reading_of text).tables w
            script_written = gone_all rest_left

  pub script-laid : (p : Preamble) (c : Counts) (s : Script) → p ≡ (reading_of text).script.preamble → c ≡ (reading_of text).script.counts → s ≡ record { preamble = p; counts = c } → s ≡ (reading_of text).script
  script-laid p c s e f g = g ∙ ap₂ (λ (a : Preamble) (b : Counts). record { preamble = a; counts = b }) e f

-- what is lent holds all of it, from its start on
pub room_lent : (T : Tables) (entries : MutBor (List Entry)) (items : MutBor (List (List ℕ))) (expectations : MutBor (List Expectation)) (store : MutBor (List ℕ))
    → length T.entries ≤ length entries.now → length T.items ≤ length items.now → length T.expectations ≤ length expectations.now → length T.store ≤ length store.now
    → RoomFor T (lent (writer entries) (writer items) (writer expectations) (writer store))
room_lent T entries items expectations store a b c d = (omega (arith, a), omega (arith, b, length-map T.items item_of), omega (arith, c), omega (arith, d))

-- what is left where they were lent
module _ (T : Tables) (v w : Lent) (p : v ≡ wrote_all T w) where
  pub entries_written : (o : MutBor (List Entry)) → w.entries ≡ writer o → (u : List Entry) → (o.ghost_name ≡ v.entries.out.ghost_name → u ≡ v.entries.out.now) → u ≡ written_at 0 T.entries o.now
  unfolding wrote_all
  entries_written o = handed_written T.entries o w.entries v.entries (ap (λ (x : Lent). x.entries) p)

  pub items_written : (o : MutBor (List (List ℕ))) → w.items ≡ writer o → (u : List (List ℕ)) → (o.ghost_name ≡ v.items.out.ghost_name → u ≡ v.items.out.now) → u ≡ written_at 0 (map item_of T.items) o.now
  unfolding wrote_all
  items_written o = handed_written (map item_of T.items) o w.items v.items (ap (λ (x : Lent). x.items) p)

  pub expectations_written : (o : MutBor (List Expectation)) → w.expectations ≡ writer o → (u : List Expectation) → (o.ghost_name ≡ v.expectations.out.ghost_name → u ≡ v.expectations.out.now)
      → u ≡ written_at 0 T.expectations o.now
  unfolding wrote_all
  expectations_written o = handed_written T.expectations o w.expectations v.expectations (ap (λ (x : Lent). x.expectations) p)

  pub store_written : (o : MutBor (List ℕ)) → w.store ≡ writer o → (u : List ℕ) → (o.ghost_name ≡ v.store.out.ghost_name → u ≡ v.store.out.now) → u ≡ written_at 0 T.store o.now
  unfolding wrote_all
  store_written o = handed_written T.store o w.store v.store (ap (λ (x : Lent). x.store) p)
