-- One entry: what the code writes and stores is what the reading lays out. Assumes nothing.
use Rattle.std.specs.Prelude.{None, Option}
use Prim.Native.Nat.{ℕ, ◌+◌, ◌-◌, ◌≤◌, ◌<◌}
use mathlib.Core.Path.{◌≡◌, refl, sym, ap, ◌∙◌}
use mathlib.Core.Bool.{Bool}
use mathlib.Core.List.{List, [], ◌∷◌, ◌++◌, map}
use native.Mathlib.Omega.{arith}
use lib.ListN.{length}
use Rattle.text.specs.declared.parts.Span.{Span}
use Rattle.script.specs.Operations.{Shape, single_path, single_string, path_set, path_set_flag, path_set_mode, no_args, set_options, collect_garbage, verify_store, add_perm_root, add_signatures, add_text_to_store, add_to_store, add_multiple_to_store, add_build_log, register_drv_output, query_realisation, query_substitutable_path_info, query_substitutable_path_infos, raw_bytes, form_of}
use Rattle.script.specs.Roles.{Marked}
use Rattle.script.specs.Contents.{Call, sayings, expectations, last_of, value_of, lead, entry_of}
use Rattle.script.specs.Layout.{laid}
use Rattle.script.specs.declared.records.Entry.{Entry}
use Rattle.script.specs.declared.records.Expectation.{Expectation}
use Rattle.script.specs.declared.roles.Key.{Key}
use Rattle.script.specs.declared.roles.Saying.{Saying}
use Rattle.said.specs.Said.{said_of, SaidIn}
use Rattle.said.specs.declared.said.Heard.{Heard}
use Rattle.records.specs.declared.calls.Sizes.{Sizes}
use Rattle.written.specs.declared.Writer.{Writer}
use Rattle.written.specs.Writing.{Room, wrote}
use Rattle.written.proofs.WriterLaws.{room_front, room_behind, wrote_behind}
use Rattle.tables.specs.Items.{item_of, items_for}
use Rattle.below.proofs.LeftLaws.{went_by}
use Rattle.stored.specs.Closing.{set_items, stored, sizes_for, pairs_for, entry_record}
use Rattle.stored.proofs.ClosingLaws.{laid-items, laid-store, sizes-room, laid_entry_lem}
use Rattle.stored.proofs.WriteLaws.{items-length, items-append}
use Rattle.below.specs.Below.{roles_at, pairs_items}
use Rattle.below.specs.declared.lines_below.Ahead.{Ahead}
use Rattle.entries.specs.Entries.{takes_pairs, entry_at, laid_entry}
use Rattle.entries.specs.Laid.{Lent, laid_one, wrote_all, RoomFor}
use Rattle.entries.proofs.InsideLaws.{values_in}

-- the pairs that the lines write are those of the operation
pairs_by : (sh : Shape) (ss : List Saying) → pairs_items (takes_pairs sh) ss ≡ items_for (pairs_for sh ss)
unfolding takes_pairs pairs_items pairs_for items_for
pairs_by single_path ss = refl
pairs_by single_string ss = refl
pairs_by path_set ss = refl
pairs_by path_set_flag ss = refl
pairs_by path_set_mode ss = refl
pairs_by no_args ss = refl
pairs_by set_options ss = refl
pairs_by collect_garbage ss = refl
pairs_by verify_store ss = refl
pairs_by add_perm_root ss = refl
pairs_by add_signatures ss = refl
pairs_by add_text_to_store ss = refl
pairs_by add_to_store ss = refl
pairs_by add_multiple_to_store ss = refl
pairs_by add_build_log ss = refl
pairs_by register_drv_output ss = refl
pairs_by query_realisation ss = refl
pairs_by query_substitutable_path_info ss = refl
pairs_by query_substitutable_path_infos ss = refl
pairs_by raw_bytes ss = refl

module _ (text : List ℕ) (a : Ahead) (w : Lent) (room : RoomFor (laid_one w (entry_at text a)) w) where
  abbrev sh : Shape
  sh = (form_of a.opening.op).shape

  abbrev args : Span
  args = a.opening.args

  abbrev ms : List Marked
  ms = lead (roles_at text a.stands a.at (a.line + 1))

  abbrev ss : List Saying
  ss = sayings ms

  abbrev call : Call
  call = (entry_at text a).call

  abbrev i : ℕ
  i = w.items.at

  abbrev b : ℕ
  b = w.store.at

  -- ---- before its lines are read

  items_room : Room (length (map item_of (laid i b call).items)) w.items
  unfolding laid_one
  items_room = room.1

  pub expects_room : Room (length (expectations ms)) w.expectations
  unfolding laid_one entry_at entry_of
  expects_room = room.2

  pub entry_place : Room 1 w.entries
  unfolding laid_one
  entry_place = room.0

  store_room : Room (length (laid i b call).store) w.store
  unfolding laid_one
  store_room = room.3

  module _ (options : Bool) (o : options ≡ takes_pairs sh) where
    pairs_are : pairs_items options ss ≡ items_for (pairs_for sh ss)
    pairs_are = rw o (pairs_by sh ss)

    -- the items are the pairs, then those of the set
    items_are : (value : Key → Option Span) → ((k : Key) → value k ≡ value_of k ss) → map item_of (laid i b call).items ≡ pairs_items options ss ++ items_for (set_items text args value sh)
    unfolding entry_at entry_of items_for
    items_are value said =
        ap (map item_of) (laid-items text sh a.opening.op args value i b ss said)
        ∙ items-append (pairs_for sh ss) (set_items text args value sh)
        ∙ ap (λ (l : List (List ℕ)). l ++ items_for (set_items text args value sh)) (sym pairs_are)

    -- there is room for the pairs
    pub pairs_room : Room (length (pairs_items options ss)) w.items
    pairs_room = room_front (pairs_items options ss) _ (map item_of (laid i b call).items) w.items (items_are (λ k. value_of k ss) (λ k. refl)) items_room

    -- ---- once they are read: the values that they leave, and the pairs

    module _ (heard : Heard) (v : (k : Key) → said_of heard k ≡ last_of k None ss) where
      abbrev value : Key → Option Span
      value = said_of heard

      abbrev set : List (List ℕ)
      set = items_for (set_items text args value sh)

      said : (k : Key) → value k ≡ value_of k ss
      unfolding value_of
      said k = v k

      pub said_in : a.at ≤ length text → SaidIn text heard
      said_in h = values_in text a.stands a.at (a.line + 1) h heard v

      all_stored : (laid i b call).store ≡ stored text value sh
      unfolding entry_at entry_of
      all_stored = laid-store text sh a.opening.op args value i b ss said

      pub stored_room : Room (length (stored text value sh)) w.store
      stored_room = rw (← all_stored) store_room

      module _ (its : Writer (List ℕ)) (p : its ≡ wrote (pairs_items options ss) w.items) where
        pub set_room : Room (length (set_items text args value sh)) its
        set_room =
            omega (
              arith,
              room_behind (pairs_items options ss) w.items its p set (map item_of (laid i b call).items) (items_are value said) items_room,
              items-length (set_items text args value sh),
            )

        -- ---- once its values are written

        module _ (at : ℕ) (f : at ≡ its.at) (z : Sizes) (e : z ≡ sizes_for text args value (at - i) sh) where
          pub entry_fits : length w.store.out.now < 18446744073709551616 → b + z.first + z.second < 18446744073709551616
          entry_fits l = omega (arith, sizes-room text args value (at - i) sh z e b (length w.store.out.now) stored_room)

          pairs_count : at - i ≡ length (pairs_for sh ss)
          pairs_count = went_by (pairs_items options ss) w.items its p at f ∙ ap length pairs_are ∙ items-length (pairs_for sh ss)

          -- the record
          entry_laid : (n : ℕ) (r : Entry) → n ≡ length (expectations ms) → r ≡ entry_record text a.line a.opening value i b z w.expectations.at n → r ≡ laid_entry i w.expectations.at b (entry_at text a)
          unfolding laid_entry entry_at entry_of
          entry_laid n r q h =
              h
              ∙ ap (entry_record text a.line a.opening value i b z w.expectations.at) q
              ∙ sym (laid_entry_lem text a.line a.opening value i b z w.expectations.at (expectations ms) ss said (e ∙ ap (λ (k : ℕ). sizes_for text args value k sh) pairs_count))

          -- the four tables
          pub entry_written : (expects : Writer Expectation) → expects ≡ wrote (expectations ms) w.expectations → (n : ℕ) → n ≡ expects.at
              → (r : Entry) → r ≡ entry_record text a.line a.opening value i b z w.expectations.at (n - w.expectations.at)
              → (es : Writer Entry) → es ≡ wrote (r ∷ []) w.entries → (its' : Writer (List ℕ)) → its' ≡ wrote set its → (st : Writer ℕ) → st ≡ wrote (stored text value sh) w.store
              → record { entries = es; items = its'; expectations = expects; store = st } ≡ wrote_all (laid_one w (entry_at text a)) w
          unfolding wrote_all laid_one entry_at entry_of
          entry_written expects q n g r h es t1 its' t2 st t4 =
              rw (
                t1,
                entry_laid (n - w.expectations.at) r (went_by (expectations ms) w.expectations expects q n g) h,
                wrote_behind (pairs_items options ss) w.items its p set (map item_of (laid i b call).items) (items_are value said) items_room its' t2,
                q,
                t4,
                all_stored,
              )
