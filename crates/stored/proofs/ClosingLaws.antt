-- What is written, and the record that is made, are what the reading lays out, where `value` has the last value of each key. Assumes nothing.
use Rattle.std.specs.Prelude.{Option}
use Prim.Native.Nat.{ℕ, ◌+◌, ◌≤◌}
use mathlib.Core.Path.{◌≡◌, refl, sym, ap, ◌∙◌, fun_ext}
use mathlib.Core.List.{List, ◌++◌, map, append-nil}
use native.Mathlib.Nat.{add-zero, zero-add}
use native.Mathlib.Omega.{arith}
use lib.ListN.{length, length-append, length-map}
use Rattle.text.specs.Base.{BLANK}
use Rattle.text.specs.declared.parts.Span.{Span}
use Rattle.wire.specs.declared.ops.Op.{Op}
use Rattle.script.specs.Pieces.{place, cut_or}
use Rattle.script.specs.Operations.{Shape, single_path, single_string, path_set, path_set_flag, path_set_mode, no_args, set_options, collect_garbage, verify_store, add_perm_root, add_signatures, add_text_to_store, add_to_store, add_multiple_to_store, add_build_log, register_drv_output, query_realisation, query_substitutable_path_info, query_substitutable_path_infos, raw_bytes, form_of}
use Rattle.script.specs.Values.{plain_rules}
use Rattle.script.specs.Roles.{Marked}
use Rattle.script.specs.Contents.{sayings, value_of, pairs, items_in, set_of, or_none, unquoted_of, data_of, hex_of, call_of, preamble_of}
use Rattle.script.specs.Layout.{listed, stored_of, laid}
use Rattle.script.specs.declared.records.Expectation.{Expectation}
use Rattle.script.specs.declared.roles.Key.{Key}
use Rattle.script.specs.declared.roles.Opening.{Opening}
use Rattle.script.specs.declared.roles.Saying.{Saying}
use Rattle.records.specs.Records.{sizes_of, record_of}
use Rattle.records.specs.declared.calls.Sizes.{Sizes}
use Rattle.records.proofs.RecordLaws.{record_laid}
use Rattle.stored.specs.Closing.{set_items, first_stored, second_stored, third_stored, stored, sizes_with, sizes_for, pairs_for, entry_record, front_of}
use Rattle.stored.proofs.WriteLaws.{alone}

module _ (text : List ℕ) (op : Op) (args : Span) (i b : ℕ) (ss : List Saying) where
  -- the items: override pairs as their lines come, then the path set
  items_are : (sh : Shape) → (laid i b (call_of plain_rules text sh op args ss)).items ≡ map place (pairs_for sh ss ++ set_items text args (λ k. value_of k ss) sh)
  unfolding laid call_of pairs_for set_items
  items_are single_path = refl
  items_are single_string = refl
  items_are path_set = refl
  items_are path_set_flag = refl
  items_are path_set_mode = refl
  items_are no_args = refl
  items_are set_options = rw (append-nil (pairs ss))
  items_are collect_garbage = refl
  items_are verify_store = refl
  items_are add_perm_root = refl
  items_are add_signatures = refl
  items_are add_text_to_store = refl
  items_are add_to_store = refl
  items_are add_multiple_to_store = refl
  items_are add_build_log = refl
  items_are register_drv_output = refl
  items_are query_realisation = refl
  items_are query_substitutable_path_info = refl
  items_are query_substitutable_path_infos = refl
  items_are raw_bytes = refl

  -- the bytes of the store
  store_is : (sh : Shape) → (laid i b (call_of plain_rules text sh op args ss)).store ≡ stored text (λ k. value_of k ss) sh
  unfolding laid call_of stored first_stored second_stored third_stored
  store_is single_path = refl
  store_is single_string = refl
  store_is path_set = refl
  store_is path_set_flag = refl
  store_is path_set_mode = refl
  store_is no_args = refl
  store_is set_options = refl
  store_is collect_garbage = refl
  store_is verify_store = refl
  store_is add_perm_root = refl
  store_is add_signatures = refl
  store_is add_text_to_store = sym (append-nil (unquoted_of plain_rules text (value_of Key.Suffix ss) ++ unquoted_of plain_rules text (value_of Key.Text ss)))
  store_is add_to_store = refl
  store_is add_multiple_to_store = alone (stored_of (data_of plain_rules text (value_of Key.Data ss)))
  store_is add_build_log = alone (stored_of (data_of plain_rules text (value_of Key.Data ss)))
  store_is register_drv_output = refl
  store_is query_realisation = refl
  store_is query_substitutable_path_info = refl
  store_is query_substitutable_path_infos = refl
  store_is raw_bytes = alone (hex_of plain_rules text (value_of Key.Raw ss))

  -- how many items and bytes
  sizes_are : (sh : Shape) → sizes_for text args (λ k. value_of k ss) (length (pairs_for sh ss)) sh ≡ sizes_of (call_of plain_rules text sh op args ss)
  unfolding sizes_for sizes_with sizes_of call_of pairs_for set_items first_stored second_stored third_stored
  sizes_are single_path = refl
  sizes_are single_string = refl
  sizes_are path_set = rw (zero-add (length (items_in text args)))
  sizes_are path_set_flag = rw (zero-add (length (items_in text args)))
  sizes_are path_set_mode = rw (zero-add (length (items_in text args)))
  sizes_are no_args = refl
  sizes_are set_options = rw (add-zero (length (pairs ss)))
  sizes_are collect_garbage = rw (zero-add (length (set_of text (value_of Key.Paths ss))))
  sizes_are verify_store = refl
  sizes_are add_perm_root = refl
  sizes_are add_signatures = rw (zero-add (length (items_in text (cut_or text BLANK args).after)))
  sizes_are add_text_to_store = rw (zero-add (length (set_of text (value_of Key.Refs ss))))
  sizes_are add_to_store = rw (zero-add (length (set_of text (value_of Key.Refs ss))))
  sizes_are add_multiple_to_store = refl
  sizes_are add_build_log = refl
  sizes_are register_drv_output = refl
  sizes_are query_realisation = refl
  sizes_are query_substitutable_path_info = refl
  sizes_are query_substitutable_path_infos = rw (zero-add (length (items_in text args)))
  sizes_are raw_bytes = refl

-- the bytes of the values are those of the store
module _ (text : List ℕ) (args : Span) (value : Key → Option Span) (pairs : ℕ) (sh : Shape) (z : Sizes) (e : z ≡ sizes_for text args value pairs sh) where
  pub sizes-sum : z.first + z.second + z.third ≡ length (stored text value sh)
  unfolding sizes_for sizes_with stored
  sizes-sum =
      let a = length-append (first_stored text value sh ++ second_stored text value sh) (third_stored text value sh) in
      let b = length-append (first_stored text value sh) (second_stored text value sh) in
      rw e (omega arith)

  -- so the first and the second end where there is room for all
  pub sizes-room : (b m : ℕ) → b + length (stored text value sh) ≤ m → b + z.first + z.second ≤ m
  sizes-room b m h = omega (arith, sizes-sum)

module _ (text : List ℕ) (sh : Shape) (op : Op) (args : Span) (value : Key → Option Span) (i b : ℕ) where
  -- the items that an entry adds
  pub laid-items : (ss : List Saying) → ((k : Key) → value k ≡ value_of k ss) → (laid i b (call_of plain_rules text sh op args ss)).items ≡ map place (pairs_for sh ss ++ set_items text args value sh)
  laid-items ss h = items_are text op args i b ss sh ∙ ap (λ (v : Key → Option Span). map place (pairs_for sh ss ++ set_items text args v sh)) (sym (fun_ext h))

  -- the bytes of the store that it adds
  pub laid-store : (ss : List Saying) → ((k : Key) → value k ≡ value_of k ss) → (laid i b (call_of plain_rules text sh op args ss)).store ≡ stored text value sh
  laid-store ss h = store_is text op args i b ss sh ∙ ap (λ (v : Key → Option Span). stored text v sh) (sym (fun_ext h))

  -- its record
  pub laid-call : (z : Sizes) (ss : List Saying) → ((k : Key) → value k ≡ value_of k ss) → z ≡ sizes_for text args value (length (pairs_for sh ss)) sh
      → (laid i b (call_of plain_rules text sh op args ss)).call ≡ record_of text sh op args value i b z
  laid-call z ss h e =
      sym (record_laid text sh op args value i b z ss h (e ∙ ap (λ (v : Key → Option Span). sizes_for text args v (length (pairs_for sh ss)) sh) (fun_ext h) ∙ sizes_are text op args i b ss sh))

  -- how many items and bytes that are
  pub laid_item_count : (z : Sizes) (ss : List Saying) → ((k : Key) → value k ≡ value_of k ss) → z ≡ sizes_for text args value (length (pairs_for sh ss)) sh
      → z.items ≡ length (laid i b (call_of plain_rules text sh op args ss)).items
  unfolding sizes_for sizes_with
  laid_item_count z ss h e =
      ap (λ (y : Sizes). y.items) e
      ∙ sym (length-append (pairs_for sh ss) (set_items text args value sh))
      ∙ sym (length-map (pairs_for sh ss ++ set_items text args value sh) place)
      ∙ ap length (sym (laid-items ss h))

  pub laid_store_count : (z : Sizes) (ss : List Saying) → ((k : Key) → value k ≡ value_of k ss) → z ≡ sizes_for text args value (length (pairs_for sh ss)) sh
      → z.first + z.second + z.third ≡ length (laid i b (call_of plain_rules text sh op args ss)).store
  laid_store_count z ss h e = sizes-sum text args value (length (pairs_for sh ss)) sh z e ∙ ap length (sym (laid-store ss h))

-- the record of an entry that p opens; `es` are its expectations
pub laid_entry_lem : (text : List ℕ) (line : ℕ) (p : Opening) (value : Key → Option Span) (i b : ℕ) (z : Sizes) (x : ℕ) (es : List Expectation) (ss : List Saying)
    → ((k : Key) → value k ≡ value_of k ss) → z ≡ sizes_for text p.args value (length (pairs_for (form_of p.op).shape ss)) (form_of p.op).shape
    → record { line = line; timestamp_ms = p.stamp; op_call = (laid i b (call_of plain_rules text (form_of p.op).shape p.op p.args ss)).call; expects = listed x es }
    ≡ entry_record text line p value i b z x (length es)
unfolding entry_record listed
laid_entry_lem text line p value i b z x es ss h e = rw (laid-call text (form_of p.op).shape p.op p.args value i b z ss h e)

-- the items of the preamble
pub laid_front : (text : List ℕ) (value : Key → Option Span) (ms : List Marked) → ((k : Key) → value k ≡ value_of k (sayings ms))
    → (preamble_of plain_rules text ms).client_features ++ or_none (preamble_of plain_rules text ms).server_features ≡ front_of text value
unfolding front_of preamble_of
laid_front text value ms h = ap (λ (v : Key → Option Span). front_of text v) (sym (fun_ext h))
