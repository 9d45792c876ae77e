-- The record that the code computes is the one that the reading leaves. Assumes nothing.
use Rattle.std.specs.Prelude.{None, Option, Some}
use Prim.Native.Nat.{ℕ}
use mathlib.Core.Path.{◌≡◌, refl, ap, ◌∙◌, fun_ext}
use mathlib.Core.List.{List}
use lib.ListN.{length}
use Rattle.text.specs.declared.parts.Span.{Span}
use Rattle.wire.specs.declared.ops.Op.{Op}
use Rattle.script.specs.Operations.{Shape, single_path, single_string, path_set, path_set_flag, path_set_mode, no_args, set_options, collect_garbage, verify_store, add_perm_root, add_signatures, add_text_to_store, add_to_store, add_multiple_to_store, add_build_log, register_drv_output, query_realisation, query_substitutable_path_info, query_substitutable_path_infos, raw_bytes}
use Rattle.script.specs.Values.{plain_rules, Framed, inline, file_ref}
use Rattle.script.specs.Roles.{Marked}
use Rattle.script.specs.Contents.{sayings, value_of, features_in, or_none, call_of, preamble_of}
use Rattle.script.specs.Layout.{listed, stored_of, framed_at, laid, maybe_items, laid_preamble}
use Rattle.script.specs.declared.roles.Key.{Key}
use Rattle.script.specs.declared.roles.Saying.{Saying}
use Rattle.records.specs.declared.calls.Sizes.{Sizes}
use Rattle.records.specs.Records.{sizes_of, sized_at, framed_sized, options_record, garbage_record, verify_record, store_record, multiple_record, root_record, texts_record, record_of, maybe_sized, preamble_record}

-- data takes as many bytes as it has in the store
sized_is : (d : Framed) (b : ℕ) → sized_at d b (length (stored_of d)) ≡ framed_at b d
unfolding sized_at framed_at stored_of
sized_is (inline bytes) b = refl
sized_is (file_ref name) b = refl

-- with the values that the lines say, and the sizes of what they hold, it is the record that the reading lays out
module _ (text : List ℕ) (op : Op) (args : Span) (i b : ℕ) (ss : List Saying) where
  pub record_is : (sh : Shape)
      → record_of text sh op args (λ k. value_of k ss) i b (sizes_of (call_of plain_rules text sh op args ss)) ≡ (laid i b (call_of plain_rules text sh op args ss)).call
  unfolding record_of options_record garbage_record verify_record store_record multiple_record root_record texts_record framed_sized sizes_of call_of laid listed
  record_is single_path = refl
  record_is single_string = refl
  record_is path_set = refl
  record_is path_set_flag = refl
  record_is path_set_mode = refl
  record_is no_args = refl
  record_is set_options = refl
  record_is collect_garbage = refl
  record_is verify_store = refl
  record_is add_perm_root = refl
  record_is add_signatures = refl
  record_is add_text_to_store = refl
  record_is add_to_store = rw sized_is
  record_is add_multiple_to_store = rw sized_is
  record_is add_build_log = rw sized_is
  record_is register_drv_output = refl
  record_is query_realisation = refl
  record_is query_substitutable_path_info = refl
  record_is query_substitutable_path_infos = refl
  record_is raw_bytes = refl

-- it depends on nothing but the value of each key
pub record_same : (text : List ℕ) (sh : Shape) (op : Op) (args : Span) (f g : Key → Option Span) (i b : ℕ) (z : Sizes) → ((k : Key) → f k ≡ g k)
    → record_of text sh op args f i b z ≡ record_of text sh op args g i b z
record_same text sh op args f g i b z h = ap (λ (v : Key → Option Span). record_of text sh op args v i b z) (fun_ext h)

-- so what is said and what it takes give the record
pub record_laid : (text : List ℕ) (sh : Shape) (op : Op) (args : Span) (value : Key → Option Span) (i b : ℕ) (z : Sizes) (ss : List Saying)
    → ((k : Key) → value k ≡ value_of k ss) → z ≡ sizes_of (call_of plain_rules text sh op args ss)
    → record_of text sh op args value i b z ≡ (laid i b (call_of plain_rules text sh op args ss)).call
record_laid text sh op args value i b z ss h e =
    record_same text sh op args value (λ k. value_of k ss) i b z h
    ∙ ap (record_of text sh op args (λ k. value_of k ss) i b) e
    ∙ record_is text op args i b ss sh

-- ---- the preamble

server_is : (text : List ℕ) (said : Option Span) (before : ℕ) → maybe_sized said before (length (or_none (features_in text said))) ≡ maybe_items before (features_in text said)
unfolding maybe_sized features_in or_none maybe_items listed
server_is text None before = refl
server_is text (Some v) before = refl

-- with what its lines say, and with how many features and expectations it has, it is the preamble that the reading lays out
pub preamble-is : (text : List ℕ) (ms : List Marked)
    → preamble_record text (λ k. value_of k (sayings ms)) (length (preamble_of plain_rules text ms).client_features) (length (or_none (preamble_of plain_rules text ms).server_features)) (length (preamble_of plain_rules text ms).expects)
    ≡ laid_preamble (preamble_of plain_rules text ms)
unfolding preamble_record laid_preamble preamble_of listed
preamble-is text ms =
    rw (server_is text (value_of Key.ServerFeatures (sayings ms)) (length (or_none (features_in text (value_of Key.Features (sayings ms))))))

pub preamble_same : (text : List ℕ) (f g : Key → Option Span) (features server expects : ℕ) → ((k : Key) → f k ≡ g k)
    → preamble_record text f features server expects ≡ preamble_record text g features server expects
preamble_same text f g features server expects h = ap (λ (v : Key → Option Span). preamble_record text v features server expects) (fun_ext h)
