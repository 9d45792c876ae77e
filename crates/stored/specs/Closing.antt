-- What is written into the lent tables when the last line of an entry has been read, by the case of `OpCall` that keeps its operation, and the record that
-- is then made; what is written behind the last line of the preamble. `ClosingLaws` shows that this is what the reading lays out. Assumes nothing.
use Rattle.std.specs.Prelude.{ℕ, ◌+◌, List, [], ◌++◌, length, Option}
use Rattle.text.specs.Base.{BLANK}
use Rattle.text.specs.declared.parts.Span.{Span}
use Rattle.script.specs.Pieces.{cut_or}
use Rattle.script.specs.Operations.{Shape, single_path, single_string, path_set, path_set_flag, path_set_mode, no_args, set_options, collect_garbage, verify_store, add_perm_root, add_signatures, add_text_to_store, add_to_store, add_multiple_to_store, add_build_log, register_drv_output, query_realisation, query_substitutable_path_info, query_substitutable_path_infos, raw_bytes, form_of}
use Rattle.script.specs.Values.{plain_rules}
use Rattle.script.specs.Contents.{pairs, items_in, set_of, features_in, or_none, unquoted_of, hex_of, data_of}
use Rattle.script.specs.Layout.{range, stored_of}
use Rattle.script.specs.declared.records.Entry.{Entry}
use Rattle.script.specs.declared.roles.Key.{Key}
use Rattle.script.specs.declared.roles.Opening.{Opening}
use Rattle.script.specs.declared.roles.Saying.{Saying}
use Rattle.records.specs.Records.{sizes, record_of}
use Rattle.records.specs.declared.calls.Sizes.{Sizes}
use Rattle.said.specs.Said.{said_of}
use Rattle.said.specs.declared.said.Operation.{Operation}

-- ---- an entry: `args` is what stands behind the operation's name, `value` the last value of each key

module _ (text : List ℕ) (value : Key → Option Span) where
  -- its values in the store, in field order: the first, the second, the third
  unfoldable pub first_stored : Shape → List ℕ
  first_stored single_path = []
  first_stored single_string = []
  first_stored path_set = []
  first_stored path_set_flag = []
  first_stored path_set_mode = []
  first_stored no_args = []
  first_stored set_options = []
  first_stored collect_garbage = []
  first_stored verify_store = []
  first_stored add_perm_root = []
  first_stored add_signatures = []
  first_stored add_text_to_store = unquoted_of plain_rules text (value Key.Suffix)
  first_stored add_to_store = unquoted_of plain_rules text (value Key.Name)
  first_stored add_multiple_to_store = stored_of (data_of plain_rules text (value Key.Data))
  first_stored add_build_log = stored_of (data_of plain_rules text (value Key.Data))
  first_stored register_drv_output = []
  first_stored query_realisation = []
  first_stored query_substitutable_path_info = []
  first_stored query_substitutable_path_infos = []
  first_stored raw_bytes = hex_of plain_rules text (value Key.Raw)

  unfoldable pub second_stored : Shape → List ℕ
  second_stored single_path = []
  second_stored single_string = []
  second_stored path_set = []
  second_stored path_set_flag = []
  second_stored path_set_mode = []
  second_stored no_args = []
  second_stored set_options = []
  second_stored collect_garbage = []
  second_stored verify_store = []
  second_stored add_perm_root = []
  second_stored add_signatures = []
  second_stored add_text_to_store = unquoted_of plain_rules text (value Key.Text)
  second_stored add_to_store = unquoted_of plain_rules text (value Key.CamStr)
  second_stored add_multiple_to_store = []
  second_stored add_build_log = []
  second_stored register_drv_output = []
  second_stored query_realisation = []
  second_stored query_substitutable_path_info = []
  second_stored query_substitutable_path_infos = []
  second_stored raw_bytes = []

  unfoldable pub third_stored : Shape → List ℕ
  third_stored single_path = []
  third_stored single_string = []
  third_stored path_set = []
  third_stored path_set_flag = []
  third_stored path_set_mode = []
  third_stored no_args = []
  third_stored set_options = []
  third_stored collect_garbage = []
  third_stored verify_store = []
  third_stored add_perm_root = []
  third_stored add_signatures = []
  third_stored add_text_to_store = []
  third_stored add_to_store = stored_of (data_of plain_rules text (value Key.Data))
  third_stored add_multiple_to_store = []
  third_stored add_build_log = []
  third_stored register_drv_output = []
  third_stored query_realisation = []
  third_stored query_substitutable_path_info = []
  third_stored query_substitutable_path_infos = []
  third_stored raw_bytes = []

  unfoldable pub stored : Shape → List ℕ
  stored sh = first_stored sh ++ second_stored sh ++ third_stored sh

  -- so many items, and how many bytes each value has
  unfoldable pub sizes_with : (items : ℕ) → Shape → Sizes
  sizes_with items sh = sizes items (length (first_stored sh)) (length (second_stored sh)) (length (third_stored sh))

module _ (text : List ℕ) (args : Span) (value : Key → Option Span) where
  -- the items of its path set; override pairs are no set: they are written line by line
  unfoldable pub set_items : Shape → List Span
  set_items single_path = []
  set_items single_string = []
  set_items path_set = items_in text args
  set_items path_set_flag = items_in text args
  set_items path_set_mode = items_in text args
  set_items no_args = []
  set_items set_options = []
  set_items collect_garbage = set_of text (value Key.Paths)
  set_items verify_store = []
  set_items add_perm_root = []
  set_items add_signatures = items_in text (cut_or text BLANK args).after
  set_items add_text_to_store = set_of text (value Key.Refs)
  set_items add_to_store = set_of text (value Key.Refs)
  set_items add_multiple_to_store = []
  set_items add_build_log = []
  set_items register_drv_output = []
  set_items query_realisation = []
  set_items query_substitutable_path_info = []
  set_items query_substitutable_path_infos = items_in text args
  set_items raw_bytes = []

  -- how much that is, behind so many items of override pairs
  unfoldable pub sizes_for : (pairs : ℕ) → Shape → Sizes
  sizes_for pairs sh = sizes_with text value (pairs + length (set_items sh)) sh

-- the items that are written as their lines come
unfoldable pub pairs_for : Shape → List Saying → List Span
pairs_for single_path ss = []
pairs_for single_string ss = []
pairs_for path_set ss = []
pairs_for path_set_flag ss = []
pairs_for path_set_mode ss = []
pairs_for no_args ss = []
pairs_for set_options ss = pairs ss
pairs_for collect_garbage ss = []
pairs_for verify_store ss = []
pairs_for add_perm_root ss = []
pairs_for add_signatures ss = []
pairs_for add_text_to_store ss = []
pairs_for add_to_store ss = []
pairs_for add_multiple_to_store ss = []
pairs_for add_build_log ss = []
pairs_for register_drv_output ss = []
pairs_for query_realisation ss = []
pairs_for query_substitutable_path_info ss = []
pairs_for query_substitutable_path_infos ss = []
pairs_for raw_bytes ss = []

-- the same of an operation whose lines have been read: the items of its path set, the bytes of its values, and how much that is
abbrev pub own_set : Operation → List Span
own_set o = set_items o.said.text.now o.opening.args (said_of o.said.heard.now) (form_of o.opening.op).shape

abbrev pub own_stored : Operation → List ℕ
own_stored o = stored o.said.text.now (said_of o.said.heard.now) (form_of o.opening.op).shape

abbrev pub own_sizes : Operation → (pairs : ℕ) → Sizes
own_sizes o pairs = sizes_for o.said.text.now o.opening.args (said_of o.said.heard.now) pairs (form_of o.opening.op).shape

-- the record of an entry that p opens, behind i items, b bytes of the store and x expectations; n of these are its own
unfoldable pub entry_record : (text : List ℕ) → (line : ℕ) → (p : Opening) → (value : Key → Option Span) → (i b : ℕ) → Sizes → (x n : ℕ) → Entry
entry_record text line p value i b z x n = record {
  line = line;
  timestamp_ms = p.stamp;
  op_call = record_of text (form_of p.op).shape p.op p.args value i b z;
  expects = range x n;
}

-- ---- the preamble

-- its features: those of the client, then those of the server
unfoldable pub front_of : (text : List ℕ) → (value : Key → Option Span) → List Span
front_of text value = or_none (features_in text (value Key.Features)) ++ or_none (features_in text (value Key.ServerFeatures))
