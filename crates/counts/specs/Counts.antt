-- How many items, or bytes of the store, a value takes. Assumes nothing.
use Rattle.std.specs.Prelude.{ℕ, List, length, Some}
use Rattle.text.specs.Base.{BLANK}
use Rattle.text.specs.declared.parts.Span.{Span}
use Rattle.script.specs.Pieces.{cut_or}
use Rattle.script.specs.Operations.{Shape, single_path, single_string, path_set, path_set_flag, path_set_mode, no_args, set_options, collect_garbage, verify_store, add_perm_root, add_signatures, add_text_to_store, add_to_store, add_multiple_to_store, add_build_log, register_drv_output, query_realisation, query_substitutable_path_info, query_substitutable_path_infos, raw_bytes}
use Rattle.script.specs.Values.{plain_rules}
use Rattle.script.specs.Sets as Sets
use Rattle.script.specs.Contents.{items_in, unquoted_of, hex_of, data_of}
use Rattle.script.specs.Layout.{stored_of}

module _ (text : List ℕ) where
  -- how many items stand on an opening line: `args` is what stands behind the operation's name
  unfoldable pub inline_items : Shape → (args : Span) → ℕ
  inline_items single_path args = 0
  inline_items single_string args = 0
  inline_items path_set args = length (items_in text args)
  inline_items path_set_flag args = length (items_in text args)
  inline_items path_set_mode args = length (items_in text args)
  inline_items no_args args = 0
  inline_items set_options args = 0
  inline_items collect_garbage args = 0
  inline_items verify_store args = 0
  inline_items add_perm_root args = 0
  inline_items add_signatures args = length (items_in text (cut_or text BLANK args).after)
  inline_items add_text_to_store args = 0
  inline_items add_to_store args = 0
  inline_items add_multiple_to_store args = 0
  inline_items add_build_log args = 0
  inline_items register_drv_output args = 0
  inline_items query_realisation args = 0
  inline_items query_substitutable_path_info args = 0
  inline_items query_substitutable_path_infos args = length (items_in text args)
  inline_items raw_bytes args = 0

  -- how many items or bytes a value takes
  unfoldable pub set_count : Span → ℕ
  set_count v = length (items_in text v)

  unfoldable pub quoted_count : Span → ℕ
  quoted_count v = length (unquoted_of plain_rules text (Some v))

  unfoldable pub data_count : Span → ℕ
  data_count v = length (stored_of (data_of plain_rules text (Some v)))

  unfoldable pub raw_count : Span → ℕ
  raw_count v = length (hex_of plain_rules text (Some v))

  unfoldable pub feature_count : Span → ℕ
  feature_count v = length (Sets.features text v)
