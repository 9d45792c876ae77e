-- The record of one entry and that of the preamble, from what was said and from how many items and bytes that takes. `RecordLaws` shows that they are the
-- records of the reading. Assumes nothing.
use Rattle.std.specs.Prelude.{ℕ, ◌+◌, List, length, None, Option, Some}
use Rattle.text.specs.Base.{BLANK}
use Rattle.text.specs.declared.parts.Span.{Span}
use Rattle.wire.specs.declared.ops.Op.{Op}
use Rattle.script.specs.Pieces.{place_of, place, is, cut_or}
use Rattle.script.specs.Operations.{Shape, single_path, single_string, path_set, path_set_flag, path_set_mode, no_args, set_options, collect_garbage, verify_store, add_perm_root, add_signatures, add_text_to_store, add_to_store, add_multiple_to_store, add_build_log, register_drv_output, query_realisation, query_substitutable_path_info, query_substitutable_path_infos, raw_bytes}
use Rattle.script.specs.Values.{plain_rules, Framed, inline, file_ref}
use Rattle.script.specs.Contents.{number_of, flag_of, rest_of, version_in, data_of, Call, SinglePath, SingleString, PathSet, PathSetFlag, PathSetMode, NoArgs, SetOptions, CollectGarbage, VerifyStore, AddPermRoot, AddSignatures, AddTextToStore, AddToStore, AddMultipleToStore, AddBuildLog, RegisterDrvOutput, QueryRealisation, QuerySubstitutablePathInfo, QuerySubstitutablePathInfos, RawBytes}
use Rattle.script.specs.Layout.{range, stored_of, maybe}
use Rattle.script.specs.declared.records.Items.{Items}
use Rattle.script.specs.declared.records.FramedData.{FramedData}
use Rattle.script.specs.declared.records.Options.{Options}
use Rattle.script.specs.declared.records.OpCall.{OpCall}
use Rattle.script.specs.declared.records.Preamble.{Preamble}
use Rattle.script.specs.declared.roles.Key.{Key}
use Rattle.records.specs.declared.calls.Sizes.{Sizes}

-- ---- how many items and bytes an operation takes

abbrev pub sizes : (items first second third : ℕ) → Sizes
sizes items first second third = record { items = items; first = first; second = second; third = third }

-- the items of its list, and the bytes of its first, second and third value in the store
unfoldable pub sizes_of : Call → Sizes
sizes_of (SinglePath op path) = sizes 0 0 0 0
sizes_of (SingleString op value) = sizes 0 0 0 0
sizes_of (PathSet op paths) = sizes (length paths) 0 0 0
sizes_of (PathSetFlag op paths substitute) = sizes (length paths) 0 0 0
sizes_of (PathSetMode op paths mode) = sizes (length paths) 0 0 0
sizes_of (NoArgs op) = sizes 0 0 0 0
sizes_of (SetOptions o) = sizes (length o.overrides) 0 0 0
sizes_of (CollectGarbage action paths ignore-liveness max-freed) = sizes (length paths) 0 0 0
sizes_of (VerifyStore check-contents repair) = sizes 0 0 0 0
sizes_of (AddPermRoot path gc-root) = sizes 0 0 0 0
sizes_of (AddSignatures path sigs) = sizes (length sigs) 0 0 0
sizes_of (AddTextToStore suffix text refs) = sizes (length refs) (length suffix) (length text) 0
sizes_of (AddToStore name cam_str refs repair contents) = sizes (length refs) (length name) (length cam_str) (length (stored_of contents))
sizes_of (AddMultipleToStore repair dont-check-sigs contents) = sizes 0 (length (stored_of contents)) 0 0
sizes_of (AddBuildLog path contents) = sizes 0 (length (stored_of contents)) 0 0
sizes_of (RegisterDrvOutput value) = sizes 0 0 0 0
sizes_of (QueryRealisation value) = sizes 0 0 0 0
sizes_of (QuerySubstitutablePathInfo path) = sizes 0 0 0 0
sizes_of (QuerySubstitutablePathInfos paths) = sizes (length paths) 0 0 0
sizes_of (RawBytes op contents) = sizes 0 (length contents) 0 0

-- ---- the record of an entry's operation

-- data that takes n bytes of the store, behind b of them; a file's name takes none
unfoldable pub sized_at : Framed → (b n : ℕ) → FramedData
sized_at (inline bytes) b n = FramedData.Inline (place_of b n)
sized_at (file_ref name) b n = FramedData.FileRef (place name)

unfoldable pub framed_sized : (text : List ℕ) → Option Span → (b n : ℕ) → FramedData
framed_sized text said b n = sized_at (data_of plain_rules text said) b n

-- the operations that take lines: `value` is the last value of each key
module _ (text : List ℕ) (value : Key → Option Span) where
  unfoldable pub options_record : (overrides : Items) → Options
  options_record overrides = record {
    keep_failed = number_of text (value Key.KeepFailed);
    keep_going = number_of text (value Key.KeepGoing);
    try_fallback = number_of text (value Key.TryFallback);
    verbosity = number_of text (value Key.Verbosity);
    max_build_jobs = number_of text (value Key.MaxBuildJobs);
    max_silent_time = number_of text (value Key.MaxSilentTime);
    use_build_hook = number_of text (value Key.UseBuildHook);
    verbose_build = number_of text (value Key.VerboseBuild);
    log_type = number_of text (value Key.LogType);
    print_build_trace = number_of text (value Key.PrintBuildTrace);
    build_cores = number_of text (value Key.BuildCores);
    use_substitutes = number_of text (value Key.UseSubstitutes);
    overrides = overrides;
  }

  unfoldable pub garbage_record : (paths : Items) → OpCall
  garbage_record paths = OpCall.CollectGarbage (number_of text (value Key.Action)) paths (number_of text (value Key.IgnoreLiveness)) (number_of text (value Key.MaxFreed))

  unfoldable pub verify_record : OpCall
  verify_record = OpCall.VerifyStore (flag_of text (value Key.CheckContents)) (flag_of text (value Key.Repair))

  unfoldable pub store_record : (i b : ℕ) → Sizes → OpCall
  store_record i b z =
      OpCall.AddToStore (place_of b z.first) (place_of (b + z.first) z.second) (range i z.items) (flag_of text (value Key.Repair)) (framed_sized text (value Key.Data) (b + z.first + z.second) z.third)

  unfoldable pub multiple_record : (b n : ℕ) → OpCall
  multiple_record b n = OpCall.AddMultipleToStore (flag_of text (value Key.Repair)) (flag_of text (value Key.DontCheckSigs)) (framed_sized text (value Key.Data) b n)

-- two paths, cut at the first blank
unfoldable pub root_record : (text : List ℕ) → (args : Span) → OpCall
root_record text args = OpCall.AddPermRoot (place (cut_or text BLANK args).before) (place (cut_or text BLANK args).after)

unfoldable pub texts_record : (i b : ℕ) → Sizes → OpCall
texts_record i b z = OpCall.AddTextToStore (place_of b z.first) (place_of (b + z.first) z.second) (range i z.items)

-- Behind i items and b bytes of the store: `args` is what stands behind the operation's name.
module _ (text : List ℕ) where
  unfoldable pub record_of : Shape → Op → (args : Span) → (value : Key → Option Span) → (i b : ℕ) → Sizes → OpCall
  record_of single_path op args value i b z = OpCall.SinglePath op (place args)
  record_of single_string op args value i b z = OpCall.SingleString op (place args)
  record_of path_set op args value i b z = OpCall.PathSet op (range i z.items)
  record_of path_set_flag op args value i b z = OpCall.PathSetFlag op (range i z.items) (is text "substitute" (rest_of text args))
  record_of path_set_mode op args value i b z = OpCall.PathSetMode op (range i z.items) (place (rest_of text args))
  record_of no_args op args value i b z = OpCall.NoArgs op
  record_of set_options op args value i b z = OpCall.SetOptions (options_record text value (range i z.items))
  record_of collect_garbage op args value i b z = garbage_record text value (range i z.items)
  record_of verify_store op args value i b z = verify_record text value
  record_of add_perm_root op args value i b z = root_record text args
  record_of add_signatures op args value i b z = OpCall.AddSignatures (place (cut_or text BLANK args).before) (range i z.items)
  record_of add_text_to_store op args value i b z = texts_record i b z
  record_of add_to_store op args value i b z = store_record text value i b z
  record_of add_multiple_to_store op args value i b z = multiple_record text value b z.first
  record_of add_build_log op args value i b z = OpCall.AddBuildLog (place args) (framed_sized text (value Key.Data) b z.first)
  record_of register_drv_output op args value i b z = OpCall.RegisterDrvOutput (place args)
  record_of query_realisation op args value i b z = OpCall.QueryRealisation (place args)
  record_of query_substitutable_path_info op args value i b z = OpCall.QuerySubstitutablePathInfo (place args)
  record_of query_substitutable_path_infos op args value i b z = OpCall.QuerySubstitutablePathInfos (range i z.items)
  record_of raw_bytes op args value i b z = OpCall.RawBytes op (place_of b z.first)

-- ---- the record of the preamble

-- n server features, where there is such a line, behind those of the client
unfoldable pub maybe_sized : Option Span → (before n : ℕ) → Option Items
maybe_sized None before n = None
maybe_sized (Some v) before n = Some (range before n)

unfoldable pub preamble_record : (text : List ℕ) → (value : Key → Option Span) → (features server expects : ℕ) → Preamble
preamble_record text value features server expects = record {
  protocol_version = version_in text (value Key.Protocol);
  client_features = range 0 features;
  expects = range 0 expects;
  daemon_version = maybe (value Key.DaemonVersion);
  trust = maybe (value Key.TrustStatus);
  server_features = maybe_sized (value Key.ServerFeatures) features server;
}
