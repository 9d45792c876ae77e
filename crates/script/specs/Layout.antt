-- Document 01, "The script": how what a script holds stands in the lent tables. Order: preamble, then entries; inside each, the field
-- order. Only lists take items. An empty value, and an empty range, has start 0 and length 0. Assumes nothing.
use Rattle.std.specs.Prelude.{ℕ, zero, suc, ◌+◌, List, [], ◌∷◌, ◌++◌, map, length, None, Option, Some}
use Rattle.text.specs.declared.parts.Span.{Span}
use Rattle.script.specs.Pieces.{place_of, place}
use Rattle.script.specs.Values.{Framed, inline, file_ref}
use Rattle.script.specs.Contents.{Call, SinglePath, SingleString, PathSet, PathSetFlag, PathSetMode, NoArgs, SetOptions, CollectGarbage, VerifyStore, AddPermRoot, AddSignatures, AddTextToStore, AddToStore, AddMultipleToStore, AddBuildLog, RegisterDrvOutput, QueryRealisation, QuerySubstitutablePathInfo, QuerySubstitutablePathInfos, RawBytes, EntryContents, PreambleContents, ScriptContents, or_none}
use Rattle.script.specs.declared.records.Place.{Place}
use Rattle.script.specs.declared.records.Items.{Items}
use Rattle.script.specs.declared.records.FramedData.{FramedData}
use Rattle.script.specs.declared.records.OpCall.{OpCall}
use Rattle.script.specs.declared.records.Expectation.{Expectation}
use Rattle.script.specs.declared.records.Entry.{Entry}
use Rattle.script.specs.declared.records.Preamble.{Preamble}
use Rattle.script.specs.declared.records.Script.{Script}

-- the range of n records behind those that are there
unfoldable pub range : (before n : ℕ) → Items
range before zero = record { first = 0; count = 0 }
range before (suc n) = record { first = before; count = suc n }

unfoldable pub listed : {A : Type 0} → (before : ℕ) → List A → Items
listed before xs = range before (length xs)

-- the bytes of data that stand in the store
unfoldable pub stored_of : Framed → List ℕ
stored_of (inline bytes) = bytes
stored_of (file_ref name) = []

unfoldable pub framed_at : ℕ → Framed → FramedData
framed_at b (inline bytes) = FramedData.Inline (place_of b (length bytes))
framed_at b (file_ref name) = FramedData.FileRef (place name)

-- an operation's record, the items and the bytes that it adds
pub record Laid : Type 0 where
  pub call : OpCall
  pub items : List Place
  pub store : List ℕ

abbrev pub laid_out : OpCall → (pieces : List Span) → List ℕ → Laid
laid_out call pieces store = record { call = call; items = map place pieces; store = store }

-- behind i items and b bytes of the store
unfoldable pub laid : (i b : ℕ) → Call → Laid
laid i b (SinglePath op path) = laid_out (OpCall.SinglePath op (place path)) [] []
laid i b (SingleString op value) = laid_out (OpCall.SingleString op (place value)) [] []
laid i b (PathSet op paths) = laid_out (OpCall.PathSet op (listed i paths)) paths []
laid i b (PathSetFlag op paths substitute) = laid_out (OpCall.PathSetFlag op (listed i paths) substitute) paths []
laid i b (PathSetMode op paths mode) = laid_out (OpCall.PathSetMode op (listed i paths) (place mode)) paths []
laid i b (NoArgs op) = laid_out (OpCall.NoArgs op) [] []
laid i b (SetOptions o) =
    laid_out
    (OpCall.SetOptions (record {
      keep_failed = o.keep_failed;
      keep_going = o.keep_going;
      try_fallback = o.try_fallback;
      verbosity = o.verbosity;
      max_build_jobs = o.max_build_jobs;
      max_silent_time = o.max_silent_time;
      use_build_hook = o.use_build_hook;
      verbose_build = o.verbose_build;
      log_type = o.log_type;
      print_build_trace = o.print_build_trace;
      build_cores = o.build_cores;
      use_substitutes = o.use_substitutes;
      overrides = listed i o.overrides;
    }))
    o.overrides
    []
laid i b (CollectGarbage action paths ignore-liveness max-freed) = laid_out (OpCall.CollectGarbage action (listed i paths) ignore-liveness max-freed) paths []
laid i b (VerifyStore check-contents repair) = laid_out (OpCall.VerifyStore check-contents repair) [] []
laid i b (AddPermRoot path gc-root) = laid_out (OpCall.AddPermRoot (place path) (place gc-root)) [] []
laid i b (AddSignatures path sigs) = laid_out (OpCall.AddSignatures (place path) (listed i sigs)) sigs []
laid i b (AddTextToStore suffix text refs) =
    laid_out
    (OpCall.AddTextToStore (place_of b (length suffix)) (place_of (b + length suffix) (length text)) (listed i refs))
    refs
    (suffix ++ text)
laid i b (AddToStore name cam_str refs repair contents) =
    laid_out
    (OpCall.AddToStore (place_of b (length name)) (place_of (b + length name) (length cam_str)) (listed i refs) repair (framed_at (b + length name + length cam_str) contents))
    refs
    (name ++ cam_str ++ stored_of contents)
laid i b (AddMultipleToStore repair dont-check-sigs contents) =
    laid_out (OpCall.AddMultipleToStore repair dont-check-sigs (framed_at b contents)) [] (stored_of contents)
laid i b (AddBuildLog path contents) = laid_out (OpCall.AddBuildLog (place path) (framed_at b contents)) [] (stored_of contents)
laid i b (RegisterDrvOutput value) = laid_out (OpCall.RegisterDrvOutput (place value)) [] []
laid i b (QueryRealisation value) = laid_out (OpCall.QueryRealisation (place value)) [] []
laid i b (QuerySubstitutablePathInfo path) = laid_out (OpCall.QuerySubstitutablePathInfo (place path)) [] []
laid i b (QuerySubstitutablePathInfos paths) = laid_out (OpCall.QuerySubstitutablePathInfos (listed i paths)) paths []
laid i b (RawBytes op bytes) = laid_out (OpCall.RawBytes op (place_of b (length bytes))) [] bytes

-- the four tables
pub record Tables : Type 0 where
  pub entries : List Entry
  pub items : List Place
  pub expectations : List Expectation
  pub store : List ℕ

-- the entries behind i items, x expectations and b bytes of the store
unfoldable pub tables_from : (i x b : ℕ) → List EntryContents → Tables
tables_from i x b [] = record { entries = []; items = []; expectations = []; store = [] }
tables_from i x b (e ∷ es) =
    let l = laid i b e.call in
    let more = tables_from (i + length l.items) (x + length e.expects) (b + length l.store) es in
    record {
      entries = record { line = e.line; timestamp_ms = e.timestamp; op_call = l.call; expects = listed x e.expects } ∷ more.entries;
      items = l.items ++ more.items;
      expectations = e.expects ++ more.expectations;
      store = l.store ++ more.store;
    }

-- a value that may be missing
unfoldable pub maybe : Option Span → Option Place
maybe None = None
maybe (Some p) = Some (place p)

unfoldable pub maybe_items : (before : ℕ) → Option (List Span) → Option Items
maybe_items before None = None
maybe_items before (Some ps) = Some (listed before ps)

unfoldable pub laid_preamble : PreambleContents → Preamble
laid_preamble p = record {
  protocol_version = p.protocol_version;
  client_features = listed 0 p.client_features;
  expects = listed 0 p.expects;
  daemon_version = maybe p.daemon_version;
  trust = maybe p.trust;
  server_features = maybe_items (length p.client_features) p.server_features;
}

-- a script, and what reading writes into the tables
pub record Reading : Type 0 where
  pub script : Script
  pub tables : Tables

-- The preamble's items stand in front: those of the client's features, then those of the server's.
unfoldable pub laid_script : ScriptContents → Reading
laid_script s =
    let front = s.preamble.client_features ++ or_none s.preamble.server_features in
    let early = s.preamble.expects in
    let rest = tables_from (length front) (length early) 0 s.entries in
    record {
      script = record {
        preamble = laid_preamble s.preamble;
        counts = record {
          entries = length rest.entries;
          items = length (map place front ++ rest.items);
          expectations = length (early ++ rest.expectations);
          store = length rest.store;
        };
      };
      tables = record {
        entries = rest.entries;
        items = map place front ++ rest.items;
        expectations = early ++ rest.expectations;
        store = rest.store;
      };
    }
