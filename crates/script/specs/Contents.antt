-- Document 01, "The script": what a script holds, the Rust's own `Script`, read off what its lines are. A value that is a part of the text is a piece of
-- it; a value that goes into the store is its bytes. Assumes nothing.
use Rattle.std.specs.Prelude.{ℕ, ◌^◌, Bool, true, false, not, List, [], ◌∷◌, ◌++◌, if◌then◌else◌, Err, None, Ok, Option, Some}
use Rattle.text.specs.Base.{BLANK}
use Rattle.values.specs.Numbers.{number}
use Rattle.text.specs.declared.parts.Span.{Span}
use Rattle.version.specs.Version.{version, default_version}
use Rattle.wire.specs.declared.ops.Op.{Op}
use Rattle.version.specs.declared.ProtocolVersion.{ProtocolVersion}
use Rattle.script.specs.Answers.{◌>>=◌, Answer}
use Rattle.script.specs.Pieces.{bytes, is, trim, cut_or}
use Rattle.script.specs.Operations.{same_key, Shape, single_path, single_string, path_set, path_set_flag, path_set_mode, no_args, set_options, collect_garbage, verify_store, add_perm_root, add_signatures, add_text_to_store, add_to_store, add_multiple_to_store, add_build_log, register_drv_output, query_realisation, query_substitutable_path_info, query_substitutable_path_infos, raw_bytes, form_of}
use Rattle.script.specs.Values.{Rules, Framed, inline, framed}
use Rattle.script.specs.Sets as Sets
use Rattle.script.specs.Roles.{Marked}
use Rattle.script.specs.declared.records.Expectation.{Expectation}
use Rattle.script.specs.declared.roles.Key.{Key}
use Rattle.script.specs.declared.roles.Saying.{Saying}
use Rattle.script.specs.declared.roles.Saying.TheVariants.{Known, Pair, NoColon, Unknown, NoPair, NoRaw}
use Rattle.script.specs.declared.roles.Opening.{Opening}
use Rattle.script.specs.declared.roles.Role.{Role}
use Rattle.script.specs.declared.roles.Role.TheVariants.{Nothing, Says, Expects, Opens, Bad}
use Rattle.script.specs.declared.records.Time.{Time}

-- ---- what a script holds

-- the twelve numbers of SetOptions, and its override pairs: name, value, name, value
pub record OptionValues : Type 0 where
  pub keep_failed : ℕ
  pub keep_going : ℕ
  pub try_fallback : ℕ
  pub verbosity : ℕ
  pub max_build_jobs : ℕ
  pub max_silent_time : ℕ
  pub use_build_hook : ℕ
  pub verbose_build : ℕ
  pub log_type : ℕ
  pub print_build_trace : ℕ
  pub build_cores : ℕ
  pub use_substitutes : ℕ
  pub overrides : List Span

-- the Rust's `OpCall`, case by case and field by field
pub data Call : Type 0 where
  SinglePath : Op → (path : Span) → Call
  SingleString : Op → (value : Span) → Call
  PathSet : Op → (paths : List Span) → Call
  PathSetFlag : Op → (paths : List Span) → (substitute : Bool) → Call
  PathSetMode : Op → (paths : List Span) → (mode : Span) → Call
  NoArgs : Op → Call
  SetOptions : OptionValues → Call
  CollectGarbage : (action : ℕ) → (paths : List Span) → (ignore-liveness max-freed : ℕ) → Call
  VerifyStore : (check-contents repair : Bool) → Call
  AddPermRoot : (path gc-root : Span) → Call
  AddSignatures : (path : Span) → (sigs : List Span) → Call
  AddTextToStore : (suffix text : List ℕ) → (refs : List Span) → Call
  AddToStore : (name cam_str : List ℕ) → (refs : List Span) → (repair : Bool) → (contents : Framed) → Call
  AddMultipleToStore : (repair dont-check-sigs : Bool) → (contents : Framed) → Call
  AddBuildLog : (path : Span) → (contents : Framed) → Call
  RegisterDrvOutput : (value : Span) → Call
  QueryRealisation : (value : Span) → Call
  QuerySubstitutablePathInfo : (path : Span) → Call
  QuerySubstitutablePathInfos : (paths : List Span) → Call
  RawBytes : Op → (contents : List ℕ) → Call

pub record EntryContents : Type 0 where
  pub line : ℕ
  pub timestamp : Option Time
  pub call : Call
  pub expects : List Expectation

pub record PreambleContents : Type 0 where
  pub protocol_version : ProtocolVersion
  pub client_features : List Span
  pub expects : List Expectation
  pub daemon_version : Option Span
  pub trust : Option Span
  pub server_features : Option (List Span)

pub record ScriptContents : Type 0 where
  pub preamble : PreambleContents
  pub entries : List EntryContents

-- ---- what some lines say and expect

unfoldable pub saying_of : Role → List Saying
saying_of Nothing = []
saying_of (Says s) = s ∷ []
saying_of (Expects e) = []
saying_of (Opens o) = []
saying_of (Bad n) = []

unfoldable pub sayings : List Marked → List Saying
sayings [] = []
sayings (m ∷ ms) = saying_of m.role ++ sayings ms

unfoldable pub expectation_of : (line : ℕ) → Role → List Expectation
expectation_of line Nothing = []
expectation_of line (Says s) = []
expectation_of line (Expects e) = record { line = line; expect = e } ∷ []
expectation_of line (Opens o) = []
expectation_of line (Bad n) = []

unfoldable pub expectations : List Marked → List Expectation
expectations [] = []
expectations (m ∷ ms) = expectation_of m.line m.role ++ expectations ms

-- ---- the value of a key: the last line with the key decides

unfoldable pub value_or : Key → Saying → Option Span → Option Span
value_or k (Known k' v) so_far = if same_key k k' then Some v else so_far
value_or k (Pair a b) so_far = so_far
value_or k NoColon so_far = so_far
value_or k (Unknown a b) so_far = so_far
value_or k NoPair so_far = so_far
value_or k NoRaw so_far = so_far

unfoldable pub last_of : Key → (so_far : Option Span) → List Saying → Option Span
last_of k so_far [] = so_far
last_of k so_far (s ∷ ss) = last_of k (value_or k s so_far) ss

unfoldable pub value_of : Key → List Saying → Option Span
value_of k ss = last_of k None ss

-- override pairs add up
unfoldable pub pair_of : Saying → List Span
pair_of (Known k v) = []
pair_of (Pair name value) = name ∷ value ∷ []
pair_of NoColon = []
pair_of (Unknown k v) = []
pair_of NoPair = []
pair_of NoRaw = []

unfoldable pub pairs : List Saying → List Span
pairs [] = []
pairs (s ∷ ss) = pair_of s ++ pairs ss

-- what the value rules give; a line that they refuse was refused
unfoldable pub given_bytes : Answer (List ℕ) → List ℕ
given_bytes (Ok bytes) = bytes
given_bytes (Err n) = []

-- absent data is inline and empty
unfoldable pub given_data : Answer Framed → Framed
given_data (Ok d) = d
given_data (Err n) = inline []

module _ (text : List ℕ) where
  -- a number that cannot be read is 0, and so is one that is absent
  unfoldable pub number_of : Option Span → ℕ
  number_of None = 0
  number_of (Some v) = elim (number (2 ^ 64) (bytes text v)) [ None ↦ 0 | Some n ↦ n ]

  -- a flag given is on unless its value is exactly `0`, and off if absent
  unfoldable pub flag_of : Option Span → Bool
  flag_of None = false
  flag_of (Some v) = not (is text "0" v)

  -- the items of a path set, and what stands behind it, trimmed; its brace is closed, or its line was refused
  unfoldable pub items_in : Span → List Span
  items_in p = elim (Sets.path_set text p) [ None ↦ [] | Some s ↦ s.items ]

  unfoldable pub rest_of : Span → Span
  rest_of p = elim (Sets.path_set text p) [ None ↦ p | Some s ↦ trim text s.rest ]

  unfoldable pub set_of : Option Span → List Span
  set_of None = []
  set_of (Some v) = items_in v

  unfoldable pub version_in : Option Span → ProtocolVersion
  version_in None = default_version
  version_in (Some v) = elim (version (bytes text v)) [ None ↦ default_version | Some w ↦ w ]

  unfoldable pub features_in : Option Span → Option (List Span)
  features_in said = do
    v ← said
    Some (Sets.features text v)

module _ (rules : Rules) (text : List ℕ) where
  -- ---- values

  unfoldable pub unquoted_of : Option Span → List ℕ
  unquoted_of None = []
  unquoted_of (Some v) = given_bytes (rules.unquote (bytes text v))

  unfoldable pub hex_of : Option Span → List ℕ
  hex_of None = []
  hex_of (Some v) = given_bytes (rules.hex (bytes text v))

  unfoldable pub data_of : Option Span → Framed
  data_of None = inline []
  data_of (Some v) = given_data (framed rules text v)

  -- ---- an operation with its arguments: `args` is what stands behind its name, `ss` what its argument lines say

  unfoldable pub call_of : Shape → Op → (args : Span) → List Saying → Call
  call_of single_path op args ss = SinglePath op args
  call_of single_string op args ss = SingleString op args
  call_of path_set op args ss = PathSet op (items_in text args)
  call_of path_set_flag op args ss = PathSetFlag op (items_in text args) (is text "substitute" (rest_of text args))
  call_of path_set_mode op args ss = PathSetMode op (items_in text args) (rest_of text args)
  call_of no_args op args ss = NoArgs op
  call_of set_options op args ss =
      SetOptions (record {
        keep_failed = number_of text (value_of Key.KeepFailed ss);
        keep_going = number_of text (value_of Key.KeepGoing ss);
        try_fallback = number_of text (value_of Key.TryFallback ss);
        verbosity = number_of text (value_of Key.Verbosity ss);
        max_build_jobs = number_of text (value_of Key.MaxBuildJobs ss);
        max_silent_time = number_of text (value_of Key.MaxSilentTime ss);
        use_build_hook = number_of text (value_of Key.UseBuildHook ss);
        verbose_build = number_of text (value_of Key.VerboseBuild ss);
        log_type = number_of text (value_of Key.LogType ss);
        print_build_trace = number_of text (value_of Key.PrintBuildTrace ss);
        build_cores = number_of text (value_of Key.BuildCores ss);
        use_substitutes = number_of text (value_of Key.UseSubstitutes ss);
        overrides = pairs ss;
      })
  call_of collect_garbage op args ss =
      CollectGarbage (number_of text (value_of Key.Action ss)) (set_of text (value_of Key.Paths ss)) (number_of text (value_of Key.IgnoreLiveness ss)) (number_of text (value_of Key.MaxFreed ss))
  call_of verify_store op args ss = VerifyStore (flag_of text (value_of Key.CheckContents ss)) (flag_of text (value_of Key.Repair ss))
  call_of add_perm_root op args ss = AddPermRoot (cut_or text BLANK args).before (cut_or text BLANK args).after
  call_of add_signatures op args ss = AddSignatures (cut_or text BLANK args).before (items_in text (cut_or text BLANK args).after)
  call_of add_text_to_store op args ss = AddTextToStore (unquoted_of (value_of Key.Suffix ss)) (unquoted_of (value_of Key.Text ss)) (set_of text (value_of Key.Refs ss))
  call_of add_to_store op args ss =
      AddToStore (unquoted_of (value_of Key.Name ss)) (unquoted_of (value_of Key.CamStr ss)) (set_of text (value_of Key.Refs ss)) (flag_of text (value_of Key.Repair ss)) (data_of (value_of Key.Data ss))
  call_of add_multiple_to_store op args ss = AddMultipleToStore (flag_of text (value_of Key.Repair ss)) (flag_of text (value_of Key.DontCheckSigs ss)) (data_of (value_of Key.Data ss))
  call_of add_build_log op args ss = AddBuildLog args (data_of (value_of Key.Data ss))
  call_of register_drv_output op args ss = RegisterDrvOutput args
  call_of query_realisation op args ss = QueryRealisation args
  call_of query_substitutable_path_info op args ss = QuerySubstitutablePathInfo args
  call_of query_substitutable_path_infos op args ss = QuerySubstitutablePathInfos (items_in text args)
  call_of raw_bytes op args ss = RawBytes op (hex_of (value_of Key.Raw ss))

  -- ---- entries: an opening line, and the lines below it up to the next opening line

  unfoldable pub entry_of : (line : ℕ) → Opening → (below : List Marked) → EntryContents
  entry_of line o below = record {
    line = line;
    timestamp = o.stamp;
    call = call_of (form_of o.op).shape o.op o.args (sayings below);
    expects = expectations below;
  }

unfoldable pub is_opening : Role → Bool
is_opening Nothing = false
is_opening (Says s) = false
is_opening (Expects e) = false
is_opening (Opens o) = true
is_opening (Bad n) = false

-- the lines up to the next opening line
unfoldable pub lead : List Marked → List Marked
lead [] = []
lead (m ∷ ms) = let more = m ∷ lead ms in if is_opening m.role then [] else more

unfoldable pub or_none : Option (List Span) → List Span
or_none None = []
or_none (Some ps) = ps

module _ (rules : Rules) (text : List ℕ) where
  unfoldable pub entry_on : (line : ℕ) → Role → (below : List Marked) → List EntryContents
  entry_on line Nothing below = []
  entry_on line (Says s) below = []
  entry_on line (Expects e) below = []
  entry_on line (Opens o) below = entry_of rules text line o below ∷ []
  entry_on line (Bad n) below = []

  unfoldable pub entries : List Marked → List EntryContents
  entries [] = []
  entries (m ∷ ms) = entry_on m.line m.role (lead ms) ++ entries ms

  -- the preamble is what stands above the first opening line
  unfoldable pub preamble_of : List Marked → PreambleContents
  preamble_of ms =
      let ss = sayings ms in
      record {
        protocol_version = version_in text (value_of Key.Protocol ss);
        client_features = or_none (features_in text (value_of Key.Features ss));
        expects = expectations ms;
        daemon_version = value_of Key.DaemonVersion ss;
        trust = value_of Key.TrustStatus ss;
        server_features = features_in text (value_of Key.ServerFeatures ss);
      }

  unfoldable pub contents : List Marked → ScriptContents
  contents ms = record { preamble = preamble_of (lead ms); entries = entries ms }
