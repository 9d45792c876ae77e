-- Document 01, "The script" and `parse_op_line` of the Rust: what each operation has on its line and what lines it takes below; the keys of those lines.
-- Names and codes of the operations stand in the crate `wire`. Assumes nothing.
use Rattle.std.specs.Prelude.{ℕ, Bool, List, [], ◌∷◌, eqb, if◌then◌else◌, None, Option, Some}
use Prim.Native.String.{String}
use Rattle.text.specs.Literal.{spells}
use Rattle.wire.specs.declared.ops.Op.{Op}
use Rattle.wire.specs.declared.ops.Op.TheVariants.{IsValidPath, QueryReferrers, AddToStore, AddTextToStore, BuildPaths, EnsurePath, AddTempRoot, AddIndirectRoot, SyncWithGC, FindRoots, QueryDeriver, SetOptions, CollectGarbage, QuerySubstitutablePathInfo, QueryDerivationOutputs, QueryAllValidPaths, QueryPathInfo, QueryDerivationOutputNames, QueryPathFromHashPart, QuerySubstitutablePathInfos, QueryValidPaths, QuerySubstitutablePaths, QueryValidDerivers, OptimiseStore, VerifyStore, BuildDerivation, AddSignatures, NarFromPath, AddToStoreNar, QueryMissing, QueryDerivationOutputMap, RegisterDrvOutput, QueryRealisation, AddMultipleToStore, AddBuildLog, BuildPathsWithResults, AddPermRoot}
use Rattle.script.specs.declared.roles.Key.{Key}
use Rattle.script.specs.declared.roles.Takes.{Takes}
use Rattle.script.specs.declared.roles.Takes.TheVariants.{NoLines, Options, Garbage, Verify, Texts, Store, Multiple, FirstData, FirstRaw}

-- ---- the keys

-- What a key's value is: a number; a flag; a text that is unquoted; a path set; data; the head of an override list, its value not looked at; what follows
-- `raw x"`; in the preamble a version, a feature set or a text.
pub data Kind : Type 0 where
  a_number a_flag a_quoted a_set some_data a_list a_hex a_version a_feature_set a_text : Kind

-- a key: a number to tell it from others, its name, and what its value is
pub record KeyRow : Type 0 where
  pub number : ℕ
  pub name : String
  pub kind : Kind

abbrev pub key : ℕ → String → Kind → KeyRow
key number name kind = record { number = number; name = name; kind = kind }

unfoldable pub key_row : Key → KeyRow
key_row Key.KeepFailed = key 1 "keep_failed" a_number
key_row Key.KeepGoing = key 2 "keep_going" a_number
key_row Key.TryFallback = key 3 "try_fallback" a_number
key_row Key.Verbosity = key 4 "verbosity" a_number
key_row Key.MaxBuildJobs = key 5 "max_build_jobs" a_number
key_row Key.MaxSilentTime = key 6 "max_silent_time" a_number
key_row Key.UseBuildHook = key 7 "use_build_hook" a_number
key_row Key.VerboseBuild = key 8 "verbose_build" a_number
key_row Key.LogType = key 9 "log_type" a_number
key_row Key.PrintBuildTrace = key 10 "print_build_trace" a_number
key_row Key.BuildCores = key 11 "build_cores" a_number
key_row Key.UseSubstitutes = key 12 "use_substitutes" a_number
key_row Key.Overrides = key 13 "overrides" a_list
key_row Key.Action = key 14 "action" a_number
key_row Key.Paths = key 15 "paths" a_set
key_row Key.IgnoreLiveness = key 16 "ignore_liveness" a_number
key_row Key.MaxFreed = key 17 "max_freed" a_number
key_row Key.CheckContents = key 18 "check_contents" a_flag
key_row Key.Repair = key 19 "repair" a_flag
key_row Key.Suffix = key 20 "suffix" a_quoted
key_row Key.Text = key 21 "text" a_quoted
key_row Key.Refs = key 22 "refs" a_set
key_row Key.Name = key 23 "name" a_quoted
key_row Key.CamStr = key 24 "cam_str" a_quoted
key_row Key.Data = key 25 "data" some_data
key_row Key.DontCheckSigs = key 26 "dont_check_sigs" a_flag
key_row Key.Raw = key 32 "raw" a_hex
key_row Key.Protocol = key 27 "protocol" a_version
key_row Key.Features = key 28 "features" a_feature_set
key_row Key.DaemonVersion = key 29 "daemon" a_text
key_row Key.TrustStatus = key 30 "trust" a_text
key_row Key.ServerFeatures = key 31 "server_features" a_feature_set

unfoldable pub same_key : Key → Key → Bool
same_key a b = eqb (key_row a).number (key_row b).number

-- the keys of the lines that an operation takes, in the field order of `OpCall`
unfoldable pub keys_of : Takes → List Key
keys_of NoLines = []
keys_of Options =
    Key.KeepFailed ∷ Key.KeepGoing ∷ Key.TryFallback ∷ Key.Verbosity ∷ Key.MaxBuildJobs ∷ Key.MaxSilentTime ∷ Key.UseBuildHook ∷ Key.VerboseBuild ∷ Key.LogType
    ∷ Key.PrintBuildTrace ∷ Key.BuildCores ∷ Key.UseSubstitutes ∷ Key.Overrides ∷ []
keys_of Garbage = Key.Action ∷ Key.Paths ∷ Key.IgnoreLiveness ∷ Key.MaxFreed ∷ []
keys_of Verify = Key.CheckContents ∷ Key.Repair ∷ []
keys_of Texts = Key.Suffix ∷ Key.Text ∷ Key.Refs ∷ []
keys_of Store = Key.Name ∷ Key.CamStr ∷ Key.Refs ∷ Key.Repair ∷ Key.Data ∷ []
keys_of Multiple = Key.Repair ∷ Key.DontCheckSigs ∷ Key.Data ∷ []
keys_of FirstData = Key.Data ∷ []
keys_of FirstRaw = []

-- the key of that exact name
unfoldable pub key_in : List Key → List ℕ → Option Key
key_in [] name = None
key_in (k ∷ ks) name = let later = key_in ks name in if spells (key_row k).name name then Some k else later

-- ---- the operations

-- the case of `OpCall` that keeps an operation
pub data Shape : Type 0 where
  single_path single_string path_set path_set_flag path_set_mode no_args set_options collect_garbage verify_store add_perm_root add_signatures add_text_to_store add_to_store add_multiple_to_store add_build_log register_drv_output query_realisation query_substitutable_path_info query_substitutable_path_infos raw_bytes : Shape

-- What stands behind the name on the operation's own line: nothing that is kept; one text; a path set and a rest; a path, a blank and a path set; a path,
-- a blank and a text.
pub data Syntax : Type 0 where
  ignored one_text one_set path_then_set path_then_text : Syntax

pub record Form : Type 0 where
  pub syntax : Syntax
  pub shape : Shape
  pub takes : Takes

abbrev pub form : Syntax → Shape → Takes → Form
form syntax shape takes = record { syntax = syntax; shape = shape; takes = takes }

unfoldable pub form_of : Op → Form
form_of IsValidPath = form one_text single_path NoLines
form_of QueryReferrers = form one_text single_path NoLines
form_of AddToStore = form ignored add_to_store Store
form_of AddTextToStore = form ignored add_text_to_store Texts
form_of BuildPaths = form one_set path_set_mode NoLines
form_of EnsurePath = form one_text single_path NoLines
form_of AddTempRoot = form one_text single_path NoLines
form_of AddIndirectRoot = form one_text single_string NoLines
form_of SyncWithGC = form ignored no_args NoLines
form_of FindRoots = form ignored no_args NoLines
form_of QueryDeriver = form one_text single_path NoLines
form_of SetOptions = form ignored set_options Options
form_of CollectGarbage = form ignored collect_garbage Garbage
form_of QuerySubstitutablePathInfo = form one_text query_substitutable_path_info NoLines
form_of QueryDerivationOutputs = form one_text single_path NoLines
form_of QueryAllValidPaths = form ignored no_args NoLines
form_of QueryPathInfo = form one_text single_path NoLines
form_of QueryDerivationOutputNames = form one_text single_path NoLines
form_of QueryPathFromHashPart = form one_text single_string NoLines
form_of QuerySubstitutablePathInfos = form one_set query_substitutable_path_infos NoLines
form_of QueryValidPaths = form one_set path_set_flag NoLines
form_of QuerySubstitutablePaths = form one_set path_set NoLines
form_of QueryValidDerivers = form one_text single_path NoLines
form_of OptimiseStore = form ignored no_args NoLines
form_of VerifyStore = form ignored verify_store Verify
form_of BuildDerivation = form ignored raw_bytes FirstRaw
form_of AddSignatures = form path_then_set add_signatures NoLines
form_of NarFromPath = form one_text single_path NoLines
form_of AddToStoreNar = form ignored raw_bytes FirstRaw
form_of QueryMissing = form one_set path_set NoLines
form_of QueryDerivationOutputMap = form one_text single_path NoLines
form_of RegisterDrvOutput = form one_text register_drv_output NoLines
form_of QueryRealisation = form one_text query_realisation NoLines
form_of AddMultipleToStore = form ignored add_multiple_to_store Multiple
form_of AddBuildLog = form one_text add_build_log FirstData
form_of BuildPathsWithResults = form one_set path_set_mode NoLines
form_of AddPermRoot = form path_then_text add_perm_root NoLines
