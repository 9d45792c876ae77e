-- Measure as a walk: one line after another, and all that is carried are numbers. `MeasureLaws` shows that it gives the counts of the reading. Assumes nothing.
use Rattle.std.specs.Prelude.{ℕ, ◌+◌, not, List, [], ◌∷◌, length, ltb, if◌then◌else◌, Err, Ok}
use Rattle.text.specs.Utf8.{well_formed}
use Rattle.text.specs.Lines.{lines}
use Rattle.text.specs.declared.parts.Span.{Span}
use Rattle.text.specs.declared.lines.Line.{Line}
use Rattle.wire.specs.declared.ops.Op.{Op}
use Rattle.script.specs.Operations.{same_key, Shape, single_path, single_string, path_set, path_set_flag, path_set_mode, no_args, set_options, collect_garbage, verify_store, add_perm_root, add_signatures, add_text_to_store, add_to_store, add_multiple_to_store, add_build_log, register_drv_output, query_realisation, query_substitutable_path_info, query_substitutable_path_infos, raw_bytes, form_of}
use Rattle.script.specs.Values.{plain_rules}
use Rattle.script.specs.Roles.{Marked, step_of}
use Rattle.script.specs.Refusals.{refusal}
use Rattle.script.specs.declared.records.Counts.{Counts}
use Rattle.counts.specs.Counts.{inline_items, set_count, quoted_count, data_count, raw_count, feature_count}
use Rattle.measuring.specs.declared.What.{What}
use Rattle.measuring.specs.declared.What.TheVariants.{ThePreamble, AnEntry}
use Rattle.measuring.specs.declared.Open.{Open}
use Rattle.script.specs.declared.roles.Key.{Key}
use Rattle.script.specs.declared.roles.Where.{Where}
use Rattle.script.specs.declared.roles.Where.TheVariants.{InPreamble}
use Rattle.script.specs.declared.roles.Saying.{Saying}
use Rattle.script.specs.declared.roles.Saying.TheVariants.{Known, Pair, NoColon, Unknown, NoPair, NoRaw}
use Rattle.script.specs.declared.roles.Role.{Role}
use Rattle.script.specs.declared.roles.Role.TheVariants.{Nothing, Says, Expects, Opens, Bad}
use Rattle.script.specs.declared.refusals.Reason.TheVariants.{NotUtf8, TextTooLong}
use Rattle.script.specs.Reading.{Parsed}

-- ---- what is open

-- so many items on the opening line, and nothing said below it
unfoldable pub begun : What → (inline : ℕ) → Open
begun what inline = record {
  what = what;
  inline = inline;
  pairs = 0;
  paths = 0;
  refs = 0;
  suffix = 0;
  text = 0;
  name = 0;
  cam_str = 0;
  «data» = 0;
  raw = 0;
  features = 0;
  server_features = 0;
}

-- the preamble at its first line
unfoldable pub preamble_open : Open
preamble_open = begun ThePreamble 0

-- the last line with the key decides
unfoldable pub told : Key → (count : Span → ℕ) → Saying → (so_far : ℕ) → ℕ
told k count (Known k' v) so_far = let new = count v in if same_key k k' then new else so_far
told k count (Pair a b) so_far = so_far
told k count NoColon so_far = so_far
told k count (Unknown a b) so_far = so_far
told k count NoPair so_far = so_far
told k count NoRaw so_far = so_far

-- a pair is two items
unfoldable pub pairs_on : Saying → (so_far : ℕ) → ℕ
pairs_on (Known k v) so_far = so_far
pairs_on (Pair a b) so_far = so_far + 2
pairs_on NoColon so_far = so_far
pairs_on (Unknown a b) so_far = so_far
pairs_on NoPair so_far = so_far
pairs_on NoRaw so_far = so_far

-- ---- what is closed

-- the items and the bytes of the store that an entry takes
unfoldable pub entry_items : Shape → Open → ℕ
entry_items single_path o = 0
entry_items single_string o = 0
entry_items path_set o = o.inline
entry_items path_set_flag o = o.inline
entry_items path_set_mode o = o.inline
entry_items no_args o = 0
entry_items set_options o = o.pairs
entry_items collect_garbage o = o.paths
entry_items verify_store o = 0
entry_items add_perm_root o = 0
entry_items add_signatures o = o.inline
entry_items add_text_to_store o = o.refs
entry_items add_to_store o = o.refs
entry_items add_multiple_to_store o = 0
entry_items add_build_log o = 0
entry_items register_drv_output o = 0
entry_items query_realisation o = 0
entry_items query_substitutable_path_info o = 0
entry_items query_substitutable_path_infos o = o.inline
entry_items raw_bytes o = 0

unfoldable pub entry_store : Shape → Open → ℕ
entry_store single_path o = 0
entry_store single_string o = 0
entry_store path_set o = 0
entry_store path_set_flag o = 0
entry_store path_set_mode o = 0
entry_store no_args o = 0
entry_store set_options o = 0
entry_store collect_garbage o = 0
entry_store verify_store o = 0
entry_store add_perm_root o = 0
entry_store add_signatures o = 0
entry_store add_text_to_store o = o.suffix + o.text
entry_store add_to_store o = o.name + o.cam_str + o.«data»
entry_store add_multiple_to_store o = o.«data»
entry_store add_build_log o = o.«data»
entry_store register_drv_output o = 0
entry_store query_realisation o = 0
entry_store query_substitutable_path_info o = 0
entry_store query_substitutable_path_infos o = 0
entry_store raw_bytes o = o.raw

-- what the entry, or the preamble, adds to the items and to the store
unfoldable pub items_of : What → Open → ℕ
items_of ThePreamble o = o.features + o.server_features
items_of (AnEntry op) o = entry_items (form_of op).shape o

unfoldable pub store_of : What → Open → ℕ
store_of ThePreamble o = 0
store_of (AnEntry op) o = entry_store (form_of op).shape o

unfoldable pub closed_items : Open → ℕ
closed_items o = items_of o.what o

unfoldable pub closed_store : Open → ℕ
closed_store o = store_of o.what o

-- ---- the totals

abbrev pub counts : (entries items expectations store : ℕ) → Counts
counts entries items expectations store = record { entries = entries; items = items; expectations = expectations; store = store }

unfoldable pub zeros : Counts
zeros = counts 0 0 0 0

-- with what is open closed
unfoldable pub close_on : (totals : Counts) → Open → Counts
close_on t o = counts t.entries (t.items + closed_items o) t.expectations (t.store + closed_store o)

-- an opening line closes what is open and is one entry more
unfoldable pub entered : (totals : Counts) → Open → Counts
entered t o = counts (t.entries + 1) (t.items + closed_items o) t.expectations (t.store + closed_store o)

-- after a line; an expectation line is one expectation more
unfoldable pub count_on : (totals : Counts) → Open → Role → Counts
count_on t o Nothing = t
count_on t o (Says s) = t
count_on t o (Expects e) = counts t.entries t.items (t.expectations + 1) t.store
count_on t o (Opens p) = entered t o
count_on t o (Bad n) = t

-- a refused line ends the walk
unfoldable pub onward : (line : ℕ) → Role → (later : Parsed Counts) → Parsed Counts
onward line Nothing later = later
onward line (Says s) later = later
onward line (Expects e) later = later
onward line (Opens p) later = later
onward line (Bad n) later = Err (refusal n.reason line)

module _ (text : List ℕ) where
  -- an entry at its opening line
  unfoldable pub opened : Op → (args : Span) → Open
  opened op args = begun (AnEntry op) (inline_items text (form_of op).shape args)

  -- after a line that says something: its key's number is overwritten, a pair adds two items
  unfoldable pub say_on : Open → Saying → Open
  say_on o s = record {
    what = o.what;
    inline = o.inline;
    pairs = pairs_on s o.pairs;
    paths = told Key.Paths (set_count text) s o.paths;
    refs = told Key.Refs (set_count text) s o.refs;
    suffix = told Key.Suffix (quoted_count text) s o.suffix;
    text = told Key.Text (quoted_count text) s o.text;
    name = told Key.Name (quoted_count text) s o.name;
    cam_str = told Key.CamStr (quoted_count text) s o.cam_str;
    «data» = told Key.Data (data_count text) s o.«data»;
    raw = told Key.Raw (raw_count text) s o.raw;
    features = told Key.Features (feature_count text) s o.features;
    server_features = told Key.ServerFeatures (feature_count text) s o.server_features;
  }

  -- what is open after a line
  unfoldable pub open_on : Open → Role → Open
  open_on o Nothing = o
  open_on o (Says s) = say_on o s
  open_on o (Expects e) = o
  open_on o (Opens p) = opened p.op p.args
  open_on o (Bad n) = o

  -- ---- the walk

  -- over marked lines, refused or not; at the end what is open is closed
  unfoldable pub count_from : (totals : Counts) → Open → List Marked → Counts
  count_from t o [] = close_on t o
  count_from t o (m ∷ ms) = count_from (count_on t o m.role) (open_on o m.role) ms

  -- over the lines of the text; the first refused line is the answer
  unfoldable pub walk_from : (totals : Counts) → Open → Where → List Line → Parsed Counts
  walk_from t o w [] = Ok (close_on t o)
  walk_from t o w (l ∷ ls) =
      let s = step_of plain_rules text w l in
      let later = walk_from (count_on t o s.role) (open_on o s.role) s.next ls in
      onward l.number s.role later

  -- 1: text too long; 2: not UTF-8
  unfoldable pub measured_by : Parsed Counts
  measured_by =
      let walked = walk_from zeros preamble_open InPreamble (lines text) in
      if ltb 0x8000 (length text) then Err (refusal TextTooLong 0)
      else if not (well_formed text) then Err (refusal NotUtf8 0)
      else walked
