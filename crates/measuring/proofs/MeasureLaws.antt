-- The walk that counts gives the counts of the reading. Assumes nothing.
use Prim.Native.Nat.{ℕ, ◌+◌}
use native.Mathlib.Omega.{arith}
use mathlib.Core.Path.{◌≡◌, refl, sym, ap, ap₂, ◌∙◌}
use mathlib.Core.Bool.{Bool, true, false, not}
use mathlib.Core.List.{List, [], ◌∷◌, ◌++◌, map}
use lib.ListN.{length, length-append, length-map}
use lib.Dec.{ltb}
use Rattle.std.specs.Prelude.{if◌then◌else◌, Err, None, Ok, Option, Some}
use Rattle.text.specs.Utf8.{well_formed}
use Rattle.text.specs.Lines.{lines}
use Rattle.text.specs.declared.parts.Span.{Span}
use Rattle.text.specs.declared.lines.Line.{Line}
use Rattle.wire.specs.declared.ops.Op.{Op}
use Rattle.script.specs.Pieces.{place}
use Rattle.script.specs.Operations.{same_key, Shape, single_path, single_string, path_set, path_set_flag, path_set_mode, no_args, set_options, collect_garbage, verify_store, add_perm_root, add_signatures, add_text_to_store, add_to_store, add_multiple_to_store, add_build_log, register_drv_output, query_realisation, query_substitutable_path_info, query_substitutable_path_infos, raw_bytes, form_of}
use Rattle.script.specs.Values.{plain_rules}
use Rattle.script.specs.Roles.{Marked, marked, step_of, roles_from, roles}
use Rattle.script.specs.Contents.{saying_of, sayings, expectation_of, expectations, value_or, last_of, value_of, pair_of, pairs, set_of, features_in, unquoted_of, hex_of, data_of, call_of, entry_of, is_opening, lead, or_none, entry_on, entries, preamble_of, contents, ScriptContents}
use Rattle.script.specs.Layout.{stored_of, laid, Tables, Reading, tables_from, laid_script}
use Rattle.script.specs.Reading.{refused_by, first_refused, read_marked, read_by, parsed_by, parsed, measured, Parsed}
use Rattle.script.specs.Refusals.{refusal}
use Rattle.script.specs.declared.records.Counts.{Counts}
use Rattle.script.specs.declared.records.Refusal.{Refusal}
use Rattle.script.specs.declared.roles.Key.{Key}
use Rattle.script.specs.declared.roles.Where.{Where}
use Rattle.script.specs.declared.roles.Where.TheVariants.{InPreamble}
use Rattle.script.specs.declared.roles.Saying.{Saying}
use Rattle.script.specs.declared.roles.Saying.TheVariants.{Known, Pair, NoColon, Unknown, NoPair, NoRaw}
use Rattle.script.specs.declared.roles.Role.{Role}
use Rattle.script.specs.declared.roles.Role.TheVariants.{Nothing, Says, Expects, Opens, Bad}
use Rattle.measuring.specs.declared.What.{What}
use Rattle.measuring.specs.declared.What.TheVariants.{ThePreamble, AnEntry}
use Rattle.measuring.specs.declared.Open.{Open}
use Rattle.counts.specs.Counts.{inline_items, set_count, quoted_count, data_count, raw_count, feature_count}
use Rattle.measuring.specs.Measure.{begun, preamble_open, told, pairs_on, entry_items, entry_store, items_of, store_of, closed_items, closed_store, counts, zeros, close_on, entered, count_on, onward, opened, say_on, open_on, count_from, walk_from, measured_by}
use Rattle.script.specs.declared.refusals.Reason.TheVariants.{NotUtf8, TextTooLong}

-- a number of the value that is said last
told_is : (k : Key) (f : Option Span → ℕ) (s : Saying) (so_far : Option Span) → told k (λ v. f (Some v)) s (f so_far) ≡ f (value_or k s so_far)
unfolding told value_or
told_is k f (Known k' v) so_far = go (same_key k k')
  where
    go : (b : Bool) → (if b then f (Some v) else f so_far) ≡ f (if b then Some v else so_far)
    go true = refl
    go false = refl
told_is k f (Pair a b) so_far = refl
told_is k f NoColon so_far = refl
told_is k f (Unknown a b) so_far = refl
told_is k f NoPair so_far = refl
told_is k f NoRaw so_far = refl

pairs-on : (s : Saying) (n : ℕ) → pairs_on s n ≡ n + length (pair_of s)
unfolding pairs_on pair_of
pairs-on (Known k v) n = omega arith
pairs-on (Pair a b) n = refl
pairs-on NoColon n = omega arith
pairs-on (Unknown a b) n = omega arith
pairs-on NoPair n = omega arith
pairs-on NoRaw n = omega arith

module _ (text : List ℕ) where
  -- what is open once all that is said
  said_on : Open → List Saying → Open
  said_on o [] = o
  said_on o (s ∷ ss) = said_on (say_on text o s) ss

  -- ---- what is open, number by number

  said-what : (o : Open) (ss : List Saying) → (said_on o ss).what ≡ o.what
  unfolding said_on say_on
  said-what o [] = refl
  said-what o (s ∷ ss) = said-what (say_on text o s) ss

  said-inline : (o : Open) (ss : List Saying) → (said_on o ss).inline ≡ o.inline
  unfolding said_on say_on
  said-inline o [] = refl
  said-inline o (s ∷ ss) = said-inline (say_on text o s) ss

  said-pairs : (o : Open) (ss : List Saying) → (said_on o ss).pairs ≡ o.pairs + length (pairs ss)
  unfolding said_on say_on pairs
  said-pairs o [] = omega arith
  said-pairs o (s ∷ ss) = said-pairs (say_on text o s) ss ∙ simp length-append (omega (arith, pairs-on s o.pairs))

  -- a number g of what is open that is f of the last value of the key k
  module _ (k : Key) (f : Option Span → ℕ) (g : Open → ℕ) (step : (o : Open) (s : Saying) → g (say_on text o s) ≡ told k (λ v. f (Some v)) s (g o)) where
    said_last : (o : Open) (so_far : Option Span) (ss : List Saying) → g o ≡ f so_far → g (said_on o ss) ≡ f (last_of k so_far ss)
    unfolding said_on last_of
    said_last o so_far [] e = e
    said_last o so_far (s ∷ ss) e = said_last (say_on text o s) (value_or k s so_far) ss (step o s ∙ ap (told k (λ v. f (Some v)) s) e ∙ told_is k f s so_far)

  module _ (what : What) (inline : ℕ) (ss : List Saying) where
    abbrev after : Open
    after = said_on (begun what inline) ss

    said-paths : after.paths ≡ length (set_of text (value_of Key.Paths ss))
    unfolding value_of begun say_on set_count set_of
    said-paths = said_last Key.Paths (λ v. length (set_of text v)) (λ o. o.paths) (λ o s. refl) (begun what inline) None ss refl

    said-refs : after.refs ≡ length (set_of text (value_of Key.Refs ss))
    unfolding value_of begun say_on set_count set_of
    said-refs = said_last Key.Refs (λ v. length (set_of text v)) (λ o. o.refs) (λ o s. refl) (begun what inline) None ss refl

    said-suffix : after.suffix ≡ length (unquoted_of plain_rules text (value_of Key.Suffix ss))
    unfolding value_of begun say_on quoted_count unquoted_of
    said-suffix = said_last Key.Suffix (λ v. length (unquoted_of plain_rules text v)) (λ o. o.suffix) (λ o s. refl) (begun what inline) None ss refl

    said-text : after.text ≡ length (unquoted_of plain_rules text (value_of Key.Text ss))
    unfolding value_of begun say_on quoted_count unquoted_of
    said-text = said_last Key.Text (λ v. length (unquoted_of plain_rules text v)) (λ o. o.text) (λ o s. refl) (begun what inline) None ss refl

    said-name : after.name ≡ length (unquoted_of plain_rules text (value_of Key.Name ss))
    unfolding value_of begun say_on quoted_count unquoted_of
    said-name = said_last Key.Name (λ v. length (unquoted_of plain_rules text v)) (λ o. o.name) (λ o s. refl) (begun what inline) None ss refl

    said-cam_str : after.cam_str ≡ length (unquoted_of plain_rules text (value_of Key.CamStr ss))
    unfolding value_of begun say_on quoted_count unquoted_of
    said-cam_str = said_last Key.CamStr (λ v. length (unquoted_of plain_rules text v)) (λ o. o.cam_str) (λ o s. refl) (begun what inline) None ss refl

    said_data : after.«data» ≡ length (stored_of (data_of plain_rules text (value_of Key.Data ss)))
    unfolding value_of begun say_on data_count data_of stored_of
    said_data = said_last Key.Data (λ v. length (stored_of (data_of plain_rules text v))) (λ o. o.«data») (λ o s. refl) (begun what inline) None ss refl

    said-raw : after.raw ≡ length (hex_of plain_rules text (value_of Key.Raw ss))
    unfolding value_of begun say_on raw_count hex_of
    said-raw = said_last Key.Raw (λ v. length (hex_of plain_rules text v)) (λ o. o.raw) (λ o s. refl) (begun what inline) None ss refl

    said-features : after.features ≡ length (or_none (features_in text (value_of Key.Features ss)))
    unfolding value_of begun say_on feature_count features_in or_none
    said-features = said_last Key.Features (λ v. length (or_none (features_in text v))) (λ o. o.features) (λ o s. refl) (begun what inline) None ss refl

    said-server_features : after.server_features ≡ length (or_none (features_in text (value_of Key.ServerFeatures ss)))
    unfolding value_of begun say_on feature_count features_in or_none
    said-server_features =
        said_last Key.ServerFeatures (λ v. length (or_none (features_in text v))) (λ o. o.server_features) (λ o s. refl) (begun what inline) None ss refl

  -- ---- an entry, and the preamble

  -- the items that an entry adds, by the shape of its operation
  items_are : (sh : Shape) (op : Op) (args : Span) (ss : List Saying) (what : What) (i b : ℕ)
      → entry_items sh (said_on (begun what (inline_items text sh args)) ss) ≡ length (laid i b (call_of plain_rules text sh op args ss)).items
  unfolding entry_items inline_items laid call_of begun
  items_are single_path op args ss what i b = refl
  items_are single_string op args ss what i b = refl
  items_are path_set op args ss what i b = said-inline _ ss ∙ simp length-map
  items_are path_set_flag op args ss what i b = said-inline _ ss ∙ simp length-map
  items_are path_set_mode op args ss what i b = said-inline _ ss ∙ simp length-map
  items_are no_args op args ss what i b = refl
  items_are set_options op args ss what i b = said-pairs (begun what 0) ss ∙ simp length-map (omega arith)
  items_are collect_garbage op args ss what i b = said-paths what 0 ss ∙ simp length-map
  items_are verify_store op args ss what i b = refl
  items_are add_perm_root op args ss what i b = refl
  items_are add_signatures op args ss what i b = said-inline _ ss ∙ simp length-map
  items_are add_text_to_store op args ss what i b = said-refs what 0 ss ∙ simp length-map
  items_are add_to_store op args ss what i b = said-refs what 0 ss ∙ simp length-map
  items_are add_multiple_to_store op args ss what i b = refl
  items_are add_build_log op args ss what i b = refl
  items_are register_drv_output op args ss what i b = refl
  items_are query_realisation op args ss what i b = refl
  items_are query_substitutable_path_info op args ss what i b = refl
  items_are query_substitutable_path_infos op args ss what i b = said-inline _ ss ∙ simp length-map
  items_are raw_bytes op args ss what i b = refl

  -- and the bytes of the store
  store_is : (sh : Shape) (op : Op) (args : Span) (ss : List Saying) (what : What) (n i b : ℕ)
      → entry_store sh (said_on (begun what n) ss) ≡ length (laid i b (call_of plain_rules text sh op args ss)).store
  unfolding entry_store laid call_of
  store_is single_path op args ss what n i b = refl
  store_is single_string op args ss what n i b = refl
  store_is path_set op args ss what n i b = refl
  store_is path_set_flag op args ss what n i b = refl
  store_is path_set_mode op args ss what n i b = refl
  store_is no_args op args ss what n i b = refl
  store_is set_options op args ss what n i b = refl
  store_is collect_garbage op args ss what n i b = refl
  store_is verify_store op args ss what n i b = refl
  store_is add_perm_root op args ss what n i b = refl
  store_is add_signatures op args ss what n i b = refl
  store_is add_text_to_store op args ss what n i b = simp length-append (ap₂ ◌+◌ (said-suffix what n ss) (said-text what n ss))
  store_is add_to_store op args ss what n i b = simp length-append (omega (arith, said-name what n ss, said-cam_str what n ss, said_data what n ss))
  store_is add_multiple_to_store op args ss what n i b = said_data what n ss
  store_is add_build_log op args ss what n i b = said_data what n ss
  store_is register_drv_output op args ss what n i b = refl
  store_is query_realisation op args ss what n i b = refl
  store_is query_substitutable_path_info op args ss what n i b = refl
  store_is query_substitutable_path_infos op args ss what n i b = refl
  store_is raw_bytes op args ss what n i b = said-raw what n ss

  module _ (op : Op) (args : Span) (ss : List Saying) (i b : ℕ) where
    entry_items_lem : closed_items (said_on (opened text op args) ss) ≡ length (laid i b (call_of plain_rules text (form_of op).shape op args ss)).items
    unfolding closed_items items_of opened begun
    entry_items_lem =
        ap (λ (w : What). items_of w (said_on (opened text op args) ss)) (said-what (opened text op args) ss)
        ∙ items_are (form_of op).shape op args ss (AnEntry op) i b

    entry_store_lem : closed_store (said_on (opened text op args) ss) ≡ length (laid i b (call_of plain_rules text (form_of op).shape op args ss)).store
    unfolding closed_store store_of opened begun
    entry_store_lem =
        ap (λ (w : What). store_of w (said_on (opened text op args) ss)) (said-what (opened text op args) ss)
        ∙ store_is (form_of op).shape op args ss (AnEntry op) (inline_items text (form_of op).shape args) i b

  preamble-items : (ss : List Saying)
      → closed_items (said_on preamble_open ss) ≡ length (or_none (features_in text (value_of Key.Features ss)) ++ or_none (features_in text (value_of Key.ServerFeatures ss)))
  unfolding closed_items items_of preamble_open begun
  preamble-items ss =
      ap (λ (w : What). items_of w (said_on preamble_open ss)) (said-what preamble_open ss)
      ∙ simp length-append (ap₂ ◌+◌ (said-features ThePreamble 0 ss) (said-server_features ThePreamble 0 ss))

  preamble-store : (ss : List Saying) → closed_store (said_on preamble_open ss) ≡ 0
  unfolding closed_store store_of preamble_open begun
  preamble-store ss = ap (λ (w : What). store_of w (said_on preamble_open ss)) (said-what preamble_open ss)

  -- ---- the marked lines

  -- Totals, with what is open closed after the lines up to the next opening line, and with the entries below.
  module _ (t : Counts) (o : Open) (ms : List Marked) (T : Tables) where
    all_of : Counts
    all_of =
        counts
        (t.entries + length T.entries)
        (t.items + closed_items (said_on o (sayings (lead ms))) + length T.items)
        (t.expectations + length (expectations (lead ms)) + length T.expectations)
        (t.store + closed_store (said_on o (sayings (lead ms))) + length T.store)

same_counts : {e i x s e' i' x' s' : ℕ} → e ≡ e' → i ≡ i' → x ≡ x' → s ≡ s' → counts e i x s ≡ counts e' i' x' s'
same_counts p q r u = cc

module _ (text : List ℕ) where
  -- the walk over these lines gives such totals, wherever the entries' tables begin
  abbrev Counted : List Marked → Type 0
  Counted ms = (i x b : ℕ) (t : Counts) (o : Open) → count_from text t o ms ≡ all_of text t o ms (tables_from i x b (entries plain_rules text ms))

  counted_more : (n : ℕ) (r : Role) (ms : List Marked) → Counted ms → Counted (marked n r ∷ ms)
  unfolding count_from count_on entered open_on close_on all_of said_on tables_from entries entry_on entry_of lead is_opening sayings saying_of expectations expectation_of
  counted_more n Nothing ms h i x b t o = h i x b t o
  counted_more n (Says s) ms h i x b t o = h i x b t (say_on text o s)
  counted_more n (Expects e) ms h i x b t o = h i x b (count_on t o (Expects e)) o ∙ same_counts refl refl (omega arith) refl
  counted_more n (Opens p) ms h i x b t o =
      let l = laid i b (call_of plain_rules text (form_of p.op).shape p.op p.args (sayings (lead ms))) in
      let x' = x + length (expectations (lead ms)) in
      let T = tables_from (i + length l.items) x' (b + length l.store) (entries plain_rules text ms) in
      h (i + length l.items) x' (b + length l.store) (count_on t o (Opens p)) (opened text p.op p.args)
      ∙ same_counts
      (omega arith)
      (omega (arith, entry_items_lem text p.op p.args (sayings (lead ms)) i b, length-append l.items T.items))
      (omega (arith, length-append (expectations (lead ms)) T.expectations))
      (omega (arith, entry_store_lem text p.op p.args (sayings (lead ms)) i b, length-append l.store T.store))
  counted_more n (Bad k) ms h i x b t o = h i x b t o

  counted : (ms : List Marked) → Counted ms
  unfolding count_from close_on all_of said_on tables_from entries lead sayings expectations
  counted [] i x b t o = same_counts (omega arith) (omega arith) (omega arith) (omega arith)
  counted (m ∷ ms) i x b t o = counted_more m.line m.role ms (counted ms) i x b t o

  -- For every list of marked lines the walk gives the counts of what the lines hold.
  pub counts_are : (ms : List Marked) → count_from text zeros preamble_open ms ≡ (laid_script (contents plain_rules text ms)).script.counts
  unfolding laid_script contents preamble_of all_of zeros
  counts_are ms =
      let front = (preamble_of plain_rules text (lead ms)).client_features ++ or_none (preamble_of plain_rules text (lead ms)).server_features in
      let early = expectations (lead ms) in
      let T = tables_from (length front) (length early) 0 (entries plain_rules text ms) in
      counted ms (length front) (length early) 0 zeros preamble_open
      ∙ same_counts
      (omega arith)
      (omega (arith, preamble-items text (sayings (lead ms)), length-append (map place front) T.items, length-map front place))
      (omega (arith, length-append early T.expectations))
      (omega (arith, preamble-store text (sayings (lead ms))))

  -- ---- the lines of the text

  -- the answer for marked lines: the first refused line, or the totals
  answered : Option Refusal → Counts → Parsed Counts
  answered None t = Ok t
  answered (Some r) t = Err r

  onward-is : (n : ℕ) (r : Role) (later : Option Refusal) (t : Counts) → onward n r (answered later t) ≡ answered (refused_by n r later) t
  unfolding onward refused_by answered
  onward-is n Nothing later t = refl
  onward-is n (Says s) later t = refl
  onward-is n (Expects e) later t = refl
  onward-is n (Opens p) later t = refl
  onward-is n (Bad k) later t = refl

  -- The walk over the lines is the walk over what they are, unless one is refused.
  walk_is : (t : Counts) (o : Open) (w : Where) (ls : List Line)
      → walk_from text t o w ls ≡ answered (first_refused (roles_from plain_rules text w ls)) (count_from text t o (roles_from plain_rules text w ls))
  unfolding walk_from count_from roles_from first_refused answered
  walk_is t o w [] = refl
  walk_is t o w (l ∷ ls) =
      let s = step_of plain_rules text w l in
      ap (onward l.number s.role) (walk_is (count_on t o s.role) (open_on text o s.role) s.next ls)
      ∙ onward-is l.number s.role (first_refused (roles_from plain_rules text s.next ls)) _

  -- what Measure gives for what a text holds
  counts_of : Parsed ScriptContents → Parsed Counts
  counts_of (Err r) = Err r
  counts_of (Ok s) = Ok (laid_script s).script.counts

  measured_of : measured text ≡ counts_of (read_by plain_rules text)
  unfolding measured parsed parsed_by counts_of
  measured_of = go (read_by plain_rules text)
    where
      go : (p : Parsed ScriptContents)
          → elim (elim p as (λ _. Parsed Reading) [ Err r ↦ Err r | Ok s ↦ Ok (laid_script s) ]) [ Err r ↦ Err r | Ok r ↦ Ok r.script.counts ] ≡ counts_of p
      go (Err r) = refl
      go (Ok s) = refl

  marked-is : (ms : List Marked) → answered (first_refused ms) (count_from text zeros preamble_open ms) ≡ counts_of (read_marked plain_rules text ms)
  unfolding answered read_marked counts_of
  marked-is ms = go (first_refused ms)
    where
      go : (q : Option Refusal) → answered q (count_from text zeros preamble_open ms) ≡ counts_of (elim q [ None ↦ Ok (contents plain_rules text ms) | Some r ↦ Err r ])
      go None = ap (λ (t : Counts). Ok t) (counts_are ms)
      go (Some r) = refl

  -- The walk over a text gives what Measure gives.
  pub measured-is : measured_by text ≡ measured text
  unfolding measured_by read_by roles counts_of
  measured-is = go (ltb 0x8000 (length text)) (not (well_formed text)) ∙ sym measured_of
    where
      walked : walk_from text zeros preamble_open InPreamble (lines text) ≡ counts_of (read_marked plain_rules text (roles plain_rules text (lines text)))
      walked = walk_is zeros preamble_open InPreamble (lines text) ∙ marked-is (roles_from plain_rules text InPreamble (lines text))

      go : (long ill : Bool)
          → (if long then Err (refusal TextTooLong 0) else if ill then Err (refusal NotUtf8 0) else walk_from text zeros preamble_open InPreamble (lines text))
          ≡ counts_of (if long then Err (refusal TextTooLong 0) else if ill then Err (refusal NotUtf8 0) else read_marked plain_rules text (roles plain_rules text (lines text)))
      go true ill = refl
      go false true = refl
      go false false = walked
