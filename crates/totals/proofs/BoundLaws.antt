-- Numbers stay small: what is open after a line, and the totals. So no sum overflows. Assumes nothing.
use Prim.Native.Nat.{ℕ, ◌+◌, ◌≤◌}
use native.Mathlib.Omega.{arith}
use native.Mathlib.Nat.{le_trans}
use mir.Val.{Fits}
use mir.Syntax.{w64}
use mathlib.Core.Path.{◌≡◌, ap}
use mathlib.Core.List.{List}
use lib.ListN.{length}
use Rattle.text.specs.declared.parts.Span.{Span}
use Rattle.wire.specs.declared.ops.Op.{Op}
use Rattle.text.proofs.Scan.{by_cases}
use Rattle.script.specs.Inside.{In, SayingIn}
use Rattle.script.specs.Operations.{same_key, Shape, single_path, single_string, path_set, path_set_flag, path_set_mode, no_args, set_options, collect_garbage, verify_store, add_perm_root, add_signatures, add_text_to_store, add_to_store, add_multiple_to_store, add_build_log, register_drv_output, query_realisation, query_substitutable_path_info, query_substitutable_path_infos, raw_bytes, form_of}
use Rattle.script.specs.declared.records.Counts.{Counts}
use Rattle.script.specs.declared.roles.Key.{Key}
use Rattle.script.specs.declared.roles.Saying.{Saying}
use Rattle.script.specs.declared.roles.Saying.TheVariants.{Known, Pair, NoColon, Unknown, NoPair, NoRaw}
use Rattle.measuring.specs.declared.What.{What}
use Rattle.measuring.specs.declared.What.TheVariants.{ThePreamble, AnEntry}
use Rattle.measuring.specs.declared.Open.{Open}
use Rattle.totals.specs.Bounds.{Small, Few}
use Rattle.counts.specs.Counts.{set_count, quoted_count, data_count, raw_count, feature_count}
use Rattle.measuring.specs.Measure.{begun, told, pairs_on, entry_items, entry_store, items_of, store_of, closed_items, closed_store, close_on, entered, opened, say_on}
use Rattle.counts.proofs.CountLaws.{set-fits, quoted_fit, data_fit, raw_fit, features_fit, inline-fits, fits-text}

-- ---- what is closed

module _ (m : ℕ) (o : Open) (h : Small m o) where
  entry_items_lem : (sh : Shape) → entry_items sh o ≤ m
  unfolding entry_items
  entry_items_lem single_path = omega (arith, h.inline, h.pairs, h.paths, h.refs)
  entry_items_lem single_string = omega (arith, h.inline, h.pairs, h.paths, h.refs)
  entry_items_lem path_set = omega (arith, h.inline, h.pairs, h.paths, h.refs)
  entry_items_lem path_set_flag = omega (arith, h.inline, h.pairs, h.paths, h.refs)
  entry_items_lem path_set_mode = omega (arith, h.inline, h.pairs, h.paths, h.refs)
  entry_items_lem no_args = omega (arith, h.inline, h.pairs, h.paths, h.refs)
  entry_items_lem set_options = omega (arith, h.inline, h.pairs, h.paths, h.refs)
  entry_items_lem collect_garbage = omega (arith, h.inline, h.pairs, h.paths, h.refs)
  entry_items_lem verify_store = omega (arith, h.inline, h.pairs, h.paths, h.refs)
  entry_items_lem add_perm_root = omega (arith, h.inline, h.pairs, h.paths, h.refs)
  entry_items_lem add_signatures = omega (arith, h.inline, h.pairs, h.paths, h.refs)
  entry_items_lem add_text_to_store = omega (arith, h.inline, h.pairs, h.paths, h.refs)
  entry_items_lem add_to_store = omega (arith, h.inline, h.pairs, h.paths, h.refs)
  entry_items_lem add_multiple_to_store = omega (arith, h.inline, h.pairs, h.paths, h.refs)
  entry_items_lem add_build_log = omega (arith, h.inline, h.pairs, h.paths, h.refs)
  entry_items_lem register_drv_output = omega (arith, h.inline, h.pairs, h.paths, h.refs)
  entry_items_lem query_realisation = omega (arith, h.inline, h.pairs, h.paths, h.refs)
  entry_items_lem query_substitutable_path_info = omega (arith, h.inline, h.pairs, h.paths, h.refs)
  entry_items_lem query_substitutable_path_infos = omega (arith, h.inline, h.pairs, h.paths, h.refs)
  entry_items_lem raw_bytes = omega (arith, h.inline, h.pairs, h.paths, h.refs)

  entry_store_lem : (sh : Shape) → entry_store sh o ≤ m + m + m
  unfolding entry_store
  entry_store_lem single_path = omega (arith, h.suffix, h.text, h.name, h.cam_str, h.«data», h.raw)
  entry_store_lem single_string = omega (arith, h.suffix, h.text, h.name, h.cam_str, h.«data», h.raw)
  entry_store_lem path_set = omega (arith, h.suffix, h.text, h.name, h.cam_str, h.«data», h.raw)
  entry_store_lem path_set_flag = omega (arith, h.suffix, h.text, h.name, h.cam_str, h.«data», h.raw)
  entry_store_lem path_set_mode = omega (arith, h.suffix, h.text, h.name, h.cam_str, h.«data», h.raw)
  entry_store_lem no_args = omega (arith, h.suffix, h.text, h.name, h.cam_str, h.«data», h.raw)
  entry_store_lem set_options = omega (arith, h.suffix, h.text, h.name, h.cam_str, h.«data», h.raw)
  entry_store_lem collect_garbage = omega (arith, h.suffix, h.text, h.name, h.cam_str, h.«data», h.raw)
  entry_store_lem verify_store = omega (arith, h.suffix, h.text, h.name, h.cam_str, h.«data», h.raw)
  entry_store_lem add_perm_root = omega (arith, h.suffix, h.text, h.name, h.cam_str, h.«data», h.raw)
  entry_store_lem add_signatures = omega (arith, h.suffix, h.text, h.name, h.cam_str, h.«data», h.raw)
  entry_store_lem add_text_to_store = omega (arith, h.suffix, h.text, h.name, h.cam_str, h.«data», h.raw)
  entry_store_lem add_to_store = omega (arith, h.suffix, h.text, h.name, h.cam_str, h.«data», h.raw)
  entry_store_lem add_multiple_to_store = omega (arith, h.suffix, h.text, h.name, h.cam_str, h.«data», h.raw)
  entry_store_lem add_build_log = omega (arith, h.suffix, h.text, h.name, h.cam_str, h.«data», h.raw)
  entry_store_lem register_drv_output = omega (arith, h.suffix, h.text, h.name, h.cam_str, h.«data», h.raw)
  entry_store_lem query_realisation = omega (arith, h.suffix, h.text, h.name, h.cam_str, h.«data», h.raw)
  entry_store_lem query_substitutable_path_info = omega (arith, h.suffix, h.text, h.name, h.cam_str, h.«data», h.raw)
  entry_store_lem query_substitutable_path_infos = omega (arith, h.suffix, h.text, h.name, h.cam_str, h.«data», h.raw)
  entry_store_lem raw_bytes = omega (arith, h.suffix, h.text, h.name, h.cam_str, h.«data», h.raw)

  items-small : closed_items o ≤ m + m
  unfolding closed_items items_of
  items-small = go o.what
    where
      go : (w : What) → items_of w o ≤ m + m
      go ThePreamble = omega (arith, h.features, h.server_features)
      go (AnEntry op) = omega (arith, entry_items_lem (form_of op).shape)

  store-small : closed_store o ≤ m + m + m
  unfolding closed_store store_of
  store-small = go o.what
    where
      go : (w : What) → store_of w o ≤ m + m + m
      go ThePreamble = omega arith
      go (AnEntry op) = entry_store_lem (form_of op).shape

-- the sums fit
module _ (t : Counts) (o : Open) (n : ℕ) (f : Few 0x10000000000 t) (h : Small 0x20000 o) where
  pub items_fit : n ≡ closed_items o → Fits w64 (t.items + n)
  items_fit e = omega (arith, f.items, items-small 0x20000 o h)

  pub store_fit : n ≡ closed_store o → Fits w64 (t.store + n)
  store_fit e = omega (arith, f.store, store-small 0x20000 o h)

pub entries_fit : (t c : Counts) (o : Open) → Few 0x10000000000 t → c ≡ close_on t o → Fits w64 (c.entries + 1)
unfolding close_on
entries_fit t c o f e = let q : c.entries ≡ t.entries = ap (λ (d : Counts). d.entries) e in omega (arith, f.entries)

-- ---- what is open after a line

pub begun-small : (m : ℕ) (w : What) (n : ℕ) → n ≤ m → Small m (begun w n)
unfolding begun
begun-small m w n h = record {
  inline = h;
  pairs = omega arith;
  paths = omega arith;
  refs = omega arith;
  suffix = omega arith;
  text = omega arith;
  name = omega arith;
  cam_str = omega arith;
  «data» = omega arith;
  raw = omega arith;
  features = omega arith;
  server_features = omega arith;
}

pub grown : (m k : ℕ) (o : Open) → m ≤ k → Small m o → Small k o
grown m k o h s = record {
  inline = le_trans s.inline h;
  pairs = le_trans s.pairs h;
  paths = le_trans s.paths h;
  refs = le_trans s.refs h;
  suffix = le_trans s.suffix h;
  text = le_trans s.text h;
  name = le_trans s.name h;
  cam_str = le_trans s.cam_str h;
  «data» = le_trans s.«data» h;
  raw = le_trans s.raw h;
  features = le_trans s.features h;
  server_features = le_trans s.server_features h;
}

module _ (text : List ℕ) (m : ℕ) (fits : length text ≤ m) where
  told-small : (k : Key) (count : Span → ℕ) → ((v : Span) → In text v → v.start + count v ≤ v.end) → (s : Saying) → SayingIn text s → (so_far : ℕ) → so_far ≤ m → told k count s so_far ≤ m
  unfolding told SayingIn
  told-small k count f (Known k' v) i so_far h = by_cases (λ (n : ℕ). n ≤ m) (same_key k k') (count v) so_far (le_trans (fits-text text v (count v) i (f v i)) fits) h
  told-small k count f (Pair a b) i so_far h = h
  told-small k count f NoColon i so_far h = h
  told-small k count f (Unknown a b) i so_far h = h
  told-small k count f NoPair i so_far h = h
  told-small k count f NoRaw i so_far h = h

  pairs_small : (s : Saying) (n : ℕ) → n ≤ m → pairs_on s n ≤ m + 2
  unfolding pairs_on
  pairs_small (Known k v) n h = omega arith
  pairs_small (Pair a b) n h = omega arith
  pairs_small NoColon n h = omega arith
  pairs_small (Unknown a b) n h = omega arith
  pairs_small NoPair n h = omega arith
  pairs_small NoRaw n h = omega arith

  two_more : (n : ℕ) → n ≤ m → n ≤ m + 2
  two_more n h = omega arith

  pub said-small : (o : Open) (s : Saying) → SayingIn text s → Small m o → Small (m + 2) (say_on text o s)
  unfolding say_on
  said-small o s i h = record {
    inline = two_more _ h.inline;
    pairs = pairs_small s _ h.pairs;
    paths = two_more _ (told-small Key.Paths (set_count text) (set-fits text) s i _ h.paths);
    refs = two_more _ (told-small Key.Refs (set_count text) (set-fits text) s i _ h.refs);
    suffix = two_more _ (told-small Key.Suffix (quoted_count text) (quoted_fit text) s i _ h.suffix);
    text = two_more _ (told-small Key.Text (quoted_count text) (quoted_fit text) s i _ h.text);
    name = two_more _ (told-small Key.Name (quoted_count text) (quoted_fit text) s i _ h.name);
    cam_str = two_more _ (told-small Key.CamStr (quoted_count text) (quoted_fit text) s i _ h.cam_str);
    «data» = two_more _ (told-small Key.Data (data_count text) (data_fit text) s i _ h.«data»);
    raw = two_more _ (told-small Key.Raw (raw_count text) (raw_fit text) s i _ h.raw);
    features = two_more _ (told-small Key.Features (feature_count text) (features_fit text) s i _ h.features);
    server_features = two_more _ (told-small Key.ServerFeatures (feature_count text) (features_fit text) s i _ h.server_features);
  }

  pub opened-small : (op : Op) (args : Span) → In text args → Small m (opened text op args)
  unfolding opened
  opened-small op args i = begun-small m _ _ (le_trans (fits-text text args _ i (inline-fits text args op i)) fits)

-- ---- the totals after a line

pub more_few : (m k : ℕ) (t : Counts) → m ≤ k → Few m t → Few k t
more_few m k t h f = record {
  entries = le_trans f.entries h;
  items = le_trans f.items h;
  expectations = le_trans f.expectations h;
  store = le_trans f.store h;
}

pub entered_few : (m k : ℕ) (t : Counts) (o : Open) → Few m t → Small k o → Few (m + k + k + k + 1) (entered t o)
unfolding entered
entered_few m k t o f h = record {
  entries = omega (arith, f.entries);
  items = omega (arith, f.items, items-small k o h);
  expectations = omega (arith, f.expectations);
  store = omega (arith, f.store, store-small k o h);
}
