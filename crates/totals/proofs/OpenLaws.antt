-- Laws of what is open and of the totals: the numbers after a line, and what is closed. For `search` to use. Assumes nothing.
use Prim.Native.Nat.{ℕ, ◌+◌}
use mathlib.Core.Path.{◌≡◌, sym, ap, ◌∙◌}
use mathlib.Core.List.{List}
use Rattle.text.specs.declared.parts.Span.{Span}
use Rattle.script.specs.Inside.{In, SayingIn}
use Rattle.wire.specs.declared.ops.Op.{Op}
use Rattle.script.specs.Operations.{same_key, key_row, form_of}
use Rattle.script.specs.declared.roles.Key.{Key}
use Rattle.script.specs.declared.roles.Saying.{Saying}
use Rattle.script.specs.declared.roles.Saying.TheVariants.{Known, Pair}
use Rattle.script.specs.declared.records.Counts.{Counts}
use Rattle.script.specs.declared.roles.Opening.{Opening}
use Rattle.measuring.specs.declared.What.{What}
use Rattle.measuring.specs.declared.What.TheVariants.{AnEntry}
use Rattle.measuring.specs.declared.Open.{Open}
use Rattle.counts.specs.Counts.{inline_items}
use Rattle.measuring.specs.Measure.{begun, told, pairs_on, say_on, opened, entry_items, entry_store, items_of, store_of, closed_items, closed_store, counts, close_on, entered}

abbrev pub opens : (what : What) → (inline pairs paths refs suffix text name cam_str contents raw features server_features : ℕ) → Open
opens what inline pairs paths refs suffix text name cam_str contents raw features server_features = record {
  what = what;
  inline = inline;
  pairs = pairs;
  paths = paths;
  refs = refs;
  suffix = suffix;
  text = text;
  name = name;
  cam_str = cam_str;
  «data» = contents;
  raw = raw;
  features = features;
  server_features = server_features;
}

-- what is said is known
module _ (text : List ℕ) (o : Open) (s : Saying) where
  pub known_in : (k : Key) (v : Span) → s ≡ Known k v → SayingIn text s → In text v
  unfolding SayingIn
  known_in k v e i = rw e at i

  pub on_known : (k : Key) (v : Span) (r : Open) → s ≡ Known k v → r ≡ say_on text o (Known k v) → r ≡ say_on text o s
  on_known k v r e f = f ∙ ap (say_on text o) (sym e)

  pub on-pair : (a b : Span) → s ≡ Pair a b
      → opens o.what o.inline (o.pairs + 2) o.paths o.refs o.suffix o.text o.name o.cam_str o.«data» o.raw o.features o.server_features ≡ say_on text o s
  unfolding say_on told pairs_on same_key key_row
  on-pair a b e = rw e

pub ruleset said_laws = (known_in, on_known, on-pair)

-- ---- what is closed

module _ (o : Open) where
  pub items_entry : (op : Op) (n : ℕ) → o.what ≡ AnEntry op → n ≡ entry_items (form_of op).shape o → n ≡ closed_items o
  unfolding closed_items items_of
  items_entry op n e f = f ∙ ap (λ (w : What). items_of w o) (sym e)

  pub store_entry : (op : Op) (n : ℕ) → o.what ≡ AnEntry op → n ≡ entry_store (form_of op).shape o → n ≡ closed_store o
  unfolding closed_store store_of
  store_entry op n e f = f ∙ ap (λ (w : What). store_of w o) (sym e)

-- ---- after a line

module _ (t : Counts) (o : Open) where
  pub closed : (i s : ℕ) → i ≡ closed_items o → s ≡ closed_store o → counts t.entries (t.items + i) t.expectations (t.store + s) ≡ close_on t o
  unfolding close_on
  closed i s e f = rw (e, f)

  pub entered_is : (c : Counts) → c ≡ close_on t o → counts (c.entries + 1) c.items c.expectations c.store ≡ entered t o
  unfolding entered close_on
  entered_is c f = rw f

pub opened_is : (text : List ℕ) (p : Opening) (n : ℕ) (r : Open) → n ≡ inline_items text (form_of p.op).shape p.args → r ≡ begun (AnEntry p.op) n
    → r ≡ opened text p.op p.args
unfolding opened
opened_is text p n r f g = g ∙ ap (begun (AnEntry p.op)) f
