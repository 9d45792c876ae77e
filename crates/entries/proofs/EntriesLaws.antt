-- Laws of the loop over the entries. Assumes nothing.
use Rattle.std.specs.Prelude.{None, Option, Some}
use Prim.Native.Nat.{ℕ, suc, ◌+◌, ◌-◌, ◌≤◌, ◌<◌}
use mathlib.Core.Path.{◌≡◌, refl}
use mathlib.Core.List.{List, [], ◌∷◌}
use native.Mathlib.Omega.{arith}
use lib.ListN.{length, length-map}
use Rattle.script.specs.Values.{plain_rules}
use Rattle.script.specs.Roles.{Marked, marked}
use Rattle.script.specs.Contents.{EntryContents, is_opening, entry_on, entries}
use Rattle.script.specs.Inside.{In}
use Rattle.script.specs.Layout.{laid, Tables, tables_from}
use Rattle.script.specs.declared.roles.Role.{Role}
use Rattle.script.specs.declared.roles.Role.TheVariants.{Nothing, Says, Expects, Opens, Bad}
use Rattle.written.specs.Writing.{wrote}
use Rattle.tables.specs.Items.{item_of}
use Rattle.below.specs.Below.{roles_at, ahead, ahead_of, NextIn}
use Rattle.below.specs.declared.lines_below.Ahead.{Ahead}
use Rattle.entries.specs.Entries.{entry_at, laid_entry}
use Rattle.entries.specs.Laid.{Lent, laid_one, laid_ahead, RoomFor, wrote_all}
use Rattle.entries.proofs.LaidLaws.{none, both, Gone, next_room, gone_on}

-- ---- what is ahead

-- the entries of some lines are those from the next opening line on
pub entries-ahead : (text : List ℕ) (ms : List Marked) → entries plain_rules text ms ≡ entries plain_rules text (ahead ms)
unfolding entries ahead entry_on is_opening
entries-ahead text [] = refl
entries-ahead text (m ∷ ms) = go m.role (entries-ahead text ms)
  where
    go : (r : Role) → entries plain_rules text ms ≡ entries plain_rules text (ahead ms) → entries plain_rules text (marked m.line r ∷ ms) ≡ entries plain_rules text (ahead (marked m.line r ∷ ms))
    go Nothing e = e
    go (Says s) e = e
    go (Expects x) e = e
    go (Opens o) e = refl
    go (Bad n) e = e

-- how far it is to the end of the text
unfoldable pub left_in : (text : List ℕ) → Option Ahead → ℕ
left_in text None = 0
left_in text (Some a) = suc (length text - a.at)

module _ (text : List ℕ) (next : Option Ahead) (a : Ahead) (e : next ≡ Some a) where
  pub next_falls : (after : Option Ahead) → a.at ≤ length text → NextIn text a.at after → left_in text after < left_in text next
  unfolding left_in NextIn
  next_falls None h i = rw e (omega arith)
  next_falls (Some b) h i = rw e (omega (arith, i.0, i.1))

  pub next_in : NextIn text 0 next → (a.at ≤ length text) × (a.line ≤ a.at) × In text a.opening.args
  unfolding NextIn
  next_in i = let j : NextIn text 0 (Some a) = (rw e at i) in (j.1, j.2, j.3)

pub next_weaker : (text : List ℕ) (from : ℕ) (next : Option Ahead) → NextIn text from next → NextIn text 0 next
unfolding NextIn
next_weaker text from None i = tt
next_weaker text from (Some a) i = (omega (arith, i.0), i.1, i.2, i.3)

-- ---- the loop

-- nothing is ahead: nothing is left
pub none_ahead : (text : List ℕ) (next : Option Ahead) (v : Lent) → next ≡ None → laid_ahead text next v ≡ none
unfolding laid_ahead ahead_of entries tables_from
none_ahead text next v e = rw e

-- what some entries add behind what is written
abbrev laid_behind : Lent → List EntryContents → Tables
laid_behind v es = tables_from v.items.at v.expectations.at v.store.at es

-- one entry, and those behind it
one_more : (v u : Lent) (e : EntryContents) (es : List EntryContents) → u ≡ wrote_all (laid_one v e) v → laid_behind v (e ∷ es) ≡ both (laid_one v e) (laid_behind u es)
unfolding tables_from laid_one laid_entry wrote_all wrote
one_more v u e es p = rw (p, length-map (laid v.items.at v.store.at e.call).items item_of)

module _ (text : List ℕ) (next : Option Ahead) {all : Tables} {w v : Lent} (g : Gone all w (laid_ahead text next v) v) {a : Ahead} (e : next ≡ Some a) where
  abbrev one : Tables
  one = laid_one v (entry_at text a)

  -- there is room for the entry that is ahead
  pub entry_room : RoomFor one v
  unfolding laid_ahead ahead_of entries entry_on entry_at
  entry_room =
      let more = one_more v (wrote_all one v) (entry_at text a) (entries plain_rules text (roles_at text a.stands a.at (a.line + 1))) refl in
      next_room g one (laid_behind (wrote_all one v) (entries plain_rules text (roles_at text a.stands a.at (a.line + 1)))) (rw e more)

  -- it is read
  pub gone_more : (after : Option Ahead) (u : Lent) → ahead_of text after ≡ ahead (roles_at text a.stands a.at (a.line + 1)) → u ≡ wrote_all one v → Gone all w (laid_ahead text after u) u
  unfolding laid_ahead ahead_of entries entry_on entry_at
  gone_more after u q p =
      gone_on g one (laid_ahead text after u)
      (rw (e, q, ← entries-ahead text (roles_at text a.stands a.at (a.line + 1))) (one_more v u (entry_at text a) (entries plain_rules text (roles_at text a.stands a.at (a.line + 1))) p))
      u p
