-- The lent tables once what reading lays out is written behind what is there. Assumes nothing.
use Rattle.std.specs.Prelude.{ℕ, List, [], ◌∷◌, map, length, Option}
use Rattle.script.specs.Values.{plain_rules}
use Rattle.script.specs.Contents.{EntryContents, entries}
use Rattle.script.specs.Layout.{laid, Tables, tables_from}
use Rattle.script.specs.declared.records.Entry.{Entry}
use Rattle.script.specs.declared.records.Expectation.{Expectation}
use Rattle.written.specs.declared.Writer.{Writer}
use Rattle.written.specs.Writing.{Room, wrote}
use Rattle.tables.specs.Items.{item_of}
use Rattle.below.specs.Below.{ahead_of}
use Rattle.below.specs.declared.lines_below.Ahead.{Ahead}
use Rattle.entries.specs.Entries.{laid_entry}

-- the four lent tables, each with the place where its next record goes
pub record Lent : Type 0 where
  pub entries : Writer Entry
  pub items : Writer (List ℕ)
  pub expectations : Writer Expectation
  pub store : Writer ℕ

abbrev pub lent : Writer Entry → Writer (List ℕ) → Writer Expectation → Writer ℕ → Lent
lent entries items expectations store = record { entries = entries; items = items; expectations = expectations; store = store }

-- all of it is written
unfoldable pub wrote_all : Tables → Lent → Lent
wrote_all t w = record { entries = wrote t.entries w.entries; items = wrote (map item_of t.items) w.items; expectations = wrote t.expectations w.expectations; store = wrote t.store w.store }

-- there is room for all of it
abbrev pub RoomFor : Tables → Lent → Type 0
RoomFor t w = Room (length t.entries) w.entries × Room (length (map item_of t.items)) w.items × Room (length t.expectations) w.expectations × Room (length t.store) w.store

-- what an entry adds behind what is written
unfoldable pub laid_one : Lent → EntryContents → Tables
laid_one w e = let l = laid w.items.at w.store.at e.call in record { entries = laid_entry w.items.at w.expectations.at w.store.at e ∷ []; items = l.items; expectations = e.expects; store = l.store }

-- what the entries that are ahead add
unfoldable pub laid_ahead : (text : List ℕ) → Option Ahead → Lent → Tables
laid_ahead text next w = tables_from w.items.at w.expectations.at w.store.at (entries plain_rules text (ahead_of text next))
