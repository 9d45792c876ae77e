-- The dump of Read, by which a host sees every record: numbers of 8 bytes each, and at the end the bytes of the store. Whatever stands in a
-- table is dumped, used or not, so that the host also sees what was not written. Assumes nothing.
use Rattle.std.specs.Prelude.{ℕ, min, replicate}
use mathlib.Core.List.{List, [], ◌∷◌, ◌++◌, map, flat_map}
use Rattle.script.specs.Reading.{read_into, Parsed}
use Rattle.script.specs.Layout.{Reading}
use Rattle.script.specs.declared.records.Expectation.{Expectation}
use Rattle.script.specs.declared.records.Entry.{Entry}
use Rattle.script.specs.declared.records.Script.{Script}
use Rattle.written.specs.Written.{written_at}
use Rattle.tables.specs.Items.{item_of}
use Rattle.slots.specs.Blank.{blank_entry, blank_expectation}
use Rattle.read.specs.Read.{lent_of, script_or, tables_or}
use Rattle.numbers.specs.Numbers.{in_bytes, entry_numbers, item_numbers, expectation_numbers, head_numbers}
-- for those who read the dump
unfoldable pub use Rattle.numbers.specs.Numbers.{low_bytes, bytes_of}

-- ---- the dump

-- a record in bytes
abbrev pub entry_bytes : Entry → List ℕ
entry_bytes e = in_bytes (entry_numbers e)

abbrev pub item_bytes : (item : List ℕ) → List ℕ
item_bytes item = in_bytes (item_numbers item)

abbrev pub expectation_bytes : Expectation → List ℕ
expectation_bytes x = in_bytes (expectation_numbers x)

unfoldable pub dump_of : Parsed Script → List Entry → (items : List (List ℕ)) → List Expectation → (store : List ℕ) → List ℕ
dump_of answer entries items expectations store =
    in_bytes (head_numbers answer)
    ++ flat_map entry_bytes entries
    ++ flat_map item_bytes items
    ++ flat_map expectation_bytes expectations
    ++ store

-- of a reading into lent tables: the used front of each is written, the rest is as it was
unfoldable pub dump_read : Parsed Reading → List Entry → (items : List (List ℕ)) → List Expectation → (store : List ℕ) → List ℕ
dump_read r entries items expectations store =
    dump_of
    (script_or r)
    (written_at 0 (tables_or r).entries entries)
    (written_at 0 (map item_of (tables_or r).items) items)
    (written_at 0 (tables_or r).expectations expectations)
    (written_at 0 (tables_or r).store store)

unfoldable pub dump_into : (text : List ℕ) → List Entry → (items : List (List ℕ)) → List Expectation → (store : List ℕ) → List ℕ
dump_into text entries items expectations store = dump_read (read_into (lent_of entries items expectations store) text) entries items expectations store

-- of a reading of a text into blank tables, of which so many records and bytes are lent
unfoldable pub read_dump : (text : List ℕ) → (entries items expectations store : ℕ) → List ℕ
read_dump text entries items expectations store =
    dump_into
    text
    (replicate (min 256 entries) blank_entry)
    (replicate (min 1024 items) (0 ∷ 0 ∷ []))
    (replicate (min 1024 expectations) blank_expectation)
    (replicate (min 32768 store) 0)
