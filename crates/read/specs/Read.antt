-- Document 01, Read: what it answers, and what the lent tables hold at exit. Assumes nothing.
use Rattle.std.specs.Prelude.{ℕ, List, [], length, Err, Ok}
use Rattle.script.specs.Layout.{Tables, Reading}
use Rattle.script.specs.declared.records.Counts.{Counts}
use Rattle.script.specs.declared.records.Entry.{Entry}
use Rattle.script.specs.declared.records.Expectation.{Expectation}
use Rattle.script.specs.declared.records.Script.{Script}
use Rattle.script.specs.Reading.{Parsed}

-- what the caller lends
abbrev pub lent_of : List Entry → (items : List (List ℕ)) → List Expectation → (store : List ℕ) → Counts
lent_of entries items expectations store = record { entries = length entries; items = length items; expectations = length expectations; store = length store }

-- a refusal, or the script
unfoldable pub script_or : Parsed Reading → Parsed Script
script_or (Err r) = Err r
script_or (Ok r) = Ok r.script

-- what is written: nothing where the text is refused
unfoldable pub tables_or : Parsed Reading → Tables
tables_or (Err r) = record { entries = []; items = []; expectations = []; store = [] }
tables_or (Ok r) = r.tables
