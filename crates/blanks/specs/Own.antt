-- Tables of one's own. Assumes nothing.
use Rattle.script.specs.declared.records.Counts.{Counts}

-- how many records and bytes they have
abbrev pub own_tables : Counts
own_tables = record { entries = 256; items = 1024; expectations = 1024; store = 32768 }
