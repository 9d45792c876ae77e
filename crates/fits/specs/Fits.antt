-- Whether the tables that are lent are long enough: 21, 22, 23, 24 of document 01. Assumes nothing.
use Rattle.std.specs.Prelude.{ltb, if◌then◌else◌, None, Option, Some}
use Rattle.script.specs.Reading.{room}
use Rattle.script.specs.Refusals.{refusal}
use Rattle.script.specs.declared.records.Counts.{Counts}
use Rattle.script.specs.declared.records.Refusal.{Refusal}
use Rattle.script.specs.declared.refusals.Reason.TheVariants.{FewEntries, FewExpectations, FewItems, FewStoreBytes}

-- the first table that is too short
unfoldable pub shortage : (lent needed : Counts) → Option Refusal
shortage lent needed =
    if ltb (room lent.entries) needed.entries then Some (refusal FewEntries 0)
    else if ltb (room lent.items) needed.items then Some (refusal FewItems 0)
    else if ltb (room lent.expectations) needed.expectations then Some (refusal FewExpectations 0)
    else if ltb lent.store needed.store then Some (refusal FewStoreBytes 0)
    else None
