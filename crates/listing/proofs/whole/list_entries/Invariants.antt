use Prim.Native.Nat.{◌*◌}
use lib.ListN.{take}
use Rattle.printed.specs.Listing.{entry_lines}
use Rattle.printed.proofs.PutLaws.{Put}
use Rattle.listing.proofs.whole.list_entries.Given as goal

abbrev pub invariant-loop-entry : goal.invariant-loop-entry
invariant-loop-entry l = Put (entry_lines (take l.entry-index l.entries)) (l.entry-index * 63) l.fn.w l.w
