use Prim.Native.Nat.{◌≤◌}
use mathlib.Core.Path.{◌≡◌}
use mathlib.Core.List.{List, reverse}
use lib.ListN.{length, take}
use Rattle.text.specs.Utf8.{Range}
use Rattle.text.specs.Trim.{white_bytes, backwards, strip_from, trimmed_back}
use Rattle.trimming.proofs.back_start.Given as goal

abbrev rows : List (List Range)
rows = backwards white_bytes

abbrev pub invariant-loop-i : goal.invariant-loop-i
invariant-loop-i l = (l.i ≤ length l.s) × (reverse (strip_from rows 0 (reverse (take l.i l.s))) ≡ trimmed_back l.s)

abbrev pub decreases-loop-i : goal.decreases-loop-i
decreases-loop-i l = l.i
