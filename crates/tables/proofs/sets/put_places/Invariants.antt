use mathlib.Core.Path.{◌≡◌}
use mathlib.Core.List.{map}
use Prim.Native.Nat.{◌+◌}
use lib.ListN.{length}
use Rattle.std.specs.Iterator.{size}
use Rattle.written.specs.Writing.{Room, wrote}
use Rattle.tables.specs.Items.{items_for}
use Rattle.tables.specs.Walks.{place_of}
use Rattle.tables.proofs.sets.put_places.Given as goal

abbrev pub invariant-loop-piece : goal.invariant-loop-piece
invariant-loop-piece g l =
    (goal.iterator-loop-piece g).can_next l.piece-iterator
    × (goal.iterator-loop-piece g).is_finite l.piece-iterator
    × Room (length (items_for (map place_of l.yielded)) + size (g.I.Iterator.remaining l.piece-iterator)) l.fn.items
    × (l.items ≡ wrote (items_for (map place_of l.yielded)) l.fn.items)
