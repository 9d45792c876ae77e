use Rattle.below.specs.Below.{NextIn}
use Rattle.entries.specs.Laid.{lent, laid_ahead}
use Rattle.entries.proofs.LaidLaws.{Gone}
use Rattle.entries.proofs.EntriesLaws.{left_in}
use Rattle.entries.proofs.entries.read_entries.Given as goal

abbrev pub invariant-loop-next : goal.invariant-loop-next
invariant-loop-next l = NextIn l.m.text.now 0 l.next
    × Gone (laid_ahead l.m.text.now l.initial.next (lent l.initial.entries l.initial.items l.initial.expectations l.initial.store)) (lent l.initial.entries l.initial.items l.initial.expectations l.initial.store)
    (laid_ahead l.m.text.now l.next (lent l.entries l.items l.expectations l.store)) (lent l.entries l.items l.expectations l.store)

abbrev pub decreases-loop-next : goal.decreases-loop-next
decreases-loop-next l = left_in l.m.text.now l.next
