-- What a line is and where the next one begins, of what is kept. Assumes nothing.
use Rattle.kept.specs.declared.Kept.{Kept}
use Rattle.turns.specs.declared.Turn.{Turn}

abbrev pub turn_of : Kept → Turn
turn_of e = record { step = e.step; next = e.next }
