-- What expectations are judged against, as the definitions speak of it. Assumes nothing.
use Rattle.verdicts.specs.Told.{Subject}
use Rattle.verdicts.specs.Subjects.{held_by}
use Rattle.subjects.specs.declared.handed.Subject as handed

abbrev pub against : handed.Subject → Subject
against s = held_by s.held.bytes.now s.held.lists.now s.handed.now
