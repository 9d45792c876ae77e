use mathlib.Core.Path.{◌≡◌}
use Rattle.text.specs.Parts.{span}
use Rattle.script.specs.Pieces.{bytes}
use Rattle.script.specs.Roles.{behind_signs}
use Rattle.remarks.proofs.behind_signs.Given as goal

abbrev pub invariant-loop-i : goal.invariant-loop-i
invariant-loop-i l = behind_signs l.i (bytes l.t.text.now (span l.i l.t.at.end)) ≡ behind_signs l.t.at.start (bytes l.t.text.now l.t.at)
