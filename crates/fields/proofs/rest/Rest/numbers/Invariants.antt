use mathlib.Core.Path.{◌≡◌}
use Rattle.fields.proofs.FieldLaws.{Filling}
use Rattle.fields.proofs.rest.Rest.numbers.Given as goal

abbrev pub invariant-loop-number : goal.invariant-loop-number
invariant-loop-number l = (l.rest.line ≡ l.self.line) × Filling l.self.line.now l.self.at l.rest.at l.number-index l.initial.out l.out
