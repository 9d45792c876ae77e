-- `subjects::one::value_fits` meets its contract. Assumes nothing.
use mathlib.Core.Path.{ap, ◌∙◌}
use Rattle.std.specs.Option.{is_some}
use Rattle.sought.proofs.ValueLaws.{text-is}
use Rattle.subjects.proofs.SubjectLaws.{fits-left}
use Rattle.subjects.proofs.one.value_fits.Goals as goal

pub returns : goal.returns
returns c =
    let h = c.args.s.held in
    let l = c.looked_value-value in
    c.is_some.ensures ∙ ap is_some c.value_room.ensures ∙ fits-left c.args.room _ _ (text-is h.bytes.now h.lists.now l.result _ (l.ensures h.bytes.now h.lists.now))
