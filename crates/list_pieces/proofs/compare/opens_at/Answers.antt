-- `list_pieces::compare::opens_at` meets its contract. The loop's invariant: what is left of the pattern opens what is left of the list just where the whole
-- pattern opens the list from the place given. Assumes nothing.
use mathlib.Core.Path.{◌∙◌}
use borrow.Author.Rules.{rules}
use Rattle.list_pieces.specs.Pieces.{row}
use Rattle.list_pieces.proofs.OpenLaws.{list_turns, list_same, list_over}
use Rattle.list_pieces.proofs.compare.opens_at.Goals as goal

pub returns-then-not-whole : goal.returns-then-not-whole
returns-then-not-whole c = search (rules, list_turns)

pub returns-then-not-starts_with : goal.returns-then-not-starts_with
returns-then-not-starts_with c = search (rules, list_turns)

pub returns-in-None : goal.returns-in-None
unfolding row
returns-in-None c =
    let e = list_same _ _ _ _ _ c.loop-rest.invariant _ c.starts_with-in-loop-rest.ensures c.if-rest-here.false c.if-not-starts_with.false in
    c.is_empty.ensures ∙ list_over _ _ _ (rw c.in-None.ensures.steps.0 at e)
