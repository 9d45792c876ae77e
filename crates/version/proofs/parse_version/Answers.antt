-- `version::parse_version` meets its contract: each way out is a law of the parts found up to there. Assumes nothing.
use borrow.Author.Rules.{rules}
use borrow.Author.Tests.{not-false}
use Rattle.version.proofs.VersionLaws.{both_read, parse_version_laws}
use Rattle.version.proofs.parse_version.Goals as goal

pub slice_bounds-parse_up_to-count-2 : goal.slice_bounds-parse_up_to-count-2
slice_bounds-parse_up_to-count-2 c = search (rules, parse_version_laws)

pub slice_bounds-parse_up_to-start-2 : goal.slice_bounds-parse_up_to-start-2
slice_bounds-parse_up_to-start-2 c = search (rules, parse_version_laws)

pub returns : goal.returns
returns c =
    both_read
    c.args.s.now
    _
    c.part_at-first.ensures
    (not-false _ c.if-not-first.false)
    _
    c.part_at-second.ensures
    c.if-second.false
    _
    c.parse_up_to.ensures
    _
    c.parse_up_to-2.ensures
    _
    _
    _
    c.in_ok-major.was
    c.in_ok-minor.was
    c.new.ensures
