-- `replay_script::dumped::is_left` meets its contract. Assumes nothing.
use mathlib.Core.Path.{sym}
use lib.Seq.{length-take-le}
use Rattle.replay_script.proofs.DumpedLaws.{too_long, dump_left}
use borrow.Author.Rules.{rules}
use Rattle.replay_script.proofs.dumped.is_left.Goals as goal

pub returns-then-n-gt8192 : goal.returns-then-n-gt8192
returns-then-n-gt8192 c = search (rules, too_long)

pub slice_bounds-is_dump-end : goal.slice_bounds-is_dump-end
slice_bounds-is_dump-end c = sym (length-take-le _ _ (search rules))

pub returns : goal.returns
returns c = search (rules, dump_left)
