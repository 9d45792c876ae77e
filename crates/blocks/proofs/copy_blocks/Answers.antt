-- `blocks::copy_blocks` meets its contract: the bytes passed stand. Assumes nothing.
use borrow.Author.Rules.{rules}
use mathlib.Core.Path.{◌∙◌}
use Rattle.blocks.proofs.BlockLaws.{block_more, block_last}
use Rattle.blocks.proofs.copy_blocks.Goals as goal

pub loop-i-preserved : goal.loop-i-preserved
loop-i-preserved c = search (rules, block_more)

pub returns : goal.returns
returns c = block_last _ _ 16 _ _ _ _ c.loop-i.invariant.1 c.loop-i.invariant.2 (c.copy_from_slice-2.ensures.after ∙ c.block_at-2.ensures) (search rules) (search rules) (search rules) (search rules)
