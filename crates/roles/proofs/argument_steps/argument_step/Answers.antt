-- `roles::argument_steps::argument_step` meets its contract: what the line says, refused or not. Assumes nothing.
use Rattle.roles.proofs.BlockLaws.{line-words}
use borrow.Author.Rules.{rules}
use Rattle.roles.proofs.argument_steps.argument_step.Goals as goal

pub returns-in-None : goal.returns-in-None
returns-in-None c = search (rules, line-words)

pub returns-in-Some : goal.returns-in-Some
returns-in-Some c = search (rules, line-words)
