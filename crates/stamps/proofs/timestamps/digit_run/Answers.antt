-- `stamps::timestamps::digit_run` meets its contract: up to here are digits, and from here it goes as the definition goes. Assumes nothing.
use Rattle.stamps.proofs.TimeLaws.{run_none, walked_here, walked_on, walked_all}
use borrow.Author.Rules.{rules}
use Rattle.stamps.proofs.timestamps.digit_run.Goals as goal

ruleset walk = (run_none, walked_here, walked_on, walked_all)

pub returns-then-not-is_ascii_digit : goal.returns-then-not-is_ascii_digit
returns-then-not-is_ascii_digit c = let h = c.if-not-is_ascii_digit.ensures.value in search (rules, walk)

pub loop-i-preserved : goal.loop-i-preserved
loop-i-preserved c = let h = c.if-not-is_ascii_digit.ensures.value in search (rules, walk)

pub returns : goal.returns
returns c = search (rules, walk)
