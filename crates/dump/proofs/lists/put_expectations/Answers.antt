-- `dump::lists::put_expectations` meets its contract: what stands for each that was passed is written. Assumes nothing.
use mathlib.Core.Path.{ap}
use borrow.Author.Rules.{rules}
use Rattle.written.proofs.WriterLaws.{each_none, each_all, each_room, each_wrote}
use Rattle.numbers.specs.Numbers.{in_bytes}
use Rattle.dump.specs.Dump.{expectation_bytes}
use Rattle.dump.proofs.lists.put_expectations.Goals as goal

pub loop-x-init : goal.loop-x-init
loop-x-init c = each_none expectation_bytes c.args.w.now

pub put_numbers-requires : goal.put_numbers-requires
put_numbers-requires c = each_room expectation_bytes c.args.expectations.now _ c.args.w.now _ c.loop-x.invariant c.requires _ (search rules) _ (ap in_bytes c.expectation_numbers.ensures)

pub loop-x-preserved : goal.loop-x-preserved
loop-x-preserved c = each_wrote expectation_bytes c.args.expectations.now _ c.args.w.now _ c.loop-x.invariant c.requires _ (search rules) _ (ap in_bytes c.expectation_numbers.ensures) _ c.put_numbers.ensures

pub returns : goal.returns
returns c = each_all expectation_bytes c.args.expectations.now _ c.args.w.now _ c.loop-x.invariant c.requires (search rules)
