-- `dump::times::read_times` meets its contract. Assumes nothing.
use Rattle.dump.proofs.TimesLaws.{never_read, once_more, last_turn, store_many}
use borrow.Author.Rules.{rules}
use Rattle.dump.proofs.times.read_times.Goals as goal

pub loop-n-init : goal.loop-n-init
loop-n-init c = (search rules, search rules, search rules, store_many _ c.blank_store-bs.ensures, search rules, never_read _)

pub loop-n-preserved : goal.loop-n-preserved
loop-n-preserved c =
    let L = c.loop-n in
    let R = c.read-a in
    (search rules, search rules, search rules, search rules, search rules, once_more _ L.es L.is L.xs L.bs L.invariant.0 L.invariant.1 L.invariant.2 L.invariant.3 R.result R.ensures.result_value _ c.number_of-last.ensures L._n)

pub returns : goal.returns
returns c = search (rules, last_turn)
