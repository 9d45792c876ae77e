-- `dump::dumps::dump_read` meets its contract. Assumes nothing.
use mathlib.Core.List.{[], ◌∷◌}
use native.Mathlib.Omega.{arith}
use Rattle.slots.specs.Blank.{blank_entry, blank_expectation}
use Rattle.dump.proofs.BlankLaws.{lent-within, lent_count, lent_few, lent_blank, read_count, read_put}
use borrow.Author.Rules.{rules}
use Rattle.dump.proofs.dumps.dump_read.Goals as goal

pub slice_bounds-es-end : goal.slice_bounds-es-end
slice_bounds-es-end c = search (rules, lent-within)

pub slice_bounds-dump_into-end : goal.slice_bounds-dump_into-end
slice_bounds-dump_into-end c = search (rules, lent_count)

pub slice_bounds-is-end : goal.slice_bounds-is-end
slice_bounds-is-end c = search (rules, lent-within)

pub slice_bounds-dump_into-end-2 : goal.slice_bounds-dump_into-end-2
slice_bounds-dump_into-end-2 c = search (rules, lent_count)

pub slice_bounds-xs-end : goal.slice_bounds-xs-end
slice_bounds-xs-end c = search (rules, lent-within)

pub slice_bounds-dump_into-end-3 : goal.slice_bounds-dump_into-end-3
slice_bounds-dump_into-end-3 c = search (rules, lent_count)

pub slice_bounds-bs-end : goal.slice_bounds-bs-end
slice_bounds-bs-end c = search (rules, lent-within)

pub slice_bounds-dump_into-end-4 : goal.slice_bounds-dump_into-end-4
slice_bounds-dump_into-end-4 c = search (rules, lent_count)

pub dump_into-requires-clause-entries_len_bound : goal.dump_into-requires-clause-entries_len_bound
dump_into-requires-clause-entries_len_bound c = lent_few blank_entry 256 _ _ _ c.blank_entries-es.ensures c.at_most-e.ensures 32768 (omega arith)

pub dump_into-requires-clause-len_bound : goal.dump_into-requires-clause-len_bound
dump_into-requires-clause-len_bound c = lent_few (0 ∷ 0 ∷ []) 1024 _ _ _ c.blank_items-is.ensures c.at_most-i.ensures 32768 (omega arith)

pub dump_into-requires-clause-expectations_len_bound : goal.dump_into-requires-clause-expectations_len_bound
dump_into-requires-clause-expectations_len_bound c = lent_few blank_expectation 1024 _ _ _ c.blank_expectations-xs.ensures c.at_most-x.ensures 32768 (omega arith)

pub dump_into-requires-clause-store_len_bound : goal.dump_into-requires-clause-store_len_bound
dump_into-requires-clause-store_len_bound c = lent_few 0 32768 _ _ _ c.blank_store-bs.ensures c.at_most-b.ensures 32768 (omega arith)

pub returns-clause-value : goal.returns-clause-value
returns-clause-value c =
    let G = c.args.lent in
    let D = c.dump_into in
    let f = lent_blank blank_entry 256 G.entries _ _ c.blank_entries-es.ensures c.at_most-e.ensures in
    let g = lent_blank (0 ∷ 0 ∷ []) 1024 G.items _ _ c.blank_items-is.ensures c.at_most-i.ensures in
    let h = lent_blank blank_expectation 1024 G.expectations _ _ c.blank_expectations-xs.ensures c.at_most-x.ensures in
    let i = lent_blank 0 32768 G.store _ _ c.blank_store-bs.ensures c.at_most-b.ensures in
    read_count _ G.entries G.items G.expectations G.store _ _ _ _ f g h i _ D.ensures.value

pub returns-clause-out_after : goal.returns-clause-out_after
returns-clause-out_after c =
    let G = c.args.lent in
    let D = c.dump_into in
    let f = lent_blank blank_entry 256 G.entries _ _ c.blank_entries-es.ensures c.at_most-e.ensures in
    let g = lent_blank (0 ∷ 0 ∷ []) 1024 G.items _ _ c.blank_items-is.ensures c.at_most-i.ensures in
    let h = lent_blank blank_expectation 1024 G.expectations _ _ c.blank_expectations-xs.ensures c.at_most-x.ensures in
    let i = lent_blank 0 32768 G.store _ _ c.blank_store-bs.ensures c.at_most-b.ensures in
    read_put _ G.entries G.items G.expectations G.store _ _ _ _ f g h i _ _ D.ensures.out_after
