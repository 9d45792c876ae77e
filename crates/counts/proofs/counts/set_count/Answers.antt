-- `counts::counts::set_count` meets its contract. Assumes nothing.
use mathlib.Core.Path.{sym, ◌∙◌}
use Rattle.counts.proofs.CountLaws.{set-braced, set_one, count_fits, set-counts}
use borrow.Author.Rules.{rules}
use Rattle.counts.proofs.counts.set_count.Goals as goal

pub returns-then-starts_with : goal.returns-then-starts_with
returns-then-starts_with c =
    let q = c.trimmed-q.ensures in
    let test = rw q.text at c.starts_with.ensures.value in
    let inner = rw (c.behind.ensures.text, c.behind.ensures.at, q.text) at c.braced_count.ensures in
    let counted = set-braced _ _ _ q.at _ test _ c.if-starts_with.true inner in
    record { value = counted; result_bound = count_fits _ _ _ c.args.v.inside counted }

pub returns-then-is_empty : goal.returns-then-is_empty
returns-then-is_empty c = search (rules, set-counts)

pub returns : goal.returns
returns c =
    let q = c.trimmed-q.ensures in
    let test = rw q.text at c.starts_with.ensures.value in
    let one = set_one _ _ _ q.at _ test c.if-starts_with.false (sym c.is_empty.ensures ∙ c.if-is_empty.false) in
    record { value = one; result_bound = count_fits _ _ _ c.args.v.inside one }
