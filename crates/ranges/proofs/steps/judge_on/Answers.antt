-- `ranges::steps::judge_on` meets its contract. Assumes nothing.
use mathlib.Core.Path.{◌≡◌, sym, ap, ◌∙◌}
use mathlib.Core.List.{List, [], map}
use Prim.Native.Nat.{ℕ, ◌-◌}
use native.Mathlib.Omega.{arith}
use lib.Dec.{ltb}
use lib.ListN.{length, drop, length-take, length-drop}
use Rattle.script.specs.declared.records.Expectation.{Expectation}
use Rattle.verdicts.specs.Held.{ranged}
use Rattle.verdicts.specs.Lookup.{looked}
use Rattle.verdicts.specs.Verdicts.{verdict, code}
use Rattle.written.specs.Written.{written_at}
use Rattle.written.proofs.WrittenLaws.{part_written}
use Rattle.judging.specs.Calls.{said, too_long}
use Rattle.subjects.specs.Against.{against}
use Rattle.tallies.specs.Tally.{added_all}
use Rattle.ranges.specs.Judging.{lent_of, asked_of}
use Rattle.ranges.proofs.RangeLaws.{codes_length}
use Rattle.ranges.proofs.StepLaws.{Begun, begun, none_tried, written_there, judged_ok}
use Rattle.ranges.proofs.steps.judge_on.Goals as goal
use Rattle.ranges.proofs.steps.judge_on.Goals.{After-part_of-judged}

-- a judging that comes so far is not refused
begun_of : (c : After-part_of-judged) → let s = c.args in Begun s.next s.counts s.text.now s.expectations.now s.entries s.number (looked (against s.s)) (length s.verdicts.now) (length s.scratch.now) s.r
begun_of c = let s = c.args in begun s.next s.counts s.text.now s.script s.expectations.now s.entries s.r s.number s.s.handed.now s.s.held.bytes.now s.s.held.lists.now _ _ _ _ c.refusal_of-tried.ensures c.in_default.is

pub judge_range-after-requires-clause-slots_bound : goal.judge_range-after-requires-clause-slots_bound
judge_range-after-requires-clause-slots_bound c =
    let b = begun_of (goal.at.judge_range-after-requires-clause-slots_bound c).After-part_of-judged in
    let v = c.args.verdicts.now in
    let n = c.min-first.result in
    omega (arith, b.slots, ap length c.part_of-judged.ensures, c.min-first.ensures, length-take (length v - n) (drop n v), length-drop n v)

pub judge_range-after-requires-clause-count_bound : goal.judge_range-after-requires-clause-count_bound
judge_range-after-requires-clause-count_bound c =
    let b = begun_of (goal.at.judge_range-after-requires-clause-count_bound c).After-part_of-judged in omega (arith, b.among_first, ap length c.part_of-judged.ensures)

pub judge_range-after-requires-clause-passed_bound : goal.judge_range-after-requires-clause-passed_bound
judge_range-after-requires-clause-passed_bound c = (begun_of (goal.at.judge_range-after-requires-clause-passed_bound c).After-part_of-judged).few

pub judge_range-after-requires-clause-fit : goal.judge_range-after-requires-clause-fit
judge_range-after-requires-clause-fit c =
    let b = begun_of (goal.at.judge_range-after-requires-clause-fit c).After-part_of-judged in
    let s = c.args in
    ap (λ (es : List Expectation). too_long (length s.scratch.now) (map (looked (against s.s)) (said s.text.now es))) c.part_of-judged.ensures ∙ b.fit

pub overflow_add-result : goal.overflow_add-result
overflow_add-result c = let b = begun_of (goal.at.overflow_add-result c).After-part_of-judged in omega (arith, b.is_next, b.is_entry, c.requires)

pub returns-clause-verdicts_after : goal.returns-clause-verdicts_after
returns-clause-verdicts_after c =
    let b = begun_of (goal.at.returns-clause-verdicts_after c).After-part_of-judged in
    let s = c.args in
    let f = verdict (against s.s) in
    let v = s.verdicts.now in
    let n = c.min-first.result in
    let r = c.judge_range-after in
    let es = ranged s.expectations.now s.r in
    let codes = map code (map f (said s.text.now es)) in
    let to_range : codes ≡ map code (map f (said s.text.now c.part_of-judged.result.now)) = ap (λ (l : List Expectation). map code (map f (said s.text.now l))) (sym c.part_of-judged.ensures) in
    judged_ok (lent_of s.text.now s.script [] s.expectations.now) (ltb s.entries s.number) s.r (record { next = s.next; counts = s.counts; verdicts = v })
    (asked_of s.number s.s.handed.now s.s.held.bytes.now s.s.held.lists.now (length s.scratch.now)) r.result _ (none_tried _ _ (sym c.refusal_of-tried.ensures ∙ c.in_default.is))
    (r.ensures.value ∙ ap (λ (l : List Expectation). added_all (map f (said s.text.now l)) s.counts) c.part_of-judged.ensures)
    (part_written codes _ n v r.new.slots to_range (omega (arith, codes_length s.text.now f es, b.slots, c.min-first.ensures)) r.ensures.slots_after
    ∙ ap (λ (m : ℕ). written_at m codes v) c.min-first.ensures
    ∙ written_there f s.text.now s.expectations.now s.r v b.in_list)
