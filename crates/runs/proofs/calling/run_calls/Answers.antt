-- `runs::calling::run_calls` meets its contract. Assumes nothing.
use Rattle.judging.specs.Judge.{Lent}
use Rattle.runs.proofs.RunLaws.{going_begun, part-lent, going_on, all_left, all_answered, all_written}
use Rattle.runs.proofs.calling.run_calls.Goals as goal

pub loop-i-init : goal.loop-i-init
loop-i-init c =
    let S = c.args in
    let k : Lent = record { text = S.text.now; script = S.script; entries = S.entries.now; expectations = S.expectations.now } in
    going_begun k S.held.bytes.now S.held.lists.now S.calls.now S.verdicts.now S.scratch.now S.answers.now c.new-t.result c.new-t.ensures c.requires.calls_in_bounds c.requires.calls_value

pub one_call-turn-requires : goal.one_call-turn-requires
one_call-turn-requires c =
    let S = c.args in
    let k : Lent = record { text = S.text.now; script = S.script; entries = S.entries.now; expectations = S.expectations.now } in
    let L = c.loop-i in
    part-lent k S.held.bytes.now S.held.lists.now S.calls.now S.verdicts.now S.scratch.now S.answers.now L.t L.verdicts L.scratch L.answers L.i L.invariant c.loop-i-test.true

pub loop-i-preserved : goal.loop-i-preserved
loop-i-preserved c =
    let S = c.args in
    let k : Lent = record { text = S.text.now; script = S.script; entries = S.entries.now; expectations = S.expectations.now } in
    let L = c.loop-i in
    let O = c.one_call-turn in
    going_on k S.held.bytes.now S.held.lists.now S.calls.now S.verdicts.now S.scratch.now S.answers.now L.t L.verdicts L.scratch L.answers L.i L.invariant c.loop-i-test.true O.result.tally _ _ O.result.answer c.answer_code.result O.ensures.verdicts_after O.ensures.scratch_after O.auto.scratch c.answer_code.ensures

pub returns-clause-verdicts_after : goal.returns-clause-verdicts_after
returns-clause-verdicts_after c =
    let S = c.args in
    let k : Lent = record { text = S.text.now; script = S.script; entries = S.entries.now; expectations = S.expectations.now } in
    let L = c.loop-i in
    all_left k S.held.bytes.now S.held.lists.now S.calls.now S.verdicts.now S.scratch.now S.answers.now L.t L.verdicts L.scratch L.answers L.i L.invariant c.loop-i-test.false

pub returns-clause-answers_after : goal.returns-clause-answers_after
returns-clause-answers_after c =
    let S = c.args in
    let k : Lent = record { text = S.text.now; script = S.script; entries = S.entries.now; expectations = S.expectations.now } in
    let L = c.loop-i in
    all_answered k S.held.bytes.now S.held.lists.now S.calls.now S.verdicts.now S.scratch.now S.answers.now L.t L.verdicts L.scratch L.answers L.i L.invariant c.loop-i-test.false

pub returns-clause-scratch_after : goal.returns-clause-scratch_after
returns-clause-scratch_after c =
    let S = c.args in
    let k : Lent = record { text = S.text.now; script = S.script; entries = S.entries.now; expectations = S.expectations.now } in
    let L = c.loop-i in
    all_written k S.held.bytes.now S.held.lists.now S.calls.now S.verdicts.now S.scratch.now S.answers.now L.t L.verdicts L.scratch L.answers L.i L.invariant c.loop-i-test.false
