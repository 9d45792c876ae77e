-- `runs::calling::one_call` meets its contract. Assumes nothing.
use mathlib.Core.Path.{sym}
use lib.Seq.{length-take-le}
use Rattle.rows.specs.Rows.{at}
use Rattle.judging.specs.Judge.{Lent, JudgeState}
use Rattle.judge.specs.Tally.{state_of}
use Rattle.runs.proofs.CallingLaws.{closed, handshaken, entered}
use Rattle.runs.proofs.calling.one_call.Goals as goal

pub returns-then-kind-eq0 : goal.returns-then-kind-eq0
unfolding at
returns-then-kind-eq0 c =
    record {
      verdicts_after = (let S = c.args in
          let k : Lent = record { text = S.text.now; script = S.script; entries = S.entries.now; expectations = S.expectations.now } in
          let s : JudgeState = state_of S.t S.verdicts.now in
          closed k s S.held.bytes.now S.held.lists.now S.row S.scratch.now c.close.result c.if-kind-eq0.true c.close.ensures).0;
      scratch_after = (let S = c.args in
          let k : Lent = record { text = S.text.now; script = S.script; entries = S.entries.now; expectations = S.expectations.now } in
          let s : JudgeState = state_of S.t S.verdicts.now in
          closed k s S.held.bytes.now S.held.lists.now S.row S.scratch.now c.close.result c.if-kind-eq0.true c.close.ensures).1;
    }

pub slice_bounds-handshake-end : goal.slice_bounds-handshake-end
unfolding at
slice_bounds-handshake-end c = c.requires

pub slice_bounds-handshake-end-then-kind-eq1 : goal.slice_bounds-handshake-end-then-kind-eq1
unfolding at
slice_bounds-handshake-end-then-kind-eq1 c = sym (length-take-le (at c.args.row 2) c.args.scratch.now c.requires)

pub returns-then-kind-eq1 : goal.returns-then-kind-eq1
unfolding at
returns-then-kind-eq1 c =
    record {
      verdicts_after = (let S = c.args in
          let k : Lent = record { text = S.text.now; script = S.script; entries = S.entries.now; expectations = S.expectations.now } in
          let s : JudgeState = state_of S.t S.verdicts.now in
          let H = c.handshake in
          handshaken S.text.now S.script S.entries.now S.expectations.now s S.held.bytes.now S.held.lists.now S.row S.scratch.now c.requires H.result _ _ c.if-kind-eq0.false c.if-kind-eq1.true c.info_in-i.result c.info_in-i.ensures H.ensures.verdicts_after H.ensures.scratch_after).0;
      scratch_after = (let S = c.args in
          let k : Lent = record { text = S.text.now; script = S.script; entries = S.entries.now; expectations = S.expectations.now } in
          let s : JudgeState = state_of S.t S.verdicts.now in
          let H = c.handshake in
          handshaken S.text.now S.script S.entries.now S.expectations.now s S.held.bytes.now S.held.lists.now S.row S.scratch.now c.requires H.result _ _ c.if-kind-eq0.false c.if-kind-eq1.true c.info_in-i.result c.info_in-i.ensures H.ensures.verdicts_after H.ensures.scratch_after).1;
    }

pub slice_bounds-entry-end : goal.slice_bounds-entry-end
unfolding at
slice_bounds-entry-end c = c.requires

pub slice_bounds-entry-end-2 : goal.slice_bounds-entry-end-2
unfolding at
slice_bounds-entry-end-2 c = sym (length-take-le (at c.args.row 2) c.args.scratch.now c.requires)

pub returns : goal.returns
unfolding at
returns c =
    record {
      verdicts_after = (let S = c.args in
          let k : Lent = record { text = S.text.now; script = S.script; entries = S.entries.now; expectations = S.expectations.now } in
          let s : JudgeState = state_of S.t S.verdicts.now in
          let H = c.entry in
          entered k s S.held.bytes.now S.held.lists.now S.row S.scratch.now c.requires H.result _ _ c.if-kind-eq0.false c.if-kind-eq1.false c.response_in-r.result c.response_in-r.ensures H.ensures.verdicts_after H.ensures.scratch_after).0;
      scratch_after = (let S = c.args in
          let k : Lent = record { text = S.text.now; script = S.script; entries = S.entries.now; expectations = S.expectations.now } in
          let s : JudgeState = state_of S.t S.verdicts.now in
          let H = c.entry in
          entered k s S.held.bytes.now S.held.lists.now S.row S.scratch.now c.requires H.result _ _ c.if-kind-eq0.false c.if-kind-eq1.false c.response_in-r.result c.response_in-r.ensures H.ensures.verdicts_after H.ensures.scratch_after).1;
    }
