-- `run_exports::nwscript_run` meets its contract. Assumes nothing.
use mathlib.Core.Path.{ap, ◌∙◌}
use mathlib.Core.List.{List, map}
use lib.ListN.{length}
use Rattle.written.specs.Written.{written_at}
use Rattle.judging.specs.Calls.{Call}
use Rattle.judging.specs.PlainJudge.{plain_run}
use Rattle.calls.specs.CallRows.{calls_of, answer_code}
use Rattle.judging.specs.Runs.{plain_scratch}
use Rattle.ran.specs.Ran.{Ran, plain_left, if_done}
use Rattle.ran.specs.Told.{status_of, ran_line, ran_tally}
use Rattle.run_exports.proofs.nwscript_run.Goals as goal

pub returns : goal.returns
returns c =
    let S = c.args in
    let R = c.run_alone-r in
    let E = R.ensures.value in
    let calls : List Call = calls_of S.bytes.now S.lists.now S.calls.now in
    record {
      value = c.status_of.ensures ∙ ap status_of E;
      line_after = c.ran_line.ensures ∙ ap ran_line E;
      undecided_after = c.ran_tally-t.ensures ∙ ap ran_tally E;
      verdicts_after = R.ensures.verdicts_after ∙ ap (λ (r : Ran). if_done r (plain_left S.text.now S.verdicts.now calls).verdicts S.verdicts.now) E;
      scratch_after = R.ensures.scratch_after ∙ ap (λ (r : Ran). if_done r (plain_scratch S.text.now (length S.verdicts.now) calls S.scratch.now) S.scratch.now) E;
      answers_after = R.ensures.answers_after ∙ ap (λ (r : Ran). if_done r (written_at 0 (map answer_code (plain_run S.text.now (length S.verdicts.now) calls).0) S.answers.now) S.answers.now) E;
    }
