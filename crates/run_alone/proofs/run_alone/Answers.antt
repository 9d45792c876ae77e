-- `run_alone::run_alone` meets its contract. Assumes nothing.
use lib.ListN.{length}
use Rattle.run_alone.proofs.AloneLaws.{is-alone}
use Rattle.run_alone.proofs.run_alone.Goals as goal

pub returns : goal.returns
returns c =
    let S = c.args in
    let R = c.run_script in
    let e = c.blank_entries-es in
    let i = c.blank_items-is in
    let x = c.blank_expectations-xs in
    let b = c.blank_store-bs in
    record {
      value = is-alone e.result i.result x.result b.result e.ensures i.ensures x.ensures b.ensures S.text.now S.calls.now S.held.bytes.now S.held.lists.now S.verdicts.now (length S.scratch.now) (length S.answers.now) R.result R.ensures.value;
      verdicts_after = R.ensures.verdicts_after;
      scratch_after = R.ensures.scratch_after;
      answers_after = R.ensures.answers_after;
    }
