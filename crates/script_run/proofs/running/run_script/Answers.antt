-- `script_run::running::run_script` meets its contract. Assumes nothing.
use Rattle.std.specs.Prelude.{Err}
use mathlib.Core.Path.{◌≡◌, sym, ◌∙◌}
use borrow.Author.Rules.{rules}
use Rattle.ran.proofs.RanLaws.{few_answers, much_scratch, refused, done}
use Rattle.ran.specs.declared.RunError.TheVariants.{Refused}
use Rattle.script_run.proofs.running.run_script.Goals as goal

pub returns-then-answers-calls : goal.returns-then-answers-calls
returns-then-answers-calls c =
    let S = c.args in
    let z = few_answers S.text.now S.entries.now S.items.now S.expectations.now S.store.now S.calls.now S.bytes.now S.lists.now S.verdicts.now S.scratch.now S.answers.now c.if-answers-calls.true in
    record { value = z.0; entries_after = z.1.0; after = z.1.1.0; expectations_after = z.1.1.1.0; store_after = z.1.1.1.1.0; verdicts_after = z.1.1.1.1.1.0; scratch_after = z.1.1.1.1.1.1.0; answers_after = z.1.1.1.1.1.1.1 }

pub returns-then-asks_more : goal.returns-then-asks_more
returns-then-asks_more c =
    let S = c.args in
    let M = c.asks_more in
    let z = much_scratch S.text.now S.entries.now S.items.now S.expectations.now S.store.now S.calls.now S.bytes.now S.lists.now S.verdicts.now S.scratch.now S.answers.now c.if-answers-calls.false M.result M.ensures c.if-asks_more.true in
    record { value = z.0; entries_after = z.1.0; after = z.1.1.0; expectations_after = z.1.1.1.0; store_after = z.1.1.1.1.0; verdicts_after = z.1.1.1.1.1.0; scratch_after = z.1.1.1.1.1.1.0; answers_after = z.1.1.1.1.1.1.1 }

pub run_calls-requires-clause-calls_in_bounds : goal.run_calls-requires-clause-calls_in_bounds
run_calls-requires-clause-calls_in_bounds c = c.if-answers-calls.false

pub run_calls-requires-clause-calls_value : goal.run_calls-requires-clause-calls_value
run_calls-requires-clause-calls_value c = sym c.asks_more.ensures ∙ c.if-asks_more.false

pub returns-in_err-script : goal.returns-in_err-script
returns-in_err-script c =
    let S = c.args in
    let R = c.read in
    let M = c.asks_more in
    let e : c.from_residual.result ≡ Err (Refused c.in_err-script.field-0.0) = search rules in
    let z = refused S.text.now S.entries.now S.items.now S.expectations.now S.store.now S.calls.now S.bytes.now S.lists.now S.verdicts.now S.scratch.now S.answers.now c.if-answers-calls.false M.result M.ensures c.if-asks_more.false R.result R.ensures.result_value _ _ _ _ R.ensures.entries_after R.ensures.after R.ensures.expectations_after R.ensures.store_after _ c.in_err-script.was in
    rw e (record { value = z.0; entries_after = z.1.0; after = z.1.1.0; expectations_after = z.1.1.1.0; store_after = z.1.1.1.1.0; verdicts_after = z.1.1.1.1.1.0; scratch_after = z.1.1.1.1.1.1.0; answers_after = z.1.1.1.1.1.1.1 })

pub returns : goal.returns
returns c =
    let S = c.args in
    let R = c.read in
    let M = c.asks_more in
    let D = c.run_calls in
    let z = done S.text.now S.entries.now S.items.now S.expectations.now S.store.now S.calls.now S.bytes.now S.lists.now S.verdicts.now S.scratch.now S.answers.now c.if-answers-calls.false M.result M.ensures c.if-asks_more.false R.result R.ensures.result_value _ _ _ _ R.ensures.entries_after R.ensures.after R.ensures.expectations_after R.ensures.store_after c.in_ok-script.script c.in_ok-script.was D.result _ _ _ D.ensures.verdicts_after D.ensures.answers_after D.ensures.scratch_after in
    record { value = z.0; entries_after = z.1.0; after = z.1.1.0; expectations_after = z.1.1.1.0; store_after = z.1.1.1.1.0; verdicts_after = z.1.1.1.1.1.0; scratch_after = z.1.1.1.1.1.1.0; answers_after = z.1.1.1.1.1.1.1 }
