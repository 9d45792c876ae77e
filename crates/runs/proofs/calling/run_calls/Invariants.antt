use Rattle.runs.proofs.RunLaws.{Going}
use Rattle.runs.proofs.calling.run_calls.Given as goal

abbrev pub invariant-loop-i : goal.invariant-loop-i
invariant-loop-i l = Going (record { text = l.text; script = l.script; entries = l.entries; expectations = l.expectations }) l.held.bytes.now l.held.lists.now l.calls l.initial.verdicts l.initial.scratch l.initial.answers l.t l.verdicts l.scratch l.answers l.i
