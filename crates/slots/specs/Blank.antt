-- A record of each kind, for what stands past the end of a table. Assumes nothing.
use Rattle.std.specs.Prelude.{None}
use Rattle.wire.specs.declared.ops.Op.TheVariants.{IsValidPath}
use Rattle.script.specs.declared.records.OpCall.{OpCall}
use Rattle.script.specs.declared.records.Expect.{Expect}
use Rattle.script.specs.declared.records.Entry.{Entry}
use Rattle.script.specs.declared.records.Expectation.{Expectation}

abbrev pub blank_entry : Entry
blank_entry = record { line = 0; timestamp_ms = None; op_call = OpCall.NoArgs IsValidPath; expects = record { first = 0; count = 0 } }

abbrev pub blank_expectation : Expectation
blank_expectation = record { line = 0; expect = Expect.Terminal (record { start = 0; len = 0 }) }
