-- Which frame the message of an expectation is, by what it is judged against. Assumes nothing.
use Rattle.std.specs.Prelude.{Bool}
use Rattle.script.specs.declared.records.Expect.{Expect}
use Rattle.verdicts.specs.declared.Verdict.{Verdict}
use Rattle.verdicts.specs.declared.handed.Handed.{Handed}
use Rattle.verdicts.specs.declared.handed.Handed.TheVariants.{Info, Response}
use Rattle.frames.specs.Frames.{entry_frame, handshake_frame}
use Rattle.frames.specs.declared.frames.Frame.{Frame}

unfoldable pub message_frame : Expect → (missing : Bool) → Verdict → Handed → Frame
message_frame e missing v (Info i) = handshake_frame e v
message_frame e missing v (Response r) = entry_frame e missing v r.terminal
