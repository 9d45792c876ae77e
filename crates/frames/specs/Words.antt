-- The fixed words of messages (script/expect.rs). Assumes nothing.
use Rattle.std.specs.Prelude.{ℕ, List, []}
use Rattle.text.specs.Literal.{utf8}
use Rattle.frames.specs.declared.words.Head.{Head}
use Rattle.frames.specs.declared.words.Head.TheVariants as heads
use Rattle.frames.specs.declared.words.Middle.{Middle}
use Rattle.frames.specs.declared.words.Middle.TheVariants as middles

-- what a message begins with
unfoldable pub head_bytes : Head → List ℕ
head_bytes heads.Nothing = []
head_bytes heads.TerminalIs = utf8 "terminal = "
head_bytes heads.ExpectedTerminal = utf8 "expected terminal "
head_bytes heads.ResultWord = utf8 "result"
head_bytes heads.ResultDot = utf8 "result."
head_bytes heads.NoResult = utf8 "result field result not found"
head_bytes heads.NoField = utf8 "result field result."
head_bytes heads.ErrorMatched = utf8 "error matched: "
head_bytes heads.ErrorWord = utf8 "error"
head_bytes heads.NoError = utf8 "expected error but none received"
head_bytes heads.CountWord = utf8 "stderr.count"
head_bytes heads.DaemonWord = utf8 "daemon"
head_bytes heads.TrustWord = utf8 "trust"
head_bytes heads.FeaturesWord = utf8 "server_features"
head_bytes heads.InEntry = utf8 "handshake expect used in op context"
head_bytes heads.InPreamble = utf8 "non-handshake expect in preamble: "
head_bytes heads.UndecidedWord = utf8 "undecided: /"

-- what stands in its middle
unfoldable pub middle_bytes : Middle → List ℕ
middle_bytes middles.Nothing = []
middle_bytes middles.Got = utf8 ", got "
middle_bytes middles.Is = utf8 " = "
middle_bytes middles.ExpectedWord = utf8 ": expected "
middle_bytes middles.ExpectedPattern = utf8 ": expected /"
middle_bytes middles.ExpectedAbove = utf8 ": expected > "
middle_bytes middles.ExpectedBelow = utf8 ": expected < "
middle_bytes middles.ExpectedAtLeast = utf8 ": expected >= "
middle_bytes middles.ExpectedAtMost = utf8 ": expected <= "
middle_bytes middles.NotFound = utf8 " not found"
middle_bytes middles.Slash = utf8 "/"
