-- A message as the code makes it: fixed words and pieces, one behind the other. What they come to is `Messages.message` (proofs/FrameLaws).
-- Assumes nothing.
use Rattle.std.specs.Prelude.{ℕ, Bool, true, false, List, [], ◌++◌, if◌then◌else◌, None, Option, Some}
use Rattle.script.specs.declared.records.Place.{Place}
use Rattle.script.specs.declared.records.Matcher.{Matcher}
use Rattle.script.specs.declared.records.Matcher.TheVariants.{Exact, Regex, GreaterThan, LessThan, GreaterOrEqual, LessOrEqual}
use Rattle.script.specs.declared.records.Expect.{Expect}
use Rattle.script.specs.declared.records.Expect.TheVariants.{Terminal, Result, ResultField, Error, StderrCount, Daemon, Trust, ServerFeatures}
use Rattle.verdicts.specs.declared.Verdict.{Verdict}
use Rattle.verdicts.specs.declared.Verdict.TheVariants.{Passed, Failed, Undecided}
use Rattle.verdicts.specs.Held.{text_at}
use Rattle.verdicts.specs.Messages.{integer}
use Rattle.text.specs.Literal.{utf8}
use Rattle.frames.specs.Words.{head_bytes, middle_bytes}
use Rattle.frames.specs.declared.words.Head.{Head}
use Rattle.frames.specs.declared.words.Head.TheVariants as heads
use Rattle.frames.specs.declared.words.Middle.{Middle}
use Rattle.frames.specs.declared.words.Middle.TheVariants as middles
use Rattle.frames.specs.declared.frames.Piece.{Piece}
use Rattle.frames.specs.declared.frames.Piece.TheVariants as pieces
use Rattle.frames.specs.declared.frames.Ending.{Ending}
use Rattle.frames.specs.declared.frames.Ending.TheVariants as endings
use Rattle.frames.specs.declared.frames.Frame.{Frame}
use Rattle.frames.specs.declared.frames.Shown.{Shown}
use Rattle.frames.specs.declared.frames.Heading.{Heading}

-- ---- a value that may be missing

unfoldable pub is_missing : Option (List ℕ) → Bool
is_missing None = true
is_missing (Some value) = false

-- ---- what a frame comes to

unfoldable pub ending_bytes : (value : List ℕ) → Ending → List ℕ
ending_bytes value endings.Nothing = []
ending_bytes value endings.Got = utf8 ", got " ++ value
ending_bytes value endings.PatternGot = utf8 "/, got " ++ value

module _ (text bytes value : List ℕ) where
  unfoldable pub piece_bytes : Piece → List ℕ
  piece_bytes pieces.Nothing = []
  piece_bytes (pieces.Text p) = text_at text p
  piece_bytes (pieces.Held p) = text_at bytes p
  piece_bytes pieces.Value = value
  piece_bytes (pieces.Number n) = integer n

  unfoldable pub frame_bytes : Frame → List ℕ
  frame_bytes f = head_bytes f.first ++ text_at text f.a ++ middle_bytes f.second ++ piece_bytes f.b ++ ending_bytes value f.ending

-- ---- which frame a message is

-- a part of the text that has no bytes
abbrev pub nowhere : Place
nowhere = record { start = 0; len = 0 }

abbrev pub between : (before : Middle) → Piece → (behind : Ending) → Shown
between before piece behind = record { before = before; piece = piece; behind = behind }

unfoldable pub shown_as : Matcher → Shown
shown_as (Exact p) = between middles.ExpectedWord (pieces.Text p) endings.Got
shown_as (Regex p) = between middles.ExpectedPattern (pieces.Text p) endings.PatternGot
shown_as (GreaterThan n) = between middles.ExpectedAbove (pieces.Number n) endings.Got
shown_as (LessThan n) = between middles.ExpectedBelow (pieces.Number n) endings.Got
shown_as (GreaterOrEqual n) = between middles.ExpectedAtLeast (pieces.Number n) endings.Got
shown_as (LessOrEqual n) = between middles.ExpectedAtMost (pieces.Number n) endings.Got

unfoldable pub word_frame : (first : Head) → (a : Place) → (second : Middle) → Piece → Frame
word_frame first a second b = record { first = first; a = a; second = second; b = b; ending = endings.Nothing }

unfoldable pub no_frame : Frame
no_frame = word_frame heads.Nothing nowhere middles.Nothing pieces.Nothing

unfoldable pub undecided_frame : Matcher → Frame
undecided_frame (Exact p) = no_frame
undecided_frame (Regex p) = word_frame heads.UndecidedWord p middles.Slash pieces.Nothing
undecided_frame (GreaterThan n) = no_frame
undecided_frame (LessThan n) = no_frame
undecided_frame (GreaterOrEqual n) = no_frame
undecided_frame (LessOrEqual n) = no_frame

unfoldable pub failed_frame : Heading → Shown → Frame
failed_frame h s = record { first = h.failed; a = h.field; second = s.before; b = s.piece; ending = s.behind }

unfoldable pub valued_frame : Heading → Matcher → Verdict → Frame
valued_frame h m Passed = word_frame h.passed h.field h.between pieces.Value
valued_frame h m Failed = failed_frame h (shown_as m)
valued_frame h m Undecided = undecided_frame m

unfoldable pub terminal_frame : (name got : Place) → Verdict → Frame
terminal_frame name got Passed = word_frame heads.TerminalIs name middles.Nothing pieces.Nothing
terminal_frame name got Failed = word_frame heads.ExpectedTerminal name middles.Got (pieces.Held got)
terminal_frame name got Undecided = no_frame

unfoldable pub missing_or : (missing : Bool) → (absent : Frame) → Heading → Matcher → Verdict → Frame
missing_or missing absent h m v = if missing then absent else valued_frame h m v

-- `WORD = value`, `WORD: expected ..`
unfoldable pub headed : Head → (field : Place) → Heading
headed w field = record { passed = w; between = middles.Is; failed = w; field = field }

unfoldable pub error_headed : Heading
error_headed = record { passed = heads.ErrorMatched; between = middles.Nothing; failed = heads.ErrorWord; field = nowhere }

-- one word alone
abbrev pub alone : Head → Frame
alone w = word_frame w nowhere middles.Nothing pieces.Nothing

unfoldable pub entry_frame : Expect → (missing : Bool) → Verdict → (terminal : Place) → Frame
entry_frame (Terminal p) missing v terminal = terminal_frame p terminal v
entry_frame (Result m) missing v terminal = missing_or missing (alone heads.NoResult) (headed heads.ResultWord nowhere) m v
entry_frame (ResultField p m) missing v terminal =
    missing_or missing (word_frame heads.NoField p middles.NotFound pieces.Nothing) (headed heads.ResultDot p) m v
entry_frame (Error m) missing v terminal = missing_or missing (alone heads.NoError) error_headed m v
entry_frame (StderrCount m) missing v terminal = valued_frame (headed heads.CountWord nowhere) m v
entry_frame (Daemon m) missing v terminal = alone heads.InEntry
entry_frame (Trust m) missing v terminal = alone heads.InEntry
entry_frame (ServerFeatures m) missing v terminal = alone heads.InEntry

unfoldable pub handshake_frame : Expect → Verdict → Frame
handshake_frame (Terminal p) v = alone heads.InPreamble
handshake_frame (Result m) v = alone heads.InPreamble
handshake_frame (ResultField p m) v = alone heads.InPreamble
handshake_frame (Error m) v = alone heads.InPreamble
handshake_frame (StderrCount m) v = alone heads.InPreamble
handshake_frame (Daemon m) v = valued_frame (headed heads.DaemonWord nowhere) m v
handshake_frame (Trust m) v = valued_frame (headed heads.TrustWord nowhere) m v
handshake_frame (ServerFeatures m) v = valued_frame (headed heads.FeaturesWord nowhere) m v
