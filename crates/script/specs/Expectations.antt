-- Document 01, "The script", and `parse_expect` and `parse_matcher` of the Rust: expectations and their matchers. Assumes nothing.
use Rattle.std.specs.Prelude.{ℕ, ◌-◌, List, [], ◌∷◌, ltb, ℤ, if◌then◌else◌, Err, None, Ok, Option, Some}
use Rattle.text.specs.Base.{◌&◌}
use Rattle.values.specs.Numbers.{signed}
use Rattle.text.specs.declared.parts.Span.{Span}
use Rattle.script.specs.Answers.{◌>>=◌, first_of, Answer}
use Rattle.script.specs.Pieces.{place, bytes, begins, ends, behind, trim, inner, cut}
use Rattle.script.specs.declared.records.Matcher.{Matcher}
use Rattle.script.specs.declared.records.Matcher.TheVariants.{Exact, Regex, GreaterThan, LessThan, GreaterOrEqual, LessOrEqual}
use Rattle.script.specs.declared.records.Expect.{Expect}
use Rattle.script.specs.declared.records.Expect.TheVariants.{Terminal, Result, ResultField, Error, StderrCount, Daemon, Trust, ServerFeatures}
use Rattle.script.specs.declared.refusals.Reason.TheVariants.{MatcherNumberUnreadable, UnknownExpectation}

abbrev pub COLON : ℕ
COLON = 0x3A

abbrev pub SLASH : ℕ
SLASH = 0x2F

-- 5: the number is unreadable
unfoldable pub numbered : (ℤ → Matcher) → Option ℤ → Answer Matcher
numbered case None = Err MatcherNumberUnreadable
numbered case (Some n) = Ok (case n)

-- an expectation with the matcher that stands behind its colon
unfoldable pub about : (Matcher → Expect) → Answer Matcher → Answer Expect
about case (Ok m) = Ok (case m)
about case (Err n) = Err n

module _ (text : List ℕ) where
  -- ---- matchers

  -- a pattern: `/` at both ends, and more than that one sign
  unfoldable pub pattern : Span → Option (Answer Matcher)
  pattern s = if begins text "/" s & ends text s SLASH & ltb 1 (s.end - s.start) then Some (Ok (Regex (place (inner s)))) else None

  -- a comparison: the sign, then an i64
  unfoldable pub comparison : (ℤ → Matcher) → Option Span → Option (Answer Matcher)
  comparison case behind_sign = do
    rest ← behind_sign
    Some (numbered case (signed (bytes text (trim text rest))))

  -- the first of these that fits; else the text itself
  unfoldable pub matcher : Span → Answer Matcher
  matcher s =
      first_of
      (pattern s
      ∷ comparison GreaterOrEqual (behind text ">=" s)
      ∷ comparison LessOrEqual (behind text "<=" s)
      ∷ comparison GreaterThan (behind text ">" s)
      ∷ comparison LessThan (behind text "<" s)
      ∷ [])
      (Ok (Exact (place s)))

  -- ---- expectations

  unfoldable pub matching : (Matcher → Expect) → Option Span → Option (Answer Expect)
  matching case behind_colon = do
    rest ← behind_colon
    Some (about case (matcher (trim text rest)))

  -- `expect: Last`: the text itself, no matcher
  unfoldable pub terminal : Option Span → Option (Answer Expect)
  terminal behind_colon = do
    rest ← behind_colon
    Some (Ok (Terminal (place (trim text rest))))

  -- `.field: matcher`
  unfoldable pub field : Option Span → Option (Answer Expect)
  field behind_dot = do
    rest ← behind_dot
    c ← cut text COLON rest
    matching (ResultField (place (trim text c.before))) (Some c.after)

  -- `result: matcher`, or `result.field: matcher`; White_Space may stand before the colon or the dot
  unfoldable pub result : Option Span → Option (Answer Expect)
  result behind_result = do
    rest ← behind_result
    let r = trim text rest
    elim (matching Result (behind text ":" r)) [ None ↦ field (behind text "." r) | Some e ↦ Some e ]

  -- The first form that fits decides; 4: none does. `r` is what follows `expect`, trimmed.
  unfoldable pub expectation : Span → Answer Expect
  expectation r =
      first_of
      (terminal (behind text ":" r)
      ∷ matching StderrCount (behind text "stderr.count:" r)
      ∷ matching Error (behind text "error:" r)
      ∷ result (behind text "result" r)
      ∷ matching Daemon (behind text "daemon:" r)
      ∷ matching Trust (behind text "trust:" r)
      ∷ matching ServerFeatures (behind text "server_features:" r)
      ∷ [])
      (Err UnknownExpectation)
