-- The definitions of the steps that the code takes to an expectation. Assumes nothing.
use Rattle.std.specs.Prelude.{ℕ, ◌+◌, List, [], ◌∷◌, length, if◌then◌else◌, Err}
use Rattle.text.specs.Parts.{span, starts_with}
use Rattle.text.specs.declared.parts.Span.{Span}
use Rattle.script.specs.Answers.{first_of, Answer}
use Rattle.script.specs.Pieces.{bytes, behind, trim}
use Rattle.script.specs.Expectations.{about, matcher, matching, field}
use Rattle.script.specs.declared.records.Matcher.{Matcher}
use Rattle.script.specs.declared.records.Expect.{Expect}
use Rattle.script.specs.declared.records.Expect.TheVariants as expect
use Rattle.expectations.specs.declared.Subject.{Subject}
use Rattle.expectations.specs.declared.Subject.TheVariants.{Result, Field, Error, StderrCount, Daemon, Trust, ServerFeatures}
use Rattle.script.specs.declared.refusals.Reason.TheVariants.{UnknownExpectation}

-- the expectation about that, of its matcher
unfoldable pub expect_about : Subject → Matcher → Expect
expect_about Result = expect.Result
expect_about (Field name) = expect.ResultField name
expect_about Error = expect.Error
expect_about StderrCount = expect.StderrCount
expect_about Daemon = expect.Daemon
expect_about Trust = expect.Trust
expect_about ServerFeatures = expect.ServerFeatures

module _ (text : List ℕ) where
  -- the matcher that stands there, without the White_Space around it
  unfoldable pub about_in : Span → Subject → Answer Expect
  about_in p s = about (expect_about s) (matcher text (trim text p))

  -- the same behind a word, given as bytes; refused where it does not stand there
  unfoldable pub about_word : Span → (word : List ℕ) → Subject → Answer Expect
  about_word r word s = if starts_with word (bytes text r) then about_in (span (r.start + length word) r.end) s else Err UnknownExpectation

  -- by the sign behind the word `result`: `: matcher`, or `.field: matcher`
  unfoldable pub by_sign : Span → Answer Expect
  by_sign q = first_of (matching text expect.Result (behind text ":" q) ∷ field text (behind text "." q) ∷ []) (Err UnknownExpectation)
