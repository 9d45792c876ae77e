-- `parse::measure::measure_keeping` meets its contract. Assumes nothing.
use Rattle.std.specs.Prelude.{Err}
use Prim.Native.Nat.{ℕ, ◌≤◌, ◌<◌}
use mathlib.Core.Path.{◌≡◌, sym, ◌∙◌}
use mathlib.Core.Bool.{Bool, true, false}
use mathlib.Core.List.{List}
use lib.ListN.{length}
use borrow.Author.Tests.{lt-ltb, le-ltb, not-true, not-false}
use Rattle.text.specs.Lines.{lines}
use Rattle.text.specs.Utf8.{well_formed}
use Rattle.script.specs.Reading.{measured, Parsed}
use Rattle.script.specs.Refusals.{refusal}
use Rattle.script.specs.declared.roles.Where.TheVariants.{InPreamble}
use Rattle.measuring.specs.Measure.{zeros, preamble_open, walk_from, measured_by}
use Rattle.measuring.proofs.MeasureLaws.{measured-is}
use borrow.Author.Rules.{rules}
use Rattle.parse.proofs.measure.measure_keeping.Goals as goal
use Rattle.script.specs.declared.records.Counts.{Counts}
use Rattle.script.specs.declared.refusals.Reason.TheVariants.{NotUtf8, TextTooLong}

module _ (text : List ℕ) where
  long : 0x8000 < length text → Err (refusal TextTooLong 0) ≡ measured text
  unfolding measured_by
  long h = rw (lt-ltb 0x8000 (length text) h) at (measured-is text)

  module _ (h : length text ≤ 0x8000) (b : Bool) (e : b ≡ well_formed text) where
    ill : b ≡ false → Err (refusal NotUtf8 0) ≡ measured text
    unfolding measured_by
    ill f = rw (le-ltb 0x8000 (length text) h, sym e ∙ f) at (measured-is text)

    walked : b ≡ true → (r : Parsed Counts) → r ≡ walk_from text zeros preamble_open InPreamble (lines text) → r ≡ measured text
    unfolding measured_by
    walked t r q = q ∙ (rw (le-ltb 0x8000 (length text) h, sym e ∙ t) at (measured-is text))

ruleset answers = (long, ill, walked, not-true, not-false)

pub returns-then-text-gt32768 : goal.returns-then-text-gt32768
returns-then-text-gt32768 c = search (rules, answers)

pub returns-then-not-well_formed : goal.returns-then-not-well_formed
returns-then-not-well_formed c = search (rules, answers)

pub returns : goal.returns
returns c = search (rules, answers)
