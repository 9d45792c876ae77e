-- Document 01, "Verdicts": the lines as the plain judge sees them, from the text alone. Assumes nothing.
use Rattle.std.specs.Prelude.{ℕ, suc, Bool, true, false, List, [], ◌∷◌, ◌++◌, if◌then◌else◌, Err, None, Ok, Option, Some}
use Rattle.text.specs.Base.{◌or◌, BLANK}
use Rattle.text.specs.Lines.{lines, indented}
use Rattle.text.specs.declared.parts.Span.{Span}
use Rattle.text.specs.declared.lines.Line.{Line}
use Rattle.wire.specs.Operations.{named}
use Rattle.wire.specs.declared.ops.Op.{Op}
use Rattle.script.specs.Pieces.{bytes, is_empty, is, begins, trim, cut_or}
use Rattle.script.specs.Operations.{form_of}
use Rattle.script.specs.Timestamps.{stamped}
use Rattle.script.specs.Roles.{line_span, argument_line, saying_in, expect_role}
use Rattle.script.specs.Contents.{expectation_of}
use Rattle.script.specs.Layout.{range}
use Rattle.script.specs.declared.records.Items.{Items}
use Rattle.script.specs.declared.records.Expectation.{Expectation}
use Rattle.script.specs.declared.roles.Takes.{Takes}
use Rattle.script.specs.declared.roles.Takes.TheVariants.{NoLines, Options, Garbage, Verify, Texts, Store, Multiple, FirstData, FirstRaw}
use Rattle.script.specs.declared.roles.Saying.{Saying}
use Rattle.script.specs.declared.roles.Saying.TheVariants.{Known, Pair, NoColon, Unknown, NoPair, NoRaw}
use Rattle.script.specs.Answers.{Answer}
use Rattle.script.specs.declared.roles.Stamped.{Stamped}

-- a line of the text: an expectation line; a line that opens an entry; any other
pub data PlainLine : Type 0 where
  expects : Line → PlainLine
  opens other : PlainLine

-- where a line stands: above the `---` line; below it; right below an operation that takes such argument lines
pub data Standing : Type 0 where
  above below : Standing
  taking : Takes → Standing

pub record PlainStep : Type 0 where
  pub mark : PlainLine
  pub next : Standing

abbrev pub plainly : PlainLine → Standing → PlainStep
plainly mark next = record { mark = mark; next = next }

-- below an opening line
unfoldable pub under : Takes → Standing
under NoLines = below
under Options = taking Options
under Garbage = taking Garbage
under Verify = taking Verify
under Texts = taking Texts
under Store = taking Store
under Multiple = taking Multiple
under FirstData = taking FirstData
under FirstRaw = taking FirstRaw

-- the argument lines that the operation named on a line takes
unfoldable pub taken_by : Option Op → Takes
taken_by None = NoLines
taken_by (Some op) = (form_of op).takes

-- the line has a key of its operation
unfoldable pub has_key : Saying → Bool
has_key (Known k v) = true
has_key (Pair a b) = false
has_key NoColon = false
has_key (Unknown k v) = false
has_key NoPair = false
has_key NoRaw = false

module _ (text : List ℕ) where
  -- the line, trimmed
  abbrev pub trimmed_line : Line → Span
  trimmed_line l = trim text (line_span l)

  abbrev pub inward : Line → Bool
  inward l = indented (bytes text (line_span l))

  -- An expectation line begins, trimmed, with `expect`.
  unfoldable pub expectation_line : Line → Bool
  expectation_line l = begins text "expect" (trimmed_line l)

  unfoldable pub plain_above : Line → PlainLine
  plain_above l = if expectation_line l then expects l else other

  unfoldable pub taken_on : Answer Stamped → Takes
  taken_on (Err n) = NoLines
  taken_on (Ok s) = taken_by (named (bytes text (cut_or text BLANK s.rest).before))

  -- A line opens an entry if it stands below the `---` line, is not blank, begins, trimmed, with neither `#` nor `expect`, and is no argument line.
  unfoldable pub plain_below : Line → PlainStep
  plain_below l =
      let opened = plainly opens (under (taken_on (stamped text (trimmed_line l)))) in
      if is_empty (trimmed_line l) or begins text "#" (trimmed_line l) then plainly other below
      else if expectation_line l then plainly (expects l) below
      else opened

  -- the first `data` line of AddBuildLog, and the first `raw x"` line, end their block
  unfoldable pub remaining : Takes → Span → Standing
  remaining NoLines t = taking NoLines
  remaining Options t = taking Options
  remaining Garbage t = taking Garbage
  remaining Verify t = taking Verify
  remaining Texts t = taking Texts
  remaining Store t = taking Store
  remaining Multiple t = taking Multiple
  remaining FirstData t = if has_key (saying_in text FirstData false t) then below else taking FirstData
  remaining FirstRaw t = if has_key (saying_in text FirstRaw false t) then below else taking FirstRaw

  unfoldable pub plain_step : Standing → Line → PlainStep
  plain_step above l = if is text "---" (trimmed_line l) then plainly other below else plainly (plain_above l) above
  plain_step below l = plain_below l
  plain_step (taking takes) l =
      let taken = plainly other (remaining takes (trimmed_line l)) in
      let elsewhere = plain_below l in
      if argument_line text (inward l) (trimmed_line l) then taken else elsewhere

  unfoldable pub plain_from : Standing → List Line → List PlainLine
  plain_from w [] = []
  plain_from w (l ∷ ls) = let s = plain_step w l in s.mark ∷ plain_from s.next ls

  -- what an expectation line states: one expectation, where the line is read
  unfoldable pub stated : Line → List Expectation
  stated l = expectation_of l.number (expect_role text (trimmed_line l))

  unfoldable pub stated_on : List Line → List Expectation
  stated_on [] = []
  stated_on (l ∷ ls) = stated l ++ stated_on ls

-- the lines of a text
unfoldable pub plain_lines : List ℕ → List PlainLine
plain_lines text = plain_from text above (lines text)

-- ---- what belongs to which number

-- the count of entries: opening lines number them from 1
unfoldable pub opened : List PlainLine → ℕ
opened [] = 0
opened (expects l ∷ ms) = opened ms
opened (opens ∷ ms) = suc (opened ms)
opened (other ∷ ms) = opened ms

-- the expectation lines, in line order
unfoldable pub expectation_lines : List PlainLine → List Line
expectation_lines [] = []
expectation_lines (expects l ∷ ms) = l ∷ expectation_lines ms
expectation_lines (opens ∷ ms) = expectation_lines ms
expectation_lines (other ∷ ms) = expectation_lines ms

-- the number that each expectation line belongs to: that of the last opening line above it, k where there is none
unfoldable pub owners : (k : ℕ) → List PlainLine → List ℕ
owners k [] = []
owners k (expects l ∷ ms) = k ∷ owners k ms
owners k (opens ∷ ms) = owners (suc k) ms
owners k (other ∷ ms) = owners k ms

-- how many expectation lines stand above the next opening line
unfoldable pub leading : List PlainLine → ℕ
leading [] = 0
leading (expects l ∷ ms) = suc (leading ms)
leading (opens ∷ ms) = 0
leading (other ∷ ms) = leading ms

-- for each entry the range of its lines among the expectation lines, of which `at` came before; an empty range is 0 and 0
unfoldable pub ranges_from : (at : ℕ) → List PlainLine → List Items
ranges_from at [] = []
ranges_from at (expects l ∷ ms) = ranges_from (suc at) ms
ranges_from at (opens ∷ ms) = range at (leading ms) ∷ ranges_from at ms
ranges_from at (other ∷ ms) = ranges_from at ms

-- the lines that, trimmed, begin with `expect`
unfoldable pub beginning_lines : (text : List ℕ) → List Line → List Line
beginning_lines text [] = []
beginning_lines text (l ∷ ls) = let more = beginning_lines text ls in if expectation_line text l then (l ∷ more) else more
