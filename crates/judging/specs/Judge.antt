-- Document 01, Judge: what it answers and what it leaves, over the records of a script. The contracts cite these. Assumes nothing.
use Rattle.std.specs.Prelude.{ℕ, ◌+◌, ◌-◌, min, Bool, true, not, List, [], ◌∷◌, map, length, get_or, ltb, eqb, Option, Result}
use Rattle.text.specs.Base.{◌&◌, ◌or◌}
use Rattle.script.specs.Reading.{room}
use Rattle.script.specs.declared.records.Items.{Items}
use Rattle.script.specs.declared.records.Entry.{Entry}
use Rattle.script.specs.declared.records.Expectation.{Expectation}
use Rattle.script.specs.declared.records.Refusal.{Refusal}
use Rattle.script.specs.declared.records.Script.{Script}
use Rattle.script.specs.declared.refusals.Reason.TheVariants.{CountTooHigh, ExpectationOutside, FewSlots, PartOutside, ValueTooLong, WrongNumber}
use Rattle.verdicts.specs.Expected.{Expected}
use Rattle.verdicts.specs.Lookup.{looked}
use Rattle.verdicts.specs.Verdicts.{verdict, code}
use Rattle.verdicts.specs.Held.{ranged, inside, expect_in}
use Rattle.verdicts.specs.declared.Verdict.{Verdict}
use Rattle.written.specs.Written.{written_at}
use Rattle.slots.specs.Blank.{blank_entry}
use Rattle.tallies.specs.declared.tally.Counts.{Counts}
use Rattle.verdicts.specs.declared.handed.Handed.{Handed}
use Rattle.verdicts.specs.declared.handed.Handed.TheVariants.{Info, Response}
use Rattle.tallies.specs.declared.calls.Answer.{Answer}
use Rattle.tallies.specs.Tally.{no_counts, added_all, over_limit}
use Rattle.tallies.specs.Answers.{refused_if, first_refusal, close_answer}
use Rattle.judging.specs.Calls.{Judging, Call, judge, close, subject_of, said, wrong_number, part_outside, too_long, judged_or}

-- what a judging is lent to read: the text, the script's record, and the tables of entries and of expectations
pub record Lent : Type 0 where
  pub text : List ℕ
  pub script : Script
  pub entries : List Entry
  pub expectations : List Expectation

-- what the calls change: the tally's next number and counts, and the list of verdicts, which are bytes
pub record JudgeState : Type 0 where
  pub next : ℕ
  pub counts : Counts
  pub verdicts : List ℕ

-- where every list of calls begins
abbrev pub judge_start : (verdicts : List ℕ) → JudgeState
judge_start verdicts = record { next = 0; counts = no_counts; verdicts = verdicts }

-- ---- what is judged

-- every part of the expectations lies inside the text
unfoldable pub all_in : (text : List ℕ) → List Expectation → Bool
all_in text [] = true
all_in text (e ∷ es) = expect_in (length text) e.expect & all_in text es

module _ (k : Lent) where
  -- the range to be judged: the handshake's expectations, or those of the entry
  unfoldable pub range_for : (number : ℕ) → Handed → Items
  range_for number (Info i) = k.script.preamble.expects
  range_for number (Response r) = (get_or k.entries (number - 1) blank_entry).expects

  -- the expectations of a range
  unfoldable pub records_in : Items → List Expectation
  records_in r = ranged k.expectations r

  unfoldable pub said_by : Items → List Expected
  said_by r = said k.text (records_in r)

  -- ---- the refusals

  -- past the script's count of entries or the table's
  unfoldable pub past_entries : (number : ℕ) → Bool
  past_entries number = ltb k.script.counts.entries number or ltb (room (length k.entries)) number

  -- an expectation to be judged outside the table or the script's count of expectations; where the range is empty there is none
  unfoldable pub range_outside : Items → Bool
  range_outside r = not (eqb r.count 0) & not (inside (min k.script.counts.expectations (room (length k.expectations))) r.first r.count)

  -- or part of it outside the text
  unfoldable pub out_of_reach : Items → Bool
  out_of_reach r = range_outside r or not (all_in k.text (records_in r))

  -- fewer verdict slots than the script's expectations
  unfoldable pub few_slots : (places : ℕ) → Bool
  few_slots places = ltb (room places) k.script.counts.expectations

  -- of a range against a subject, in the order of document 01
  unfoldable pub range_refusals : Items → (places : ℕ) → Judging → List (Option Refusal)
  range_refusals r places j =
      refused_if ExpectationOutside (out_of_reach r)
      ∷ refused_if PartOutside (part_outside j)
      ∷ refused_if FewSlots (few_slots places)
      ∷ refused_if ValueTooLong (too_long j.scratch (map (looked (subject_of j)) (said_by r)))
      ∷ []

  -- the first refusal of the judging of a range: the tally's and the number's come before those; `past` says that the number is past the entries
  unfoldable pub refusal_on : (past : Bool) → Items → (next : ℕ) → Counts → (places : ℕ) → Judging → Option Refusal
  refusal_on past r next counts places j =
      first_refusal
      (refused_if CountTooHigh (over_limit counts)
      ∷ refused_if WrongNumber (wrong_number next j.number past j.handed)
      ∷ range_refusals r places j)

  -- of a judging
  unfoldable pub judge_refusal : JudgeState → Judging → Option Refusal
  judge_refusal s j = refusal_on (past_entries j.number) (range_for j.number j.handed) s.next s.counts (length s.verdicts) j

  -- ---- a judging that is not refused

  -- A range judged by a verdict function: each verdict is counted and lands at its expectation's place, other slots untouched; the next number goes up by 1.
  unfoldable pub judged_by : (Expected → Verdict) → Items → JudgeState → JudgeState
  judged_by f r s =
      let verdicts = map f (said_by r) in
      record {
        next = s.next + 1;
        counts = added_all verdicts s.counts;
        verdicts = written_at r.first (map code verdicts) s.verdicts;
      }

  -- the judging of a range: its answer, and what it leaves
  unfoldable pub judged_on : (past : Bool) → Items → JudgeState → Judging → Result Answer Refusal × JudgeState
  judged_on past r s j = judged_or (refusal_on past r s.next s.counts (length s.verdicts) j) s (judged_by (verdict (subject_of j)) r s)

  -- Judge
  unfoldable pub judged : JudgeState → Judging → Result Answer Refusal × JudgeState
  judged s j = judged_on (past_entries j.number) (range_for j.number j.handed) s j

-- ---- a call

unfoldable pub judge_step : Lent → JudgeState → Call → Result Answer Refusal × JudgeState
judge_step k s (judge j) = judged k s j
judge_step k s close = (close_answer s.next s.counts k.script.counts.entries, s)
