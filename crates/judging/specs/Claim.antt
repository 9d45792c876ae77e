-- Demand 3 of document 01: what is claimed of the whole list of calls. Assumes nothing.
use Rattle.std.specs.Prelude.{ℕ, suc, ◌≤◌, ◌<◌, ◌≡◌, ◌↔◌, ◌≢◌, List, [], ◌∷◌, ◌++◌, map, length, replicate, eqb, if◌then◌else◌, Err, None, Ok, Option, Result, Some}
use Rattle.text.specs.Lines.{lines}
use Rattle.text.specs.declared.lines.Line.{Line}
use Rattle.script.specs.Layout.{Reading}
use Rattle.script.specs.Reading.{read_into}
use Rattle.script.specs.Plain.{PlainLine, expects, plain_lines, opened, expectation_lines, owners, beginning_lines}
use Rattle.script.specs.declared.records.Counts as Script
use Rattle.script.specs.declared.records.Entry.{Entry}
use Rattle.script.specs.declared.records.Expectation.{Expectation}
use Rattle.script.specs.Refusals.{refusal}
use Rattle.script.specs.declared.records.Refusal.{Refusal}
use Rattle.script.specs.declared.refusals.Reason.TheVariants.{NotAllJudged}
use Rattle.verdicts.specs.Expected.{Expected}
use Rattle.verdicts.specs.Told.{Subject}
use Rattle.verdicts.specs.Verdicts.{verdict, code, decode}
use Rattle.verdicts.specs.declared.Verdict.{Verdict}
use Rattle.written.specs.Written.{written_at}
use Rattle.tallies.specs.declared.tally.Counts.{Counts}
use Rattle.tallies.specs.declared.tally.Outcome.TheVariants as Outcome
use Rattle.tallies.specs.declared.calls.Answer.{Answer}
use Rattle.tallies.specs.declared.calls.Answer.TheVariants.{Judged, Closed}
use Rattle.tallies.specs.Tally.{no_counts, added, outcome_of}
use Rattle.judging.specs.Calls.{Call, judge, close, subject_of, run}
use Rattle.judging.specs.PlainJudge.{Owned, own, said_on, entry_count, owned_lines, PlainState}
use Rattle.judging.specs.Judge.{Lent, JudgeState, judge_start, judge_step}

-- ---- the tables as Read left them

-- What is lent to the calls is as Read, by its contract, answered and left it: r is its reading, `entries` and `expectations` are the tables as they were
-- before, and `sizes` says how many records and bytes it was lent.
pub record AsRead (sizes : Script.Counts) (entries : List Entry) (expectations : List Expectation) (r : Reading) (k : Lent) : Type 0 where
  pub entries-lent : sizes.entries ≡ length entries
  pub expectations-lent : sizes.expectations ≡ length expectations
  pub is_read : read_into sizes k.text ≡ Ok r
  pub script : k.script ≡ r.script
  pub entries-left : k.entries ≡ written_at 0 r.tables.entries entries
  pub expectations-left : k.expectations ≡ written_at 0 r.tables.expectations expectations

-- ---- the claim

-- The verdict list shows the slots: a verdict where there is one; where the slot is empty or missing, what the list held before the first call.
unfoldable pub slot_over : Option Verdict → ℕ → ℕ
slot_over None byte = byte
slot_over (Some v) byte = code v

unfoldable pub slots_over : List (Option Verdict) → (before : List ℕ) → List ℕ
slots_over (slot ∷ slots) (byte ∷ before) = slot_over slot byte ∷ slots_over slots before
slots_over (slot ∷ slots) [] = []
slots_over [] before = before

-- what our calls are to leave, where the plain judge leaves p
unfoldable pub state_over : (before : List ℕ) → PlainState → JudgeState
state_over before p = record { next = p.next; counts = p.counts; verdicts = slots_over p.slots before }

-- every answer of ours, and the state after the last call, from a fresh tally
abbrev pub our_run : Lent → (verdicts : List ℕ) → List Call → List (Result Answer Refusal) × JudgeState
our_run k verdicts calls = run (judge_step k) (judge_start verdicts) calls

-- ---- the same in the user's words

-- what the unrefused calls of number n were handed
unfoldable pub accepted_by : (n : ℕ) → Call → Result Answer Refusal → List Subject
accepted_by n (judge j) (Ok Judged) = if eqb j.number n then (subject_of j ∷ []) else []
accepted_by n (judge j) (Err r) = []
accepted_by n (judge j) (Ok (Closed o)) = []
accepted_by n close answer = []

unfoldable pub accepted : (n : ℕ) → List Call → List (Result Answer Refusal) → List Subject
accepted n (c ∷ cs) (a ∷ as') = accepted_by n c a ++ accepted n cs as'
accepted n (c ∷ cs) [] = []
accepted n [] answers = []

-- the verdict of what a line says, where there is something to judge it against
unfoldable pub verdict_by : List Subject → Expected → Option Verdict
verdict_by [] e = None
verdict_by (s ∷ more) e = Some (verdict s e)

-- An expectation line has a verdict if the number that it belongs to was judged unrefused: that of what this call was handed. Else it has none.
unfoldable pub line_verdict : List Call → List (Result Answer Refusal) → Owned → Option Verdict
line_verdict calls answers (own n e) = verdict_by (accepted n calls answers) e

unfoldable pub line_verdicts : (text : List ℕ) → List Call → List (Result Answer Refusal) → List (Option Verdict)
line_verdicts text calls answers = map (line_verdict calls answers) (owned_lines text)

-- the verdicts, in line order
unfoldable pub verdicts_in : List (Option Verdict) → List Verdict
verdicts_in [] = []
verdicts_in (None ∷ slots) = verdicts_in slots
verdicts_in (Some v ∷ slots) = v ∷ verdicts_in slots

-- how many there are of each kind
unfoldable pub counted : List (Option Verdict) → Counts
counted [] = no_counts
counted (None ∷ slots) = counted slots
counted (Some v ∷ slots) = added v (counted slots)

unfoldable pub number_of : Owned → ℕ
number_of (own n e) = n

unfoldable pub said_of : Owned → Expected
said_of (own n e) = e

-- `answers` and `last` are what the calls answered and left, from a fresh tally and the verdict list `before`.
pub record InWords (k : Lent) (before : List ℕ) (calls : List Call) (answers : List (Result Answer Refusal)) (last : JudgeState) : Type 0 where
  -- the expectation lines are the lines that, trimmed, begin with `expect`, in line order
  pub expect_lines : expectation_lines (plain_lines k.text) ≡ beginning_lines k.text (lines k.text)
  pub one_for_each : map said_of (owned_lines k.text) ≡ map (said_on k.text) (expectation_lines (plain_lines k.text))
  -- each belongs to the nearest opening line above it: opening lines number the entries from 1, so that is as many as there are above; 0 if there is none
  pub nearest_above : (above below : List PlainLine) (l : Line) → plain_lines k.text ≡ above ++ (expects l ∷ below)
      → map number_of (owned_lines k.text) ≡ owners 0 above ++ (opened above ∷ owners (opened above) below)
  -- no number is judged unrefused twice
  pub only_one : (n : ℕ) → length (accepted n calls answers) ≤ 1
  -- they are judged in order: those below the next number were
  pub in_order : (n : ℕ) → (n < last.next) ↔ (accepted n calls answers ≢ [])
  -- the verdict list has the verdicts of the lines at their places, in line order, and is else as it was
  pub verdicts : last.verdicts ≡ slots_over (line_verdicts k.text calls answers) before
  pub told_by_its_byte : (v : Verdict) → decode (code v) ≡ v
  -- and there is a place for each, once a number was judged
  pub in_reach : (n : ℕ) → accepted n calls answers ≢ [] → length (owned_lines k.text) ≤ length before
  -- the counts are the numbers of verdicts of each kind
  pub counts : last.counts ≡ counted (line_verdicts k.text calls answers)
  -- a close is refused while the handshake or an entry is unjudged
  pub close_early : (n : ℕ) → n ≤ entry_count k.text → accepted n calls answers ≡ [] → (judge_step k last close).0 ≡ Err (refusal NotAllJudged 0)
  -- and else says what the verdicts say
  pub close_late : ((n : ℕ) → n ≤ entry_count k.text → accepted n calls answers ≢ [])
      → (judge_step k last close).0 ≡ Ok (Closed (outcome_of (counted (line_verdicts k.text calls answers))))
  -- passed exactly when there is a verdict and every one passed
  pub says-passed : (outcome_of (counted (line_verdicts k.text calls answers)) ≡ Outcome.Passed)
      ↔ ((n : ℕ) × (verdicts_in (line_verdicts k.text calls answers) ≡ replicate (suc n) Verdict.Passed))
