-- Document 01, "Verdicts": the plain judge of demand 3. It is fed the text, the verdict list's length and, of each call, its kind, number, handshake
-- information or response, and scratch length; none of our records. Assumes nothing.
use Rattle.std.specs.Prelude.{ℕ, ◌+◌, not, List, [], ◌∷◌, map, length, replicate, get_or, ltb, eqb, if◌then◌else◌, None, Option, Result, Some}
use Rattle.text.specs.declared.lines.Line.{Line}
use Rattle.script.specs.Plain.{plain_lines, opened, expectation_lines, owners, stated}
use Rattle.script.specs.declared.records.Refusal.{Refusal}
use Rattle.script.specs.declared.refusals.Reason.TheVariants.{FewSlots, NotAllJudged, PartOutside, ValueTooLong, WrongNumber}
use Rattle.verdicts.specs.Expected.{Expected, terminal}
use Rattle.verdicts.specs.Told.{Subject}
use Rattle.verdicts.specs.Lookup.{looked}
use Rattle.verdicts.specs.Verdicts.{verdict}
use Rattle.verdicts.specs.declared.Verdict.{Verdict}
use Rattle.tallies.specs.declared.tally.Counts.{Counts}
use Rattle.tallies.specs.declared.calls.Answer.{Answer}
use Rattle.tallies.specs.Tally.{no_counts, added_all, outcome_of}
use Rattle.tallies.specs.Answers.{refused_if, first_refusal, closed_or}
use Rattle.judging.specs.Calls.{Judging, Call, judge, close, subject_of, said, wrong_number, part_outside, too_long, judged_or, run}

-- ---- the lines

-- an expectation line: the number that it belongs to, and what it says
pub data Owned : Type 0 where
  own : (number : ℕ) → (says : Expected) → Owned

unfoldable pub owned : (numbers : List ℕ) → (says : List Expected) → List Owned
owned (n ∷ ns) (e ∷ es) = own n e ∷ owned ns es
owned (n ∷ ns) [] = []
owned [] es = []

-- the lines that belong to n
unfoldable pub belonging : (n : ℕ) → List Owned → List Expected
belonging n [] = []
belonging n (own k e ∷ ls) = if eqb k n then (e ∷ belonging n ls) else belonging n ls

module _ (text : List ℕ) where
  -- What an expectation line says. A text with a line that says nothing is not read, so it does not matter what stands for that.
  unfoldable pub said_on : Line → Expected
  said_on l = get_or (said text (stated text l)) 0 (terminal [])

  -- the count of entries: opening lines number them from 1
  unfoldable pub entry_count : ℕ
  entry_count = opened (plain_lines text)

  -- The expectation lines in line order. Each belongs to the last opening line above it, or to 0 if there is none.
  unfoldable pub owned_lines : List Owned
  owned_lines = owned (owners 0 (plain_lines text)) (map said_on (expectation_lines (plain_lines text)))

-- ---- the judge

pub record PlainState : Type 0 where
  pub next : ℕ
  -- a slot for each expectation line, in line order
  pub slots : List (Option Verdict)
  pub counts : Counts

-- each line that belongs to n puts its verdict into its slot
unfoldable pub filled : (n : ℕ) → Subject → List Owned → List (Option Verdict) → List (Option Verdict)
filled n s (own k e ∷ ls) (slot ∷ slots) = (if eqb k n then Some (verdict s e) else slot) ∷ filled n s ls slots
filled n s (own k e ∷ ls) [] = []
filled n s [] slots = slots

module _ (text : List ℕ) (places : ℕ) where
  unfoldable pub plain_start : PlainState
  plain_start = record { next = 0; slots = replicate (length (owned_lines text)) None; counts = no_counts }

  -- the first that applies, in this order
  unfoldable pub plain_refusal : (next : ℕ) → Judging → Option Refusal
  plain_refusal next j =
      first_refusal
      (refused_if WrongNumber (wrong_number next j.number (ltb (entry_count text) j.number) j.handed)
      ∷ refused_if PartOutside (part_outside j)
      ∷ refused_if FewSlots (ltb places (length (owned_lines text)))
      ∷ refused_if ValueTooLong (too_long j.scratch (map (looked (subject_of j)) (belonging j.number (owned_lines text))))
      ∷ [])

  unfoldable pub plain_judged : PlainState → Judging → PlainState
  plain_judged p j = record {
    next = p.next + 1;
    slots = filled j.number (subject_of j) (owned_lines text) p.slots;
    counts = added_all (map (verdict (subject_of j)) (belonging j.number (owned_lines text))) p.counts;
  }

  -- Close is refused while the next number is not the count of entries plus 1.
  unfoldable pub plain_closing : PlainState → Result Answer Refusal
  plain_closing p = closed_or (refused_if NotAllJudged (not (eqb p.next (entry_count text + 1)))) (outcome_of p.counts)

  unfoldable pub plain_call : PlainState → Call → Result Answer Refusal × PlainState
  plain_call p (judge j) = judged_or (plain_refusal p.next j) p (plain_judged p j)
  plain_call p close = (plain_closing p, p)

  -- the whole list of calls
  unfoldable pub plain_run : List Call → List (Result Answer Refusal) × PlainState
  plain_run calls = run plain_call plain_start calls
