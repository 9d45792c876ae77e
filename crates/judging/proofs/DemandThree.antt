-- Demand 3 of document 01, the claim about the whole list of calls. `demand_three`: from a fresh tally and any verdict list, with tables as Read left them, our
-- answers, tally and verdict list are the plain judge's. `in_words`: the same in the user's words. Assumes nothing.
use Rattle.std.specs.Prelude.{None, Option, Result}
use mathlib.Core.Path.{◌≡◌, refl, sym, ap, ap₂, ◌∙◌}
use mathlib.Core.Logic.{◌≢◌}
use mathlib.Core.Bool.{not}
use mathlib.Core.List.{List, [], ◌∷◌, ◌++◌, map}
use Prim.Native.Nat.{ℕ, zero, suc, ◌+◌, ◌≤◌, ◌<◌}
use native.Mathlib.Omega.{arith}
use native.Mathlib.Nat.{not-suc-le-zero}
use native.Mathlib.Decide.{dec_le}
use lib.ListN.{length, replicate}
use lib.Dec.{eqb}
use borrow.Author.Tests.{eq-eqb, ne_eqb}
use Rattle.text.specs.declared.lines.Line.{Line}
use Rattle.script.specs.Layout.{Reading}
use Rattle.script.specs.Plain.{PlainLine, expects, plain_lines, opened, owners}
use Rattle.script.proofs.ExpectLines.{expect_lines}
use Rattle.script.specs.declared.records.Counts as Script
use Rattle.script.specs.declared.records.Entry.{Entry}
use Rattle.script.specs.declared.records.Expectation.{Expectation}
use Rattle.script.specs.declared.records.Refusal.{Refusal}
use Rattle.script.specs.declared.refusals.Reason.TheVariants.{NotAllJudged}
use Rattle.verdicts.specs.Told.{Subject}
use Rattle.verdicts.specs.declared.Verdict.{Verdict}
use Rattle.verdicts.proofs.CodeLaws.{decode-code}
use Rattle.tallies.specs.declared.calls.Answer.{Answer}
use Rattle.tallies.specs.Tally.{outcome_of}
use Rattle.tallies.specs.Answers.{refused_if, closed_or}
use Rattle.judging.specs.Calls.{Call, close, run}
use Rattle.judging.specs.PlainJudge.{Owned, own, said_on, entry_count, owned_lines, plain_closing, plain_call, plain_run}
use Rattle.judging.specs.Judge.{Lent, JudgeState, judge_start, judge_step}
use Rattle.judging.specs.Claim.{AsRead, slots_over, state_over, our_run, accepted, verdict_by, line_verdict, line_verdicts, counted, InWords}
use Rattle.judging.proofs.Slots.{passed_exactly}
use Rattle.judging.proofs.Lines.{lines_numbers, lines-said, owners-below}
use Rattle.judging.proofs.History.{run-shown, run_keeps, only, only_one, only-past, only-within, slots_in, plain_of, history_call, plain-shown, Good, good_call, accepted-run, no_slots, none-counted, plain_begin}
use Rattle.judging.proofs.Ours.{Agrees, shows, our_shown}
use Rattle.judging.proofs.LentRead.{read_agrees}

none_over : (n : ℕ) (vs : List ℕ) → slots_over (replicate n None) vs ≡ vs
unfolding slots_over Rattle.judging.specs.Claim.slot_over
none_over zero vs = refl
none_over (suc n) [] = refl
none_over (suc n) (x ∷ vs) = ap (λ (r : List ℕ). x ∷ r) (none_over n vs)

-- below some lines, the next expectation line belongs to the last opening line among them
nearest : (up down : List PlainLine) (l : Line) → owners 0 (up ++ (expects l ∷ down)) ≡ owners 0 up ++ (opened up ∷ owners (opened up) down)
unfolding owners
nearest up down l = owners-below 0 up (expects l ∷ down) ∙ ap (λ (n : ℕ). owners 0 up ++ (n ∷ owners n down)) z
  where
    z : 0 + opened up ≡ opened up
    z = omega arith

module _ (k : Lent) (a : Agrees k) (before : List ℕ) where
  abbrev text : List ℕ
  text = k.text

  abbrev places : ℕ
  places = length before

  pub our_begin : shows k a before [] ≡ judge_start before
  unfolding shows state_over plain_of
  our_begin = rw (no_slots (owned_lines text), none-counted (length (owned_lines text)), none_over (length (owned_lines text)) before) refl

  module _ (calls : List Call) where
    -- the history after the calls, and their answers
    abbrev last : List Subject
    last = (run (history_call text places) [] calls).1

    abbrev answers : List (Result Answer Refusal)
    answers = (run (history_call text places) [] calls).0

    ours : our_run k before calls ≡ (answers, shows k a before last)
    ours = rw (← our_begin) (run-shown (history_call text places) (judge_step k) (shows k a before) (our_shown k a before) calls [])

    plains : plain_run text places calls ≡ (answers, plain_of text places last)
    unfolding plain_run
    plains = rw (← plain_begin text places) (run-shown (history_call text places) (plain_call text places) (plain_of text places) (plain-shown text places) calls [])

    pub same_run : our_run k before calls ≡ ((plain_run text places calls).0, state_over before (plain_run text places calls).1)
    unfolding shows
    same_run = rw (ours, plains) refl

    -- ---- what was accepted

    was_accepted : (n : ℕ) → only last n ≡ accepted n calls answers
    was_accepted n = accepted-run text places n calls [] ∙ ap (λ (l : List Subject). l ++ accepted n calls answers) (only-past [] n (omega arith))

    good : Good text places last
    good = run_keeps (history_call text places) (Good text places) (good_call text places) calls [] (omega arith, λ h. absurd (not-suc-le-zero h))

    judged_up_to : (n : ℕ) → accepted n calls answers ≢ [] → n < length last
    judged_up_to n f = elim (dec_le (suc n) (length last)) [
      | yes h ↦ h
      | no h ↦ absurd (f (sym (was_accepted n) ∙ only-past last n (omega arith)))
    ]

    slots_by : (ls : List Owned) → slots_in last ls ≡ map (line_verdict calls answers) ls
    unfolding line_verdict
    slots_by [] = refl
    slots_by (own n e ∷ ls) = ap₂ (λ (o : Option Verdict) (os : List (Option Verdict)). o ∷ os) (ap (λ (l : List Subject). verdict_by l e) (was_accepted n)) (slots_by ls)

    same_slots : slots_in last (owned_lines text) ≡ line_verdicts text calls answers
    unfolding line_verdicts
    same_slots = slots_by (owned_lines text)

    closing_now : (judge_step k (shows k a before last) close).0 ≡ closed_or (refused_if NotAllJudged (not (eqb (length last) (entry_count text + 1)))) (outcome_of (counted (slots_in last (owned_lines text))))
    unfolding history_call plain_closing plain_of
    closing_now = ap (λ (r : Result Answer Refusal × JudgeState). r.0) (our_shown k a before last close)

    pub said_in_words : InWords k before calls (our_run k before calls).0 (our_run k before calls).1
    unfolding shows state_over plain_of owned_lines refused_if closed_or
    said_in_words =
        rw ours
        (record {
          expect_lines = expect_lines text;
          one_for_each = lines-said (said_on text) _ (plain_lines text);
          nearest_above = λ up down l e. lines_numbers (said_on text) 0 (plain_lines text) ∙ ap (owners 0) e ∙ nearest up down l;
          only_one = λ n. rw (← was_accepted n) (only_one last n);
          in_order = λ n. (λ h e. let g : length last ≤ n = only-within last n (was_accepted n ∙ e) in let z : ⊥ = omega arith in z, λ f. judged_up_to n f);
          verdicts = ap (λ (os : List (Option Verdict)). slots_over os before) same_slots;
          told_by_its_byte = decode-code;
          in_reach = λ n f. let g : n < length last = judged_up_to n f in good.1 (omega arith);
          counts = ap counted same_slots;
          close_early = λ n h e.
              let g : length last ≤ n = only-within last n (was_accepted n ∙ e) in
              closing_now ∙ rw (ne_eqb (length last) (entry_count text + 1) (λ z. omega arith)) refl;
          close_late = λ f.
              let g : entry_count text < length last = judged_up_to (entry_count text) (f (entry_count text) (omega arith)) in
              let m : length last ≤ entry_count text + 1 = good.0 in
              closing_now ∙ rw (eq-eqb (length last) (entry_count text + 1) (omega arith), same_slots) refl;
          says-passed = passed_exactly (line_verdicts text calls answers);
        })

-- ---- the claim

module _ (sizes : Script.Counts) (entries : List Entry) (expectations : List Expectation) (r : Reading) (k : Lent) (a : AsRead sizes entries expectations r k) (before : List ℕ) (calls : List Call) where
  -- Every answer, the tally's next number and counts, and the verdict list are the plain judge's; where its slot is empty or missing, ours is as before the
  -- first call.
  pub demand_three : our_run k before calls ≡ ((plain_run k.text (length before) calls).0, state_over before (plain_run k.text (length before) calls).1)
  demand_three = same_run k (read_agrees sizes entries expectations r k a) before calls

  pub in_words : InWords k before calls (our_run k before calls).0 (our_run k before calls).1
  in_words = said_in_words k (read_agrees sizes entries expectations r k a) before calls
