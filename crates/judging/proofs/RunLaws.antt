-- A list of calls, one after the other; on tables as Read left them the scratch after all of them is the plain judge's. Assumes nothing.
use Rattle.std.specs.Prelude.{None, Option, Result, Some}
use Prim.Native.Nat.{ℕ, suc}
use mathlib.Core.Path.{◌≡◌, refl, sym, ap, ◌∙◌}
use mathlib.Core.List.{List, [], ◌∷◌, ◌++◌, map}
use lib.ListN.{length, take, drop}
use Rattle.script.specs.declared.records.Refusal.{Refusal}
use Rattle.verdicts.specs.Told.{Subject}
use Rattle.verdicts.specs.Lookup.{looked}
use Rattle.tallies.specs.declared.calls.Answer.{Answer}
use Rattle.judging.specs.Calls.{Judging, Call, judge, close, run, subject_of}
use Rattle.judging.specs.Judge.{Lent, JudgeState, judge_start, range_for, said_by, judge_step}
use Rattle.judging.specs.Scratch.{overwritten_or, scratch_on, scratch_after}
use Rattle.judging.specs.PlainJudge.{PlainState, belonging, owned_lines, plain_refusal, plain_call}
use Rattle.judging.specs.Claim.{state_over}
use Rattle.judging.proofs.History.{plain_of, history_call, plain-shown, plain_begin, slots_in, unrefused}
use Rattle.judging.proofs.Ours.{Agrees, shows, our_shown, said-lines, same_refusal, length_over}
use Rattle.judging.proofs.DemandThree.{our_begin}
use Rattle.judging.specs.Runs.{on_front, scratch_call, scratch_run, plain_writes, plain_scratch}

module _ {State : Type 0} (step : State → Call → Result Answer Refusal × State) where
  pub run_length : (cs : List Call) (s : State) → length (run step s cs).0 ≡ length cs
  unfolding run
  run_length [] s = refl
  run_length (c ∷ cs) s = ap suc (run_length cs (step s c).1)

  -- where the first call is known, so is the run
  pub run-first : (s next : State) (a : Result Answer Refusal) (c : Call) (cs : List Call) → (a, next) ≡ step s c → run step s (c ∷ cs) ≡ (a ∷ (run step next cs).0, (run step next cs).1)
  unfolding run
  run-first s next a c cs e = rw (← e) refl

  module _ (writes : State → Call → List ℕ → List ℕ) where
    pub scratch-first : (s next : State) (a : Result Answer Refusal) (c : Call) (cs : List Call) (old new : List ℕ) → (a, next) ≡ step s c → new ≡ writes s c old
        → scratch_run step writes s (c ∷ cs) old ≡ scratch_run step writes next cs new
    unfolding scratch_run
    scratch-first s next a c cs old new e f = rw (← e, f) refl

-- a call leaves what it makes of the part that it is lent, and behind it what was there
pub front_left : (k : Lent) (s : JudgeState) (j : Judging) (part old : List ℕ) → part ≡ scratch_after k s j (take j.scratch old)
    → part ++ drop j.scratch old ≡ scratch_call k s (judge j) old
unfolding scratch_call on_front
front_left k s j part old e = ap (λ (p : List ℕ). p ++ drop j.scratch old) e

-- ---- beside the plain judge

-- Where every step of B from what shows a is the step of A from a, and writes the same, so does every run.
pub scratch-shown : {A B : Type 0} (step-a : A → Call → Result Answer Refusal × A) (step-b : B → Call → Result Answer Refusal × B) (writes-a : A → Call → List ℕ → List ℕ) (writes-b : B → Call → List ℕ → List ℕ) (shown : A → B)
    → ((a : A) (c : Call) → step-b (shown a) c ≡ ((step-a a c).0, shown (step-a a c).1))
    → ((a : A) (c : Call) (old : List ℕ) → writes-b (shown a) c old ≡ writes-a a c old)
    → (cs : List Call) (a : A) (old : List ℕ) → scratch_run step-b writes-b (shown a) cs old ≡ scratch_run step-a writes-a a cs old
unfolding scratch_run
scratch-shown step-a step-b writes-a writes-b shown sim same [] a old = refl
scratch-shown step-a step-b writes-a writes-b shown sim same (c ∷ cs) a old =
    rw (sim a c, same a c old) (scratch-shown step-a step-b writes-a writes-b shown sim same cs (step-a a c).1 (writes-a a c old))

module _ (k : Lent) (a : Agrees k) (before : List ℕ) where
  abbrev text : List ℕ
  text = k.text

  abbrev places : ℕ
  places = length before

  -- what the judge on histories writes
  abbrev writes : List Subject → Call → List ℕ → List ℕ
  writes h c old = plain_writes text places (plain_of text places h) c old

  -- said apart, so that another definition is refused here
  history_writes : (h : List Subject) (j : Judging) (old : List ℕ)
      → on_front j.scratch (overwritten_or (plain_refusal text places (length h) j) (map (looked (subject_of j)) (belonging j.number (owned_lines text)))) old ≡ writes h (judge j) old
  unfolding plain_writes plain_of
  history_writes h j old = refl

  -- one call of ours writes what the history's does
  our_writes : (h : List Subject) (c : Call) (old : List ℕ) → scratch_call k (shows k a before h) c old ≡ writes h c old
  unfolding scratch_call plain_writes on_front scratch_after scratch_on shows state_over plain_of overwritten_or
  our_writes h (judge j) old =
      rw (length_over (slots_in h (owned_lines text)) before, same_refusal k a h places j)
      (go (plain_refusal text places (length h) j) refl ∙ history_writes h j old)
    where
      go : (o : Option Refusal) → plain_refusal text places (length h) j ≡ o
          → overwritten_or o (map (looked (subject_of j)) (said_by k (range_for k j.number j.handed))) (take j.scratch old) ++ drop j.scratch old
          ≡ overwritten_or o (map (looked (subject_of j)) (belonging j.number (owned_lines text))) (take j.scratch old) ++ drop j.scratch old
      go (Some q) e = refl
      go None e = rw (said-lines k a j.number j.handed (unrefused text places (length h) j e).fits) refl
  our_writes h close old = refl

  pub same_scratch : (calls : List Call) (old : List ℕ) → scratch_run (judge_step k) (scratch_call k) (judge_start before) calls old ≡ plain_scratch text places calls old
  unfolding plain_scratch
  same_scratch calls old =
      ap (λ (s : JudgeState). scratch_run (judge_step k) (scratch_call k) s calls old) (sym (our_begin k a before))
      ∙ scratch-shown (history_call text places) (judge_step k) writes (scratch_call k) (shows k a before) (our_shown k a before) our_writes calls [] old
      ∙ sym (scratch-shown (history_call text places) (plain_call text places) writes (plain_writes text places) (plain_of text places) (plain-shown text places) (λ h c o. refl) calls [] old)
      ∙ ap (λ (s : PlainState). scratch_run (plain_call text places) (plain_writes text places) s calls old) (plain_begin text places)
