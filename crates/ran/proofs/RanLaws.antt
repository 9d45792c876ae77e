-- What a run answers and leaves, path by path. Assumes nothing.
use Rattle.std.specs.Prelude.{Err, Ok, Result}
use Prim.Native.Nat.{ℕ, ◌≤◌, ◌<◌}
use mathlib.Core.Path.{◌≡◌, refl, sym, ap, ◌∙◌}
use mathlib.Core.Bool.{Bool, true, false}
use mathlib.Core.List.{List, map}
use native.Mathlib.Omega.{arith}
use lib.ListN.{length}
use borrow.Author.Tests.{lt-ltb, le-ltb}
use Rattle.script.specs.Layout.{Reading}
use Rattle.script.specs.Reading.{read_into, Parsed}
use Rattle.script.specs.declared.records.Entry.{Entry}
use Rattle.script.specs.declared.records.Expectation.{Expectation}
use Rattle.script.specs.declared.records.Refusal.{Refusal}
use Rattle.script.specs.declared.records.Script.{Script}
use Rattle.written.specs.Written.{written_at}
use Rattle.tables.specs.Items.{item_of}
use Rattle.written.proofs.WrittenLaws.{written_none}
use Rattle.read.specs.Read.{lent_of, script_or, tables_or}
use Rattle.judge.specs.declared.tally.Tally.{Tally}
use Rattle.tallies.specs.declared.calls.Answer.{Answer}
use Rattle.judging.specs.Calls.{Call, run}
use Rattle.judging.specs.Judge.{Lent, JudgeState, judge_start, judge_step}
use Rattle.judging.specs.PlainJudge.{plain_run}
use Rattle.judging.proofs.LentRead.{read_agrees}
use Rattle.judge.specs.Tally.{state_of, tally_of}
use Rattle.calls.specs.CallRows.{calls_of, answer_code}
use Rattle.judging.specs.Runs.{scratch_call, scratch_run, plain_scratch}
use Rattle.asking.specs.Asking.{asks_more}
use Rattle.judging.proofs.RunLaws.{same_scratch}
use Rattle.ran.specs.Ran.{Ran, plain_left, ran_as, ran_of, if_done}
use Rattle.ran.specs.declared.RunError.TheVariants.{FewAnswers, MuchScratch, Refused}
use Rattle.ran.proofs.DemandThree as three

module _ (text : List ℕ) (entries : List Entry) (items : List (List ℕ)) (expectations : List Expectation) (store : List ℕ)
    (rows : List (List ℕ)) (bytes : List ℕ) (lists : List (List ℕ)) (v scr ans : List ℕ) where
  abbrev p : Parsed Reading
  p = read_into (lent_of entries items expectations store) text

  abbrev calls : List Call
  calls = calls_of bytes lists rows

  -- what a run is to answer and to leave
  abbrev pub Left : Ran → (es : List Entry) (is : List (List ℕ)) (xs : List Expectation) (st v' scr' ans' : List ℕ) → Type 0
  Left r es is xs st v' scr' ans' =
      (r ≡ ran_of (length ans) (length scr) rows (script_or p) (plain_left text v calls))
      × ((es ≡ if_done r (written_at 0 (tables_or p).entries entries) entries)
      × ((is ≡ if_done r (written_at 0 (map item_of (tables_or p).items) items) items)
      × ((xs ≡ if_done r (written_at 0 (tables_or p).expectations expectations) expectations)
      × ((st ≡ if_done r (written_at 0 (tables_or p).store store) store)
      × ((v' ≡ if_done r (plain_left text v calls).verdicts v)
      × ((scr' ≡ if_done r (plain_scratch text (length v) calls scr) scr)
      × (ans' ≡ if_done r (written_at 0 (map answer_code (plain_run text (length v) calls).0) ans) ans)))))))

  pub few_answers : length ans < length rows → Left (Err FewAnswers) entries items expectations store v scr ans
  unfolding ran_of if_done
  few_answers h = (rw (lt-ltb (length ans) (length rows) h) refl, (refl, (refl, (refl, (refl, (refl, (refl, refl)))))))

  module _ (enough : length rows ≤ length ans) (b : Bool) (asked : b ≡ asks_more (length scr) rows) where
    pub much_scratch : b ≡ true → Left (Err MuchScratch) entries items expectations store v scr ans
    unfolding ran_of if_done
    much_scratch e = (rw (le-ltb (length ans) (length rows) enough, sym asked ∙ e) refl, (refl, (refl, (refl, (refl, (refl, (refl, refl)))))))

    module _ (little : b ≡ false) where
      -- nothing is in the way of Read
      ran_as_lem : (left : JudgeState) → ran_of (length ans) (length scr) rows (script_or p) left ≡ ran_as (script_or p) left
      unfolding ran_of
      ran_as_lem left = rw (le-ltb (length ans) (length rows) enough, sym asked ∙ little) refl

      module _ (a : Parsed Script) (answers : a ≡ script_or p) (es : List Entry) (is : List (List ℕ)) (xs : List Expectation) (st : List ℕ)
          (e₁ : es ≡ written_at 0 (tables_or p).entries entries) (e₂ : is ≡ written_at 0 (map item_of (tables_or p).items) items)
          (e₃ : xs ≡ written_at 0 (tables_or p).expectations expectations) (e₄ : st ≡ written_at 0 (tables_or p).store store) where
        -- where Read refuses it leaves the tables alone
        pub refused : (q : Refusal) → a ≡ Err q → Left (Err (Refused q)) es is xs st v scr ans
        unfolding script_or tables_or ran_as if_done
        refused q e = go p refl (sym e ∙ answers)
          where
            go : (o : Parsed Reading) → p ≡ o → Err q ≡ script_or o → Left (Err (Refused q)) es is xs st v scr ans
            go (Ok r) h f = let z : ◌≡◌ {A = ℕ} 0 1 = cc in absurd (omega arith)
            go (Err r) h f =
                let g : q ≡ r = cc in
                let left : JudgeState = plain_left text v calls in (
                  ap {B = Ran} (λ (x : Refusal). Err (Refused x)) g ∙ sym (ran_as_lem left ∙ ap (λ (o : Parsed Reading). ran_as (script_or o) left) h),
                  (
                    e₁ ∙ ap (λ (o : Parsed Reading). written_at 0 (tables_or o).entries entries) h ∙ written_none 0 entries,
                    (
                      e₂ ∙ ap (λ (o : Parsed Reading). written_at 0 (map item_of (tables_or o).items) items) h ∙ written_none 0 items,
                      (
                        e₃ ∙ ap (λ (o : Parsed Reading). written_at 0 (tables_or o).expectations expectations) h ∙ written_none 0 expectations,
                        (e₄ ∙ ap (λ (o : Parsed Reading). written_at 0 (tables_or o).store store) h ∙ written_none 0 store, (refl, (refl, refl))),
                      ),
                    ),
                  ),
                )

        -- where it reads, the calls answer and leave what the plain judge does
        module _ (script : Script) (e : a ≡ Ok script) where
          reads : Ok script ≡ script_or p
          reads = sym e ∙ answers

          abbrev k : Lent
          k = record { text = text; script = script; entries = es; expectations = xs }

          same : run (judge_step k) (judge_start v) calls ≡ ((plain_run text (length v) calls).0, plain_left text v calls)
          same = three.demand_three text entries items expectations store script es xs reads e₁ e₃ v calls

          scratch_same : scratch_run (judge_step k) (scratch_call k) (judge_start v) calls scr ≡ plain_scratch text (length v) calls scr
          scratch_same =
              let r = three.as_read text entries items expectations store script es xs reads e₁ e₃ in
              same_scratch k (read_agrees (lent_of entries items expectations store) entries expectations r.0 k r.1) v calls scr

          pub done : (t : Tally) (v' scr' ans' : List ℕ)
              → state_of t v' ≡ (run (judge_step k) (judge_start v) calls).1
              → ans' ≡ written_at 0 (map answer_code (run (judge_step k) (judge_start v) calls).0) ans
              → scr' ≡ scratch_run (judge_step k) (scratch_call k) (judge_start v) calls scr
              → Left (Ok t) es is xs st v' scr' ans'
          unfolding ran_as if_done
          done t v' scr' ans' x y z =
              let left : state_of t v' ≡ plain_left text v calls = x ∙ ap (λ (r : List (Result Answer Refusal) × JudgeState). r.1) same in
              let told : t ≡ tally_of (plain_left text v calls) = ap tally_of left in (
                ap {B = Ran} (λ (u : Tally). Ok u) told ∙ sym (ran_as_lem (plain_left text v calls) ∙ ap (λ (o : Parsed Script). ran_as o (plain_left text v calls)) (sym reads)),
                (e₁, (e₂, (e₃, (e₄, (ap (λ (s : JudgeState). s.verdicts) left, (z ∙ scratch_same, y ∙ ap (λ (r : List (Result Answer Refusal) × JudgeState). written_at 0 (map answer_code r.0) ans) same)))))),
              )
