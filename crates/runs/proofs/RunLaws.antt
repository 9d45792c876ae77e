-- The loop over the calls: what is left of a run once i calls are done. Assumes nothing.
use Rattle.std.specs.Prelude.{Result}
use Prim.Native.Nat.{ℕ, ◌+◌, ◌-◌, ◌≤◌, ◌<◌}
use mathlib.Core.Path.{◌≡◌, refl, sym, ap, ◌∙◌}
use mathlib.Core.Bool.{false}
use mathlib.Core.List.{List, [], ◌∷◌, map}
use native.Mathlib.Omega.{arith}
use lib.ListN.{length, drop, get_or, set, length-set, length-map, length-drop, drop_of_length-le}
use Rattle.written.specs.Written.{written_at}
use Rattle.written.proofs.WrittenLaws.{written_none, written_one, written_twice}
use Rattle.rows.specs.Rows.{at}
use Rattle.judge.specs.declared.tally.Tally.{Tally}
use Rattle.tallies.specs.declared.calls.Answer.{Answer}
use Rattle.judge.specs.Tally.{fresh_tally, state_of}
use Rattle.judging.specs.Calls.{Call, run}
use Rattle.judging.specs.Judge.{Lent, JudgeState, judge_start, judge_step}
use Rattle.calls.specs.CallRows.{call_of, calls_of, answer_code}
use Rattle.judging.specs.Runs.{scratch_call, scratch_run}
use Rattle.judging.proofs.RunLaws.{run_length, run-first, scratch-first}
use Rattle.asking.specs.Asking.{asks_more}
use Rattle.asking.proofs.AskLaws.{rows_from, lent_here, lent_later}
use Rattle.script.specs.declared.records.Refusal.{Refusal}

module _ (k : Lent) (bytes : List ℕ) (lists : List (List ℕ)) (rows : List (List ℕ)) where
  abbrev ran : JudgeState → List (List ℕ) → List (Result Answer Refusal) × JudgeState
  ran s rest = run (judge_step k) s (calls_of bytes lists rest)

  abbrev after : JudgeState → List (List ℕ) → List ℕ → List ℕ
  after s rest scratch = scratch_run (judge_step k) (scratch_call k) s (calls_of bytes lists rest) scratch

  -- i calls are done. `v₀`, `scr₀` and `ans₀` are the verdict list, the scratch and the answers as they were.
  pub record Going (v₀ scr₀ ans₀ : List ℕ) (t : Tally) (v scr ans : List ℕ) (i : ℕ) : Type 0 where
    pub in_list : i ≤ length rows
    pub lent : asks_more (length scr) (drop i rows) ≡ false
    pub slots : length rows ≤ length ans
    pub left : (ran (judge_start v₀) rows).1 ≡ (ran (state_of t v) (drop i rows)).1
    pub answered : written_at 0 (map answer_code (ran (judge_start v₀) rows).0) ans₀ ≡ written_at i (map answer_code (ran (state_of t v) (drop i rows)).0) ans
    pub written : after (judge_start v₀) rows scr₀ ≡ after (state_of t v) (drop i rows) scr

  module _ (v₀ scr₀ ans₀ : List ℕ) where
    pub going_begun : (t : Tally) → t ≡ fresh_tally → length rows ≤ length ans₀ → asks_more (length scr₀) rows ≡ false → Going v₀ scr₀ ans₀ t v₀ scr₀ ans₀ 0
    going_begun t e h g = rw e (record { in_list = omega arith; lent = g; slots = h; left = refl; answered = refl; written = refl })

    module _ (t : Tally) (v scr ans : List ℕ) (i : ℕ) (g : Going v₀ scr₀ ans₀ t v scr ans i) where
      abbrev s : JudgeState
      s = state_of t v

      module _ (more : i < length rows) where
        abbrev c : Call
        c = call_of bytes lists (get_or rows i [])

        abbrev rest : List (List ℕ)
        rest = drop (i + 1) rows

        calls_from : calls_of bytes lists (drop i rows) ≡ c ∷ calls_of bytes lists rest
        unfolding calls_of
        calls_from = ap (map (call_of bytes lists)) (rows_from rows i more)

        rest-fits : (next : JudgeState) → length (map answer_code (ran next rest).0) ≡ length rows - (i + 1)
        unfolding calls_of
        rest-fits next =
            length-map (ran next rest).0 answer_code
            ∙ run_length (judge_step k) (calls_of bytes lists rest) next
            ∙ length-map rest (call_of bytes lists)
            ∙ length-drop (i + 1) rows

        -- there is a place for its answer
        pub answer-place : i < length ans
        answer-place = omega (arith, g.slots)

        -- it asks for no more of the scratch than is lent
        pub part-lent : at (get_or rows i []) 2 ≤ length scr
        part-lent = lent_here (length scr) rows i more g.lent

        -- one call more
        pub going_on : (next : Tally) (v' scr' : List ℕ) (a : Result Answer Refusal) (n : ℕ) → (a, state_of next v') ≡ judge_step k s c → scr' ≡ scratch_call k s c scr
            → length scr' ≡ length scr → n ≡ answer_code a → Going v₀ scr₀ ans₀ next v' scr' (set ans i n) (i + 1)
        going_on next v' scr' a n e f l m =
            let s' : JudgeState = state_of next v' in
            let first = ap (λ (cs : List Call). run (judge_step k) s cs) calls_from ∙ run-first (judge_step k) s s' a c (calls_of bytes lists rest) e in
            let told : List ℕ = map answer_code (ran s' rest).0 in
            record {
              in_list = omega arith;
              lent = rw l (lent_later (length scr) rows i more g.lent);
              slots = omega (arith, g.slots, length-set ans i n);
              left = g.left ∙ ap (λ (p : List (Result Answer Refusal) × JudgeState). p.1) first;
              answered =
                  g.answered
                  ∙ ap (λ (p : List (Result Answer Refusal) × JudgeState). written_at i (map answer_code p.0) ans) first
                  ∙ ap (λ (x : ℕ). written_at i (x ∷ told) ans) (sym m)
                  ∙ sym (written_twice i (n ∷ []) told ans (omega (arith, rest-fits s', g.slots)))
                  ∙ ap (written_at (i + 1) told) (written_one i n ans (omega (arith, g.slots)));
              written =
                  g.written
                  ∙ ap (λ (cs : List Call). scratch_run (judge_step k) (scratch_call k) s cs scr) calls_from
                  ∙ scratch-first (judge_step k) (scratch_call k) s s' a c (calls_of bytes lists rest) scr scr' e f;
            }

      module _ (over : length rows ≤ i) where
        calls_none : calls_of bytes lists (drop i rows) ≡ []
        unfolding calls_of
        calls_none = ap (map (call_of bytes lists)) (drop_of_length-le rows over)

        pub all_left : s ≡ (ran (judge_start v₀) rows).1
        unfolding run
        all_left = sym (g.left ∙ ap (λ (cs : List Call). (run (judge_step k) s cs).1) calls_none)

        pub all_answered : ans ≡ written_at 0 (map answer_code (ran (judge_start v₀) rows).0) ans₀
        unfolding run
        all_answered = sym (g.answered ∙ ap (λ (cs : List Call). written_at i (map answer_code (run (judge_step k) s cs).0) ans) calls_none ∙ written_none i ans)

        pub all_written : scr ≡ after (judge_start v₀) rows scr₀
        unfolding scratch_run
        all_written = sym (g.written ∙ ap (λ (cs : List Call). scratch_run (judge_step k) (scratch_call k) s cs scr) calls_none)
