-- A list of calls: the scratch after each call, and after all of them, on lent tables and by the plain judge, which sees the text alone. Assumes nothing.
use Rattle.std.specs.Prelude.{ℕ, List, [], ◌∷◌, ◌++◌, map, take, drop, Result}
use Rattle.verdicts.specs.Lookup.{looked}
use Rattle.tallies.specs.declared.calls.Answer.{Answer}
use Rattle.script.specs.declared.records.Refusal.{Refusal}
use Rattle.judging.specs.Calls.{Call, judge, close, subject_of}
use Rattle.judging.specs.Judge.{Lent, JudgeState}
use Rattle.judging.specs.Scratch.{overwritten_or, scratch_after}
use Rattle.judging.specs.PlainJudge.{belonging, owned_lines, PlainState, plain_start, plain_refusal, plain_call}

-- A call is lent the first n bytes of the scratch; the rest is as it was.
unfoldable pub on_front : (n : ℕ) → (List ℕ → List ℕ) → (scratch : List ℕ) → List ℕ
on_front n f scratch = f (take n scratch) ++ drop n scratch

-- the scratch after a call
unfoldable pub scratch_call : Lent → JudgeState → Call → (scratch : List ℕ) → List ℕ
scratch_call k s (judge j) scratch = on_front j.scratch (scratch_after k s j) scratch
scratch_call k s close scratch = scratch

-- Each call finds the state and the scratch that the one before it left: the last scratch.
unfoldable pub scratch_run : {State : Type 0} → (step : State → Call → Result Answer Refusal × State) → (writes : State → Call → List ℕ → List ℕ) → State → List Call → (scratch : List ℕ) → List ℕ
scratch_run step writes s [] scratch = scratch
scratch_run step writes s (c ∷ cs) scratch = scratch_run step writes (step s c).1 cs (writes s c scratch)

module _ (text : List ℕ) (places : ℕ) where
  -- by the plain judge: unless a call is refused, the values that the lines of its number look up, each over the last, on the part that it is lent
  unfoldable pub plain_writes : PlainState → Call → (scratch : List ℕ) → List ℕ
  plain_writes p (judge j) scratch =
      on_front j.scratch (overwritten_or (plain_refusal text places p.next j) (map (looked (subject_of j)) (belonging j.number (owned_lines text)))) scratch
  plain_writes p close scratch = scratch

  -- after every call
  unfoldable pub plain_scratch : List Call → (scratch : List ℕ) → List ℕ
  plain_scratch calls scratch = scratch_run (plain_call text places) plain_writes (plain_start text places) calls scratch
