-- What a judging leaves of the scratch. Assumes nothing.
use Rattle.std.specs.Prelude.{Some}
use Prim.Native.Nat.{ℕ}
use mathlib.Core.Path.{◌≡◌, refl}
use mathlib.Core.List.{List}
use Rattle.script.specs.declared.records.Refusal.{Refusal}
use Rattle.judging.specs.Calls.{Judging}
use Rattle.judging.specs.Judge.{Lent, JudgeState, judge_refusal}
use Rattle.judging.specs.Scratch.{overwritten_or, scratch_on, scratch_after}

-- where it is refused, all of it is as it was
pub refused_keeps : (k : Lent) (s : JudgeState) (j : Judging) (r : Refusal) → judge_refusal k s j ≡ Some r → (scratch : List ℕ) → scratch_after k s j scratch ≡ scratch
unfolding scratch_after scratch_on judge_refusal overwritten_or
refused_keeps k s j r e scratch = rw e refl
