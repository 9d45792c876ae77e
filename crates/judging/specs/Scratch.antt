-- Document 01: present values are written at the start of the lent scratch, each over the last. The contracts cite these. Assumes nothing.
use Rattle.std.specs.Prelude.{ℕ, Bool, List, [], ◌∷◌, map, length, None, Option, Some}
use Rattle.text.specs.Base.{overlaid}
use Rattle.script.specs.declared.records.Items.{Items}
use Rattle.script.specs.declared.records.Refusal.{Refusal}
use Rattle.verdicts.specs.Lookup.{looked}
use Rattle.judging.specs.Calls.{Judging, subject_of}
use Rattle.judging.specs.Judge.{Lent, JudgeState, range_for, said_by, past_entries, refusal_on}

-- A present value is written at the start of the scratch.
unfoldable pub overwritten_by : (value : Option (List ℕ)) → (scratch : List ℕ) → List ℕ
overwritten_by None scratch = scratch
overwritten_by (Some value) scratch = overlaid value scratch

-- each over the last
unfoldable pub overwritten : (values : List (Option (List ℕ))) → (scratch : List ℕ) → List ℕ
overwritten [] scratch = scratch
overwritten (value ∷ values) scratch = overwritten values (overwritten_by value scratch)

-- a scratch stays as it was where the judging is refused
unfoldable pub overwritten_or : Option Refusal → (values : List (Option (List ℕ))) → (scratch : List ℕ) → List ℕ
overwritten_or None values scratch = overwritten values scratch
overwritten_or (Some r) values scratch = scratch

-- the scratch after the judging of a range
unfoldable pub scratch_on : Lent → (past : Bool) → Items → JudgeState → Judging → (scratch : List ℕ) → List ℕ
scratch_on k past r s j scratch = overwritten_or (refusal_on k past r s.next s.counts (length s.verdicts) j) (map (looked (subject_of j)) (said_by k r)) scratch

-- after Judge
unfoldable pub scratch_after : Lent → JudgeState → Judging → (scratch : List ℕ) → List ℕ
scratch_after k s j scratch = scratch_on k (past_entries k j.number) (range_for k j.number j.handed) s j scratch
