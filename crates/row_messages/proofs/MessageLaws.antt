-- What Message answers of an expectation that was read from a row. Assumes nothing.
use Rattle.std.specs.Prelude.{Result}
use Prim.Native.Nat.{ℕ}
use mathlib.Core.Path.{◌≡◌, ap, subst, ◌∙◌}
use mathlib.Core.List.{List}
use lib.IntN.{ℤ}
use lib.ListN.{length}
use mir.Syntax.{w64}
use mir.Val.{SFits, to_z, of_z}
use mir.ValLaws.{to_z-of_z}
use Rattle.script.specs.declared.records.Expect.{Expect}
use Rattle.script.specs.declared.records.Refusal.{Refusal}
use Rattle.verdicts.specs.Lookup.{looked, present_bytes}
use Rattle.verdicts.specs.Messages.{message}
use Rattle.verdicts.specs.Held.{expected_of}
use Rattle.verdicts.specs.Subjects.{held_by}
use Rattle.verdicts.specs.declared.handed.Handed.{Handed}
use Rattle.rows.specs.Rows.{expect_row}
use Rattle.told.specs.Told.{counted, unless_refused}
use Rattle.told.specs.declared.Told.{Told}
use Rattle.row_messages.specs.Messages.{subject_told}

-- the matcher's number comes as bits, and is read back
pub row_read : (row : List ℕ) (n : ℤ) → SFits w64 n → (e : Expect) → e ≡ expect_row row (to_z w64 (of_z w64 n)) → e ≡ expect_row row n
row_read row n f e p = p ∙ ap (expect_row row) (to_z-of_z w64 n f)

module _ (text bytes : List ℕ) (lists : List (List ℕ)) (scratch buffer : List ℕ) (t : Result Told Refusal) (s b : List ℕ) where
  -- the answer, and what is left of what is lent
  abbrev Answered : Handed → Expect → Type 0
  Answered h e =
      let u = subject_told text e bytes lists h (length scratch) (length buffer) in
      let judged = held_by bytes (counted lists) h in
      (t ≡ u) × ((s ≡ unless_refused u (present_bytes (looked judged (expected_of text e))) scratch) × (b ≡ unless_refused u (message judged (expected_of text e)) buffer))

  module _ (row : List ℕ) (n : ℤ) (f : SFits w64 n) where
    -- the machine hands the matcher's number on as bits, and reads it back
    pub row_handed : (h k : Handed) → h ≡ k → Answered h (expect_row row (to_z w64 (of_z w64 n))) → Answered k (expect_row row n)
    row_handed h k e a = subst (λ (x : Handed). Answered x (expect_row row n)) e (subst (λ (m : ℤ). Answered h (expect_row row m)) (to_z-of_z w64 n f) a)
