-- The verdict's number, by what was found on the way to it. Assumes nothing.
use Prim.Native.Nat.{ℕ}
use mathlib.Core.Path.{◌≡◌, ap, subst, ◌∙◌}
use mathlib.Core.Bool.{Bool, true, false, not}
use mathlib.Core.List.{List}
use lib.IntN.{ℤ}
use lib.ListN.{length}
use mir.Syntax.{w64}
use mir.Val.{SFits, to_z, of_z}
use mir.ValLaws.{to_z-of_z}
use Rattle.script.specs.Refusals.{reason_number}
use Rattle.script.specs.declared.refusals.Reason.TheVariants.{ExpectationOutside, PartOutside}
use Rattle.script.specs.declared.records.Expect.{Expect}
use Rattle.script.specs.declared.response.DaemonResponse.{DaemonResponse}
use Rattle.script.specs.declared.response.HandshakeInfo.{HandshakeInfo}
use Rattle.verdicts.specs.Expected.{Expected}
use Rattle.verdicts.specs.Told.{Subject}
use Rattle.verdicts.specs.Held.{expected_of, expect_in}
use Rattle.verdicts.specs.Subjects.{held_by, parts_in}
use Rattle.verdicts.specs.Verdicts.{verdict, code}
use Rattle.verdicts.specs.declared.Verdict.{Verdict}
use Rattle.verdicts.specs.declared.handed.Handed.{Handed}
use Rattle.verdicts.specs.declared.handed.Handed.TheVariants.{Info, Response}
use Rattle.rows.specs.Rows.{expect_row, response_row, info_row}
use Rattle.told.specs.Told.{counted}
use Rattle.verdict_exports.specs.Numbered.{numbered, entry_number, handshake_number, subject_number}

module _ (in_text in_bytes : Bool) (s : Subject) (x : Expected) (a : Bool) (p : a ≡ in_text) where
  pub outside_text : not a ≡ true → (n : ℕ) → n ≡ reason_number ExpectationOutside → n ≡ numbered in_text in_bytes s x
  unfolding numbered
  outside_text p' n h = rw (← p, p') h

  module _ (p' : not a ≡ false) (b : Bool) (q : b ≡ in_bytes) where
    outside_bytes : not b ≡ true → (n : ℕ) → n ≡ reason_number PartOutside → n ≡ numbered in_text in_bytes s x
    unfolding numbered
    outside_bytes q' n h = rw (← p, p', ← q, q') h

    is-judged : not b ≡ false → (v : Verdict) (n : ℕ) → v ≡ verdict s x → n ≡ code v → n ≡ numbered in_text in_bytes s x
    unfolding numbered
    is-judged q' v n h g = rw (← p, p', ← q, q', ← h) g

-- by the table that counts
module _ (text bytes : List ℕ) (e : Expect) (h : Handed) (lists table : List (List ℕ)) (same : table ≡ counted lists) (a : Bool) (p : a ≡ expect_in (length text) e) (p' : not a ≡ false) (b : Bool) (q : b ≡ parts_in bytes table h) where
  abbrev NumberIs : (n : ℕ) → List (List ℕ) → Type 0
  NumberIs n T = n ≡ numbered (expect_in (length text) e) (parts_in bytes T h) (held_by bytes T h) (expected_of text e)

  pub part_outside : not b ≡ true → (n : ℕ) → n ≡ reason_number PartOutside → n ≡ subject_number text e bytes lists h
  part_outside q' n r = subst (NumberIs n) same (outside_bytes (expect_in (length text) e) (parts_in bytes table h) (held_by bytes table h) (expected_of text e) a p p' b q q' n r)

  pub number_judged : not b ≡ false → (v : Verdict) (n : ℕ) → v ≡ verdict (held_by bytes table h) (expected_of text e) → n ≡ code v → n ≡ subject_number text e bytes lists h
  number_judged q' v n r g = subst (NumberIs n) same (is-judged (expect_in (length text) e) (parts_in bytes table h) (held_by bytes table h) (expected_of text e) a p p' b q q' v n r g)

-- read from rows; the machine hands the matcher's number on as bits, and reads it back
module _ (row : List ℕ) (m : ℤ) (f : SFits w64 m) (e : Expect) (ee : e ≡ expect_row row (to_z w64 (of_z w64 m))) (text bytes : List ℕ) (lists : List (List ℕ)) (n : ℕ) where
  expect_handed : e ≡ expect_row row m
  expect_handed = ee ∙ ap (expect_row row) (to_z-of_z w64 m f)

  pub entry_of_rows : (response : List ℕ) (r : DaemonResponse) → r ≡ response_row response → n ≡ subject_number text e bytes lists (Response r) → n ≡ entry_number text (expect_row row m) bytes lists (response_row response)
  unfolding parts_in held_by
  entry_of_rows response r er h = rw (← expect_handed, ← er) h

  pub handshake_of_rows : (information : List ℕ) (i : HandshakeInfo) → i ≡ info_row information → n ≡ subject_number text e bytes lists (Info i) → n ≡ handshake_number text (expect_row row m) bytes lists (info_row information)
  unfolding parts_in held_by
  handshake_of_rows information i ei h = rw (← expect_handed, ← ei) h
