-- Laws for the code of Judge: what holds where no refusal applies; and that judging the handshake does not look at the entries. Assumes nothing.
use Rattle.std.specs.Prelude.{None}
use mathlib.Core.Path.{◌≡◌, refl}
use mathlib.Core.Bool.{Bool, false}
use mathlib.Core.List.{List, [], map}
use Prim.Native.Nat.{ℕ, ◌≤◌}
use lib.Dec.{ltb}
use borrow.Author.Tests.{ltb-false}
use Rattle.script.specs.declared.records.Items.{Items}
use Rattle.script.specs.declared.records.Entry.{Entry}
use Rattle.script.specs.declared.records.Expectation.{Expectation}
use Rattle.script.specs.declared.records.Script.{Script}
use Rattle.script.specs.declared.response.HandshakeInfo.{HandshakeInfo}
use Rattle.script.specs.declared.refusals.Reason.TheVariants.{CountTooHigh, ExpectationOutside, FewSlots, PartOutside, ValueTooLong, WrongNumber}
use Rattle.verdicts.specs.Lookup.{looked}
use Rattle.tallies.specs.declared.tally.Counts.{Counts}
use Rattle.verdicts.specs.declared.handed.Handed.TheVariants.{Info}
use Rattle.tallies.specs.Tally.{over_limit}
use Rattle.judging.specs.Calls.{Judging, judge, subject_of, wrong_number, part_outside, too_long}
use Rattle.judging.specs.Judge.{Lent, JudgeState, range_for, records_in, said_by, range_outside, out_of_reach, few_slots, range_refusals, judge_refusal, judged_by, judged, judge_step, refusal_on, judged_on}
use Rattle.judging.specs.Scratch.{scratch_after, scratch_on}
use Rattle.judging.proofs.Orders.{neither}
use Rattle.tallies.proofs.Refusals.{passed_by}

-- ---- no test applies

pub record Clear (k : Lent) (past : Bool) (r : Items) (next : ℕ) (counts : Counts) (places : ℕ) (j : Judging) : Type 0 where
  pub few : over_limit counts ≡ false
  pub number : wrong_number next j.number past j.handed ≡ false
  pub reach : out_of_reach k r ≡ false
  pub parts : part_outside j ≡ false
  pub slots : few_slots k places ≡ false
  pub values : too_long j.scratch (map (looked (subject_of j)) (said_by k r)) ≡ false

pub clear : (k : Lent) (past : Bool) (r : Items) (next : ℕ) (counts : Counts) (places : ℕ) (j : Judging) → refusal_on k past r next counts places j ≡ None → Clear k past r next counts places j
unfolding refusal_on range_refusals
clear k past r next counts places j e =
    let a = passed_by CountTooHigh (over_limit counts) _ e in
    let b = passed_by WrongNumber (wrong_number next j.number past j.handed) _ a.1 in
    let c = passed_by ExpectationOutside (out_of_reach k r) _ b.1 in
    let d = passed_by PartOutside (part_outside j) _ c.1 in
    let f = passed_by FewSlots (few_slots k places) _ d.1 in
    let g = passed_by ValueTooLong (too_long j.scratch (map (looked (subject_of j)) (said_by k r))) _ f.1 in
    record { few = a.0; number = b.0; reach = c.0; parts = d.0; slots = f.0; values = g.0 }

-- ---- what each says

pub few_counts : (c : Counts) → over_limit c ≡ false → (c.passed ≤ 0x8000) × (c.failed ≤ 0x8000) × (c.undecided ≤ 0x8000)
unfolding over_limit
few_counts c e =
    let a = neither (ltb 0x8000 c.passed) _ e in
    let b = neither (ltb 0x8000 c.failed) _ a.1 in
    (ltb-false 0x8000 c.passed a.0, ltb-false 0x8000 c.failed b.0, ltb-false 0x8000 c.undecided b.1)

-- ---- the handshake needs no table of entries

module _ (text : List ℕ) (script : Script) (expectations : List Expectation) (entries : List Entry) where
  abbrev alone : Lent
  alone = record { text = text; script = script; entries = []; expectations = expectations }

  abbrev whole : Lent
  whole = record { text = text; script = script; entries = entries; expectations = expectations }

  module _ (i : HandshakeInfo) (number : ℕ) (bytes : List ℕ) (lists : List (List ℕ)) (scratch : ℕ) where
    abbrev greeted : Judging
    greeted = record { number = number; handed = Info i; bytes = bytes; lists = lists; scratch = scratch }

    pub no_entries : (s : JudgeState) → judge_step alone s (judge greeted) ≡ judge_step whole s (judge greeted)
    unfolding judge_step judged judged_on judge_refusal refusal_on range_refusals wrong_number range_for out_of_reach range_outside few_slots records_in said_by judged_by
    no_entries s = refl

    pub no_entries_scratch : (s : JudgeState) (old : List ℕ) → scratch_after alone s greeted old ≡ scratch_after whole s greeted old
    unfolding scratch_after scratch_on judge_refusal refusal_on range_refusals wrong_number range_for out_of_reach range_outside few_slots records_in said_by
    no_entries_scratch s old = refl
