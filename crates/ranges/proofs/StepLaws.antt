-- Laws for one judging: a range that is settled is the same range; and what a judging that is not refused finds. Assumes nothing.
use mathlib.Core.Path.{◌≡◌, refl, sym, ap, ◌∙◌}
use mathlib.Core.Bool.{Bool, false, not}
use mathlib.Core.List.{List, [], map}
use Prim.Native.Nat.{ℕ, ◌+◌, ◌-◌, ◌≤◌, min}
use native.Mathlib.Omega.{arith}
use native.Mathlib.Decide.{dec_le}
use lib.ListN.{length, take, drop, length-take}
use lib.Dec.{ltb, leb, eqb}
use borrow.Author.Tests.{ne_eqb, eqb-true, ltb-false, leb-true, not-false}
use Rattle.std.specs.Prelude.{Option, None, Some, Result, Ok, ⊤}
use Rattle.text.specs.Base.{◌&◌, ◌or◌}
use Rattle.text.proofs.Scan.{both}
use Rattle.script.specs.Reading.{room}
use Rattle.script.specs.declared.records.Items.{Items}
use Rattle.script.specs.declared.records.Expectation.{Expectation}
use Rattle.script.specs.declared.records.Script.{Script}
use Rattle.script.specs.declared.records.Refusal.{Refusal}
use Rattle.script.specs.Refusals.{ok_unless}
use Rattle.verdicts.specs.Expected.{Expected}
use Rattle.verdicts.specs.Lookup.{looked}
use Rattle.verdicts.specs.Verdicts.{verdict, code}
use Rattle.verdicts.specs.Held.{ranged, inside}
use Rattle.verdicts.specs.declared.Verdict.{Verdict}
use Rattle.written.specs.Written.{written_at}
use Rattle.written.proofs.WrittenLaws.{written_none}
use Rattle.verdicts.specs.Subjects.{held_by}
use Rattle.verdicts.specs.declared.handed.Handed.{Handed}
use Rattle.verdicts.specs.declared.handed.Handed.TheVariants.{Info, Response}
use Rattle.tallies.specs.declared.tally.Counts.{Counts}
use Rattle.tallies.specs.declared.calls.Answer.{Answer}
use Rattle.tallies.specs.declared.calls.Answer.TheVariants.{Judged}
use Rattle.tallies.specs.Tally.{added_all}
use Rattle.judging.specs.Calls.{Judging, subject_of, judged_or, said, wrong_number, too_long}
use Rattle.judging.specs.Judge.{Lent, JudgeState, all_in, records_in, said_by, range_outside, out_of_reach, few_slots, refusal_on, judged_by, judged_on}
use Rattle.ranges.specs.Judging.{lent_of, asked_of}
use Rattle.judging.proofs.Orders.{neither}
use Rattle.ranges.proofs.JudgeLaws.{clear, few_counts}

-- ---- a range that is not outside

-- it is empty, or lies in the table, and among the first 32,768 of its records
pub range_in : (r : Items) (count n : ℕ) → not (eqb r.count 0) & not (inside (min count (room n)) r.first r.count) ≡ false
    → (r.count ≡ 0 → ⊥) → (r.first + r.count ≤ n) × (r.first + r.count ≤ count) × (r.first + r.count ≤ 0x8000)
unfolding inside room
range_in r count n e z =
    let m = min count (min 0x8000 n) in
    let b = not-false (leb r.first m & leb r.count (m - r.first)) (sym (ap (λ (t : Bool). not t & not (leb r.first m & leb r.count (m - r.first))) (ne_eqb r.count 0 z)) ∙ e) in
    let c = both (leb r.first m) (leb r.count (m - r.first)) b in
    let f = leb-true r.first m c.0 in
    let g = leb-true r.count (m - r.first) c.1 in
    (omega (arith, f, g), omega (arith, f, g), omega (arith, f, g))

-- ---- a judging that is not refused

-- the number judged is the next, and there is such an entry
number-next : (next number entries : ℕ) (h : Handed) → wrong_number next number (ltb entries number) h ≡ false → (number ≡ next) × (number ≤ entries)
unfolding wrong_number
number-next next number entries (Info i) e =
    let a = neither (not (eqb number next)) (not (eqb number 0)) e in
    let z : number ≡ 0 = eqb-true number 0 (not-false (eqb number 0) a.1) in
    (eqb-true number next (not-false (eqb number next) a.0), omega arith)
number-next next number entries (Response r) e =
    let a = neither (not (eqb number next)) (eqb number 0 or ltb entries number) e in
    let b = neither (eqb number 0) (ltb entries number) a.1 in
    (eqb-true number next (not-false (eqb number next) a.0), ltb-false entries number b.1)

room-le : (n : ℕ) → room n ≤ n
unfolding room
room-le n = omega arith

pub none_tried : (o : Option Refusal) (u : ⊤) → ok_unless o ≡ Ok u → o ≡ None
unfolding ok_unless
none_tried None u e = refl
none_tried (Some r) u e = let z : ◌≡◌ {A = ℕ} 0 1 = cc in absurd (omega arith)

-- what it finds: its number, the counts, and its range
pub record Begun (next : ℕ) (counts : Counts) (text : List ℕ) (table : List Expectation) (entries number : ℕ) (values : Expected → Option (List ℕ)) (places room' : ℕ) (r : Items) : Type 0 where
  pub is_next : number ≡ next
  pub is_entry : number ≤ entries
  pub few : (counts.passed ≤ 0x8000) × (counts.failed ≤ 0x8000) × (counts.undecided ≤ 0x8000)
  pub in_list : (r.count ≡ 0 → ⊥) → r.first + r.count ≤ places
  pub slots : length (ranged table r) ≤ places - min r.first places
  pub among_first : length (ranged table r) ≤ 0x8000
  pub fit : too_long room' (map values (said text (ranged table r))) ≡ false

pub begun : (next : ℕ) (counts : Counts) (text : List ℕ) (script : Script) (table : List Expectation) (entries : ℕ) (r : Items) (number : ℕ) (h : Handed) (bytes : List ℕ) (lists : List (List ℕ)) (places room' : ℕ)
    (t : Result ⊤ Refusal) (u : ⊤) → t ≡ ok_unless (refusal_on (lent_of text script [] table) (ltb entries number) r next counts places (asked_of number h bytes lists room'))
    → t ≡ Ok u → Begun next counts text table entries number (looked (held_by bytes lists h)) places room' r
unfolding out_of_reach range_outside few_slots said_by records_in
begun next counts text script table entries r number h bytes lists places room' t u e ok =
    let k : Lent = lent_of text script [] table in
    let c = clear k (ltb entries number) r next counts places (asked_of number h bytes lists room') (none_tried _ u (sym e ∙ ok)) in
    let n = number-next next number entries h c.number in
    let i = range_in r script.counts.expectations (length table) (neither _ (not (all_in text (records_in k r))) c.reach).0 in
    let f = ltb-false (room places) script.counts.expectations c.slots in
    let in_list : (r.count ≡ 0 → ⊥) → r.first + r.count ≤ places = λ z. omega (arith, (i z).1, f, room-le places) in
    let m = length-take r.count (drop r.first table) in
    record {
      is_next = n.0;
      is_entry = n.1;
      few = few_counts counts c.few;
      in_list = in_list;
      slots = elim (dec_le 1 r.count) [
        | yes z ↦ omega (arith, m, in_list (λ y. omega arith))
        | no z ↦ omega (arith, m)
      ];
      among_first = elim (dec_le 1 r.count) [
        | yes z ↦ omega (arith, m, (i (λ y. omega arith)).2)
        | no z ↦ omega (arith, m)
      ];
      fit = c.values;
    }

-- an empty range is written nowhere, any other where it begins
pub written_there : (f : Expected → Verdict) (text : List ℕ) (table : List Expectation) (r : Items) (old : List ℕ) → ((r.count ≡ 0 → ⊥) → r.first + r.count ≤ length old)
    → written_at (min r.first (length old)) (map code (map f (said text (ranged table r)))) old ≡ written_at r.first (map code (map f (said text (ranged table r)))) old
unfolding said
written_there f text table r old h = elim (dec_le 1 r.count) [
  | yes z ↦
      let b = h (λ y. omega arith) in
      let e : min r.first (length old) ≡ r.first = omega arith in
      ap (λ (n : ℕ). written_at n (map code (map f (said text (ranged table r)))) old) e
  | no z ↦
      let e : r.count ≡ 0 = omega arith in
      ap (λ (n : ℕ). written_at (min r.first (length old)) (map code (map f (said text (take n (drop r.first table))))) old) e
      ∙ written_none (min r.first (length old)) old
      ∙ sym (written_none r.first old)
      ∙ ap (λ (n : ℕ). written_at r.first (map code (map f (said text (take n (drop r.first table))))) old) (sym e)
]

-- what a judging that is not refused answers and leaves
pub judged_ok : (k : Lent) (past : Bool) (r : Items) (s : JudgeState) (j : Judging) (counts : Counts) (verdicts : List ℕ) → refusal_on k past r s.next s.counts (length s.verdicts) j ≡ None
    → counts ≡ added_all (map (verdict (subject_of j)) (said k.text (ranged k.expectations r))) s.counts
    → verdicts ≡ written_at r.first (map code (map (verdict (subject_of j)) (said k.text (ranged k.expectations r)))) s.verdicts
    → ◌≡◌ {A = Result Answer Refusal × JudgeState} (Ok Judged, record { next = s.next + 1; counts = counts; verdicts = verdicts }) (judged_on k past r s j)
unfolding judged_on judged_by judged_or said_by records_in
judged_ok k past r s j counts verdicts e f g = rw (e, f, g) refl
