-- Our judge over tables that hold what the lines of the text ask for: its refusals and its verdict list are those that the history says. Assumes nothing.
use mathlib.Core.Path.{◌≡◌, refl, sym, ap, ◌∙◌}
use mathlib.Core.Bool.{true, false, not}
use mathlib.Core.List.{List, [], ◌∷◌, ◌++◌, map, append_assoc}
use Prim.Native.Nat.{ℕ, zero, suc, ◌+◌, ◌-◌, ◌≤◌, ◌<◌, min}
use native.Mathlib.Omega.{arith}
use native.Mathlib.Nat.{le_of_suc-le-suc, not-suc-le-zero}
use lib.ListN.{length, take, drop, length-map, take-append-drop}
use lib.Dec.{ltb, leb, eqb}
use lib.Seq.{drop-drop}
use borrow.Author.Tests.{lt-ltb, le-ltb, le-leb, eq-eqb, ne_eqb}
use Rattle.std.specs.Prelude.{if◌then◌else◌, None, Option, Some}
use Rattle.text.specs.Base.{◌&◌, ◌or◌}
use Rattle.text.proofs.Scan.{both}
use Rattle.script.specs.Reading.{room}
use Rattle.script.specs.declared.records.Items.{Items}
use Rattle.script.specs.declared.records.Expectation.{Expectation}
use Rattle.script.specs.declared.records.Refusal.{Refusal}
use Rattle.script.specs.declared.refusals.Reason.TheVariants.{CountTooHigh, WrongNumber, ExpectationOutside}
use Rattle.verdicts.specs.Expected.{Expected}
use Rattle.verdicts.specs.Told.{Subject}
use Rattle.verdicts.specs.Verdicts.{verdict, code}
use Rattle.verdicts.specs.Held.{expected_of, expect_in, inside}
use Rattle.verdicts.specs.declared.Verdict.{Verdict}
use Rattle.written.specs.Written.{written_at}
use Rattle.verdicts.specs.declared.handed.Handed.{Handed}
use Rattle.tallies.specs.Tally.{outcome_of, over_limit}
use Rattle.tallies.specs.Answers.{closed_or}
use Rattle.judging.specs.Calls.{Judging, Call, judge, close, subject_of, said, wrong_number, judged_or}
use Rattle.judging.specs.PlainJudge.{Owned, own, belonging, entry_count, owned_lines, plain_refusal, plain_closing}
use Rattle.tallies.specs.Answers.{close_refusal, close_answer}
use Rattle.judging.specs.Judge.{Lent, JudgeState, all_in, range_for, records_in, said_by, past_entries, range_outside, out_of_reach, few_slots, range_refusals, judged_by, judged, judge_step, judge_refusal, refusal_on, judged_on}
use Rattle.judging.specs.Claim.{said_of, slot_over, slots_over, state_over, verdict_by}
use Rattle.judging.proofs.Slots.{few_counted}
use Rattle.tallies.proofs.Refusals.{pass, alone, agree}
use Rattle.judging.proofs.Orders.{Order, less, same, more, order}
use Rattle.judging.proofs.Lines.{Rising, earlier, earlier_none, belonging-none, belonging_fit, belonging-cut}
use Rattle.judging.proofs.History.{refused-shown, only, length_snoc, slot_in, slots_in, counts_in, slot_snoc, count_slots, Fits, right_number, plain_of, history_call, Unrefused, unrefused}

-- ---- what reading ensures

-- The tables hold what the lines of the text ask for.
pub record Agrees (k : Lent) : Type 0 where
  pub entries-counted : k.script.counts.entries ≡ entry_count k.text
  pub expectations-counted : k.script.counts.expectations ≡ length (owned_lines k.text)
  pub entries_fit : entry_count k.text ≤ room (length k.entries)
  pub expectations_fit : length (owned_lines k.text) ≤ room (length k.expectations)
  -- a number has as many expectations as lines; where it has some, they stand behind those of smaller numbers
  pub sizes : (n : ℕ) (h : Handed) → Fits (entry_count k.text) n h → (range_for k n h).count ≡ length (belonging n (owned_lines k.text))
  pub firsts : (n : ℕ) (h : Handed) → Fits (entry_count k.text) n h → 0 < (range_for k n h).count → (range_for k n h).first ≡ earlier n (owned_lines k.text)
  pub all_inside : all_in k.text (take (length (owned_lines k.text)) k.expectations) ≡ true
  pub as_lines : said k.text (take (length (owned_lines k.text)) k.expectations) ≡ map said_of (owned_lines k.text)
  pub rising : Rising 0 (owned_lines k.text)

-- ---- cutting

module _ {A B : Type 0} (f : A → B) where
  map-take : (m : ℕ) (l : List A) → map f (take m l) ≡ take m (map f l)
  map-take zero l = refl
  map-take (suc m) [] = refl
  map-take (suc m) (x ∷ l) = ap (λ (r : List B). f x ∷ r) (map-take m l)

  map-drop : (b : ℕ) (l : List A) → map f (drop b l) ≡ drop b (map f l)
  map-drop zero l = refl
  map-drop (suc b) [] = refl
  map-drop (suc b) (x ∷ l) = map-drop b l

module _ {A : Type 0} where
  -- a cut that lies inside the first e
  cut-within : (m b e : ℕ) (l : List A) → b + m ≤ e → take m (drop b l) ≡ take m (drop b (take e l))
  cut-within zero b e l h = refl
  cut-within (suc m) zero zero l h = let z : ⊥ = omega arith in absurd z
  cut-within (suc m) zero (suc e) [] h = refl
  cut-within (suc m) zero (suc e) (x ∷ l) h = ap (λ (r : List A). x ∷ r) (cut-within m zero e l (omega arith))
  cut-within (suc m) (suc b) zero l h = let z : ⊥ = omega arith in absurd z
  cut-within (suc m) (suc b) (suc e) [] h = refl
  cut-within (suc m) (suc b) (suc e) (x ∷ l) h = cut-within (suc m) b e l (omega arith)

  -- of an empty cut it does not matter where it begins
  same_cut : (size first m b : ℕ) (l : List A) → size ≡ m → (0 < size → first ≡ b) → take size (drop first l) ≡ take m (drop b l)
  same_cut zero first m b l e f = rw (← e) refl
  same_cut (suc n) first m b l e f = rw (← e, f (omega arith)) refl

  -- ws stored from place `at` on
  abbrev put : (at : ℕ) → (ws vs : List A) → List A
  put at ws vs = take at vs ++ (ws ++ drop (length ws) (drop at vs))

  put_written : (at : ℕ) (ws vs : List A) → written_at at ws vs ≡ put at ws vs
  unfolding written_at
  put_written at ws vs = append_assoc (take at vs) ws (drop (at + length ws) vs) ∙ ap (λ (r : List A). take at vs ++ (ws ++ r)) (sym (drop-drop (length ws) at vs))

  same_put : (size first b : ℕ) (ws vs : List A) → length ws ≡ size → (0 < size → first ≡ b) → put first ws vs ≡ put b ws vs
  same_put size first b [] vs e f = take-append-drop first vs ∙ sym (take-append-drop b vs)
  same_put size first b (w ∷ ws) vs e f = rw (f (omega arith)) refl

module _ (text : List ℕ) where
  in_take : (m : ℕ) (es : List Expectation) → all_in text es ≡ true → all_in text (take m es) ≡ true
  unfolding all_in
  in_take zero es h = refl
  in_take (suc m) [] h = refl
  in_take (suc m) (e ∷ es) h = let p = both (expect_in (length text) e.expect) (all_in text es) h in rw p.0 (in_take m es p.1)

  in_drop : (b : ℕ) (es : List Expectation) → all_in text es ≡ true → all_in text (drop b es) ≡ true
  unfolding all_in
  in_drop zero es h = h
  in_drop (suc b) [] h = refl
  in_drop (suc b) (e ∷ es) h = let p = both (expect_in (length text) e.expect) (all_in text es) h in in_drop b es p.1

-- ---- the verdict list

pub length_over : (os : List (Option Verdict)) (vs : List ℕ) → length (slots_over os vs) ≡ length vs
unfolding slots_over
length_over [] vs = refl
length_over (o ∷ os) [] = refl
length_over (o ∷ os) (x ∷ vs) = ap suc (length_over os vs)

module _ (h : List Subject) (s : Subject) where
  -- the verdicts of number n, stored from its first place on, fill the slots of the lines that belong to n
  put_over : (j : ℕ) (ls : List Owned) → Rising j ls → (vs : List ℕ) → length ls ≤ length vs
      → put (earlier (length h) ls) (map code (map (verdict s) (belonging (length h) ls))) (slots_over (slots_in h ls) vs) ≡ slots_over (slots_in (h ++ (s ∷ [])) ls) vs
  unfolding slots_over slot_over earlier belonging
  put_over j [] r vs g = refl
  put_over j (own k e ∷ ls) r [] g = absurd (not-suc-le-zero g)
  put_over j (own k e ∷ ls) r (x ∷ vs) g = rw (slot_snoc h s k e) (go (order k (length h)) (put_over k ls r.1 vs (le_of_suc-le-suc g)))
    where
      go : Order k (length h)
          → put (earlier (length h) ls) (map code (map (verdict s) (belonging (length h) ls))) (slots_over (slots_in h ls) vs) ≡ slots_over (slots_in (h ++ (s ∷ [])) ls) vs
          → put (earlier (length h) (own k e ∷ ls)) (map code (map (verdict s) (belonging (length h) (own k e ∷ ls)))) (slot_over (verdict_by (only h k) e) x ∷ slots_over (slots_in h ls) vs)
          ≡ slot_over (if eqb k (length h) then Some (verdict s e) else verdict_by (only h k) e) x ∷ slots_over (slots_in (h ++ (s ∷ [])) ls) vs
      go (less p y z) ih = rw (y, z) (ap (λ (t : List ℕ). slot_over (verdict_by (only h k) e) x ∷ t) ih)
      go (same p y z) ih =
          let f : earlier (length h) ls ≡ 0 = earlier_none (length h) k ls (omega arith) r.1 in
          rw (y, z, f) (ap (λ (t : List ℕ). code (verdict s e) ∷ t) (rw f at ih))
      go (more p y z) ih =
          let f : earlier (length h) ls ≡ 0 = earlier_none (length h) k ls (omega arith) r.1 in
          let b : belonging (length h) ls ≡ [] = belonging-none (length h) k ls p r.1 in
          rw (y, z, f, b) (ap (λ (t : List ℕ). slot_over (verdict_by (only h k) e) x ∷ t) (rw (f, b) at ih))

-- ---- the tests

-- a table that is long enough refuses no number that the script does not
roomy : (a b n : ℕ) → a ≤ b → (ltb a n or ltb b n) ≡ ltb a n
roomy a b n h = go (order a n)
  where
    go : Order a n → (ltb a n or ltb b n) ≡ ltb a n
    go (less p x y) = rw x refl
    go (same p x y) = rw (x, le-ltb b n (omega arith)) refl
    go (more p x y) = rw (x, le-ltb b n (omega arith)) refl

capped : (p e : ℕ) → e ≤ 0x8000 → ltb (room p) e ≡ ltb p e
unfolding room
capped p e h = go (order p e)
  where
    go : Order p e → ltb (min 0x8000 p) e ≡ ltb p e
    go (less q x y) = rw (x, lt-ltb (min 0x8000 p) e (omega arith)) refl
    go (same q x y) = rw (x, le-ltb (min 0x8000 p) e (omega arith)) refl
    go (more q x y) = rw (x, le-ltb (min 0x8000 p) e (omega arith)) refl

-- a range that ends within n records, or is empty
not_outside : (n m b : ℕ) (r : Items) → r.count ≡ m → (0 < r.count → r.first ≡ b) → b + m ≤ n → (not (eqb r.count 0) & not (inside n r.first r.count)) ≡ false
unfolding inside
not_outside n m b r e f h = go (order 0 r.count)
  where
    go : Order 0 r.count → (not (eqb r.count 0) & not (leb r.first n & leb r.count (n - r.first))) ≡ false
    go (less p x y) =
        let g : r.first ≡ b = f p in
        rw (ne_eqb r.count 0 (λ z. omega arith), le-leb r.first n (omega arith), le-leb r.count (n - r.first) (omega arith)) refl
    go (same p x y) = rw (eq-eqb r.count 0 (sym p)) refl
    go (more p x y) = absurd (not-suc-le-zero p)

module _ (k : Lent) (a : Agrees k) where
  abbrev ls : List Owned
  ls = owned_lines k.text

  module _ (n : ℕ) (h : Handed) (fits : Fits (entry_count k.text) n h) where
    abbrev r : Items
    r = range_for k n h

    records_cut : records_in k r ≡ take (length (belonging n ls)) (drop (earlier n ls) (take (length ls) k.expectations))
    unfolding records_in
    records_cut =
        same_cut r.count r.first (length (belonging n ls)) (earlier n ls) k.expectations (a.sizes n h fits) (a.firsts n h fits)
        ∙ cut-within (length (belonging n ls)) (earlier n ls) (length ls) k.expectations (belonging_fit n ls)

    -- what is judged is what the lines of the number say
    pub said-lines : said_by k r ≡ belonging n ls
    unfolding said_by said
    said-lines =
        let f : Expectation → Expected = λ e. expected_of k.text e.expect in
        let m : ℕ = length (belonging n ls) in
        let b : ℕ = earlier n ls in
        let t : List Expectation = take (length ls) k.expectations in
        ap (map f) records_cut
        ∙ map-take f m (drop b t)
        ∙ ap (take m) (map-drop f b t)
        ∙ ap (λ (es : List Expected). take m (drop b es)) a.as_lines
        ∙ belonging-cut n 0 ls a.rising

    -- every expectation of a number of the script is in reach
    reached : out_of_reach k r ≡ false
    unfolding out_of_reach range_outside room
    reached =
        rw (
          not_outside (min k.script.counts.expectations (min 0x8000 (length k.expectations))) (length (belonging n ls)) (earlier n ls) r (a.sizes n h fits) (a.firsts n h fits)
              (omega (arith, belonging_fit n ls, a.expectations_fit, a.expectations-counted)),
          records_cut,
          in_take k.text (length (belonging n ls)) (drop (earlier n ls) (take (length ls) k.expectations))
              (in_drop k.text (earlier n ls) (take (length ls) k.expectations) a.all_inside),
        )
        refl

  -- the script and its table count the entries of the text
  past : (n : ℕ) → past_entries k n ≡ ltb (entry_count k.text) n
  unfolding past_entries
  past n = ap (λ (e : ℕ). ltb e n or ltb (room (length k.entries)) n) a.entries-counted ∙ roomy (entry_count k.text) (room (length k.entries)) n a.entries_fit

  few_lines : length ls ≤ 0x8000
  unfolding room
  few_lines = omega (arith, a.expectations_fit)

  -- the script counts the expectation lines of the text
  short : (places : ℕ) → few_slots k places ≡ ltb places (length ls)
  unfolding few_slots
  short places = ap (λ (e : ℕ). ltb (room places) e) a.expectations-counted ∙ capped places (length ls) few_lines

  -- no count passes the number of expectation lines
  few : (h : List Subject) → over_limit (counts_in h ls) ≡ false
  few h = few_counted (slots_in h ls) (omega (arith, few_lines, length-map ls (slot_in h)))

  -- the first refusal is the plain judge's
  pub same_refusal : (h : List Subject) (places : ℕ) (j : Judging)
      → refusal_on k (past_entries k j.number) (range_for k j.number j.handed) (length h) (counts_in h ls) places j ≡ plain_refusal k.text places (length h) j
  unfolding refusal_on range_refusals plain_refusal
  same_refusal h places j =
      rw (few h, past j.number)
      (pass CountTooHigh _ ∙ agree WrongNumber (wrong_number (length h) j.number (ltb (entry_count k.text) j.number) j.handed) _ _ (λ e.
      let g : Fits (entry_count k.text) j.number j.handed = (right_number (length h) j.number (entry_count k.text) j.handed e).1 in
      rw (reached j.number j.handed g, short places, said-lines j.number j.handed g) (pass ExpectationOutside _)))

  module _ (vs : List ℕ) where
    unfoldable pub shows : List Subject → JudgeState
    shows h = state_over vs (plain_of k.text (length vs) h)

    -- an unrefused judging leaves what shows the longer history
    same_judged : (h : List Subject) (j : Judging) → Unrefused k.text (length vs) (length h) j
        → judged_by k (verdict (subject_of j)) (range_for k j.number j.handed) (shows h) ≡ shows (h ++ (subject_of j ∷ []))
    unfolding judged_by shows state_over plain_of
    same_judged h j u =
        let s : Subject = subject_of j in
        let n : j.number ≡ length h = u.number in
        let i : Items = range_for k j.number j.handed in
        let b : List Expected = belonging j.number ls in
        rw (
          said-lines j.number j.handed u.fits,
          put_written i.first (map code (map (verdict s) b)) (slots_over (slots_in h ls) vs),
          same_put i.count i.first (earlier j.number ls) (map code (map (verdict s) b)) (slots_over (slots_in h ls) vs)
              (length-map (map (verdict s) b) code ∙ length-map b (verdict s) ∙ sym (a.sizes j.number j.handed u.fits))
              (a.firsts j.number j.handed u.fits),
          n,
          length_snoc h s,
          ← count_slots h s ls,
          put_over h s 0 ls a.rising vs u.reach,
        )
        refl

    same_closing : (h : List Subject) → close_answer (shows h).next (shows h).counts k.script.counts.entries ≡ plain_closing k.text (length vs) (plain_of k.text (length vs) h)
    unfolding close_answer close_refusal plain_closing shows state_over plain_of
    same_closing h = rw (few h, a.entries-counted) (ap (λ (o : Option Refusal). closed_or o (outcome_of (counts_in h ls))) (pass CountTooHigh _ ∙ alone _))

    -- a judging by its refusal; said apart, so that another is refused here
    judged_as : (s : JudgeState) (j : Judging) → judge_step k s (judge j) ≡ judged_or (judge_refusal k s j) s (judged_by k (verdict (subject_of j)) (range_for k j.number j.handed) s)
    unfolding judge_step judged judged_on judge_refusal
    judged_as s j = refl

    -- one call of ours is the history's
    pub our_shown : (h : List Subject) (c : Call) → judge_step k (shows h) c ≡ ((history_call k.text (length vs) h c).0, shows (history_call k.text (length vs) h c).1)
    unfolding judge_step judge_refusal history_call shows state_over plain_of judged_or
    our_shown h (judge j) =
        judged_as (shows h) j
        ∙ rw (length_over (slots_in h ls) vs, same_refusal h (length vs) j)
        (go (plain_refusal k.text (length vs) (length h) j) refl)
      where
        go : (o : Option Refusal) → plain_refusal k.text (length vs) (length h) j ≡ o
            → judged_or o (shows h) (judged_by k (verdict (subject_of j)) (range_for k j.number j.handed) (shows h))
            ≡ ((judged_or o h (h ++ (subject_of j ∷ []))).0, shows (judged_or o h (h ++ (subject_of j ∷ []))).1)
        go (Some q) e = refused-shown shows q h h (shows h)
        go None e = rw (same_judged h j (unrefused k.text (length vs) (length h) j e)) refl
    our_shown h close = rw (same_closing h) refl
