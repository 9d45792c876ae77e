-- A run is settled by its history: what the unrefused judgings were judged against, in order, the first of number 0, the next of number 1 and so on.
-- The plain judge's state is a function of the history, and each call adds one to it or none. Assumes nothing.
use mathlib.Core.Path.{◌≡◌, refl, sym, ap, ap₂, ◌∙◌}
use mathlib.Core.Bool.{true, false, not}
use mathlib.Core.List.{List, [], ◌∷◌, ◌++◌, map, append_assoc, append-nil}
use Prim.Native.Nat.{ℕ, zero, suc, ◌+◌, ◌≤◌, ◌<◌}
use native.Mathlib.Omega.{arith}
use lib.ListN.{length, replicate}
use lib.Dec.{ltb, eqb, eqb-suc-suc, eqb-zero-suc, eqb-suc-zero}
use borrow.Author.Tests.{eq-eqb, ne_eqb, ltb-false, eqb-true, not-false}
use Rattle.std.specs.Prelude.{if◌then◌else◌, None, Option, Result, Some}
use Rattle.text.specs.Base.{◌or◌}
use Rattle.text.proofs.Scan.{never}
use Rattle.script.specs.declared.records.Refusal.{Refusal}
use Rattle.script.specs.declared.refusals.Reason.TheVariants.{WrongNumber, PartOutside, FewSlots}
use Rattle.verdicts.specs.Expected.{Expected}
use Rattle.verdicts.specs.Told.{Subject}
use Rattle.verdicts.specs.Verdicts.{verdict}
use Rattle.verdicts.specs.declared.Verdict.{Verdict}
use Rattle.tallies.specs.declared.tally.Counts.{Counts}
use Rattle.verdicts.specs.declared.handed.Handed.{Handed}
use Rattle.verdicts.specs.declared.handed.Handed.TheVariants.{Info, Response}
use Rattle.tallies.specs.declared.calls.Answer.{Answer}
use Rattle.tallies.specs.Tally.{no_counts, added, added_all}
use Rattle.judging.specs.Calls.{Judging, Call, judge, close, subject_of, wrong_number, part_outside, judged_or, run}
use Rattle.judging.specs.PlainJudge.{Owned, own, belonging, entry_count, owned_lines, PlainState, filled, plain_start, plain_refusal, plain_judged, plain_closing, plain_call}
use Rattle.judging.specs.Claim.{accepted_by, accepted, verdict_by, counted}
use Rattle.judging.proofs.Slots.{slot_stays}
use Rattle.tallies.proofs.Refusals.{passed_by}
use Rattle.judging.proofs.Orders.{neither, Order, less, same, more, order}

-- ---- one judge shown by another

-- Where every step of B from what shows a is the step of A from a, so is every run.
pub run-shown : {A B : Type 0} (step-a : A → Call → Result Answer Refusal × A) (step-b : B → Call → Result Answer Refusal × B) (shows : A → B)
    → ((a : A) (c : Call) → step-b (shows a) c ≡ ((step-a a c).0, shows (step-a a c).1))
    → (cs : List Call) (a : A) → run step-b (shows a) cs ≡ ((run step-a a cs).0, shows (run step-a a cs).1)
unfolding run
run-shown step-a step-b shows sim [] a = refl
run-shown step-a step-b shows sim (c ∷ cs) a = rw (sim a c, run-shown step-a step-b shows sim cs (step-a a c).1) refl

-- What every step keeps, every run keeps.
pub run_keeps : {A : Type 0} (step : A → Call → Result Answer Refusal × A) (Good : A → Type 0) → ((a : A) (c : Call) → Good a → Good (step a c).1)
    → (cs : List Call) (a : A) → Good a → Good (run step a cs).1
unfolding run
run_keeps step Good keep [] a g = g
run_keeps step Good keep (c ∷ cs) a g = run_keeps step Good keep cs (step a c).1 (keep a c g)

-- ---- a list with one element more

pub length_snoc : {A : Type 0} (l : List A) (a : A) → length (l ++ (a ∷ [])) ≡ length l + 1
length_snoc [] a = refl
length_snoc (x ∷ l) a = omega (arith, length_snoc l a)

-- the element at place k, if there is one
pub only : {A : Type 0} → List A → ℕ → List A
only [] k = []
only (a ∷ l) zero = a ∷ []
only (a ∷ l) (suc k) = only l k

pub only_snoc : {A : Type 0} (l : List A) (a : A) (k : ℕ) → only (l ++ (a ∷ [])) k ≡ only l k ++ (if eqb (length l) k then (a ∷ []) else [])
unfolding only
only_snoc [] a zero = refl
only_snoc [] a (suc k) = rw (eqb-zero-suc k) refl
only_snoc (x ∷ l) a zero = rw (eqb-suc-zero (length l)) refl
only_snoc (x ∷ l) a (suc k) = rw (eqb-suc-suc (length l) k) (only_snoc l a k)

pub only-past : {A : Type 0} (l : List A) (k : ℕ) → length l ≤ k → only l k ≡ []
unfolding only
only-past [] k h = refl
only-past (x ∷ l) zero h = let z : ⊥ = omega arith in absurd z
only-past (x ∷ l) (suc k) h = only-past l k (omega arith)

pub only_one : {A : Type 0} (l : List A) (k : ℕ) → length (only l k) ≤ 1
unfolding only
only_one [] k = omega arith
only_one (x ∷ l) zero = omega arith
only_one (x ∷ l) (suc k) = only_one l k

pub only-within : {A : Type 0} (l : List A) (k : ℕ) → only l k ≡ [] → length l ≤ k
unfolding only
only-within [] k e = omega arith
only-within (x ∷ l) zero e = let z : ◌≡◌ {A = ℕ} 0 1 = cc in absurd (omega arith)
only-within (x ∷ l) (suc k) e = omega (arith, only-within l k e)

-- ---- the history

-- the verdict of an expectation line, where the number that it belongs to was judged
abbrev pub slot_in : List Subject → Owned → Option Verdict
slot_in h (own k e) = verdict_by (only h k) e

abbrev pub slots_in : List Subject → List Owned → List (Option Verdict)
slots_in h ls = map (slot_in h) ls

abbrev pub counts_in : List Subject → List Owned → Counts
counts_in h ls = counted (slots_in h ls)

module _ (h : List Subject) (s : Subject) where
  pub slot_snoc : (k : ℕ) (e : Expected) → verdict_by (only (h ++ (s ∷ [])) k) e ≡ (if eqb k (length h) then Some (verdict s e) else verdict_by (only h k) e)
  unfolding verdict_by
  slot_snoc k e = rw (only_snoc h s k) (go (order k (length h)))
    where
      go : Order k (length h) → verdict_by (only h k ++ (if eqb (length h) k then (s ∷ []) else [])) e ≡ (if eqb k (length h) then Some (verdict s e) else verdict_by (only h k) e)
      go (less g x y) = rw (y, ne_eqb (length h) k (λ z. omega arith), append-nil (only h k)) refl
      go (same g x y) = rw (y, eq-eqb (length h) k (sym g), only-past h k (omega arith)) refl
      go (more g x y) = rw (y, ne_eqb (length h) k (λ z. omega arith), append-nil (only h k)) refl

  pub fill_slots : (ls : List Owned) → filled (length h) s ls (slots_in h ls) ≡ slots_in (h ++ (s ∷ [])) ls
  unfolding filled
  fill_slots [] = refl
  fill_slots (own k e ∷ ls) = ap₂ (λ (o : Option Verdict) (os : List (Option Verdict)). o ∷ os) (sym (slot_snoc k e)) (fill_slots ls)

  pub count_slots : (ls : List Owned) → counts_in (h ++ (s ∷ [])) ls ≡ added_all (map (verdict s) (belonging (length h) ls)) (counts_in h ls)
  unfolding added_all counted belonging verdict_by
  count_slots [] = refl
  count_slots (own k e ∷ ls) = rw (slot_snoc k e) (go (order k (length h)) (count_slots ls))
    where
      go : Order k (length h) → counts_in (h ++ (s ∷ [])) ls ≡ added_all (map (verdict s) (belonging (length h) ls)) (counts_in h ls)
          → counted ((if eqb k (length h) then Some (verdict s e) else verdict_by (only h k) e) ∷ slots_in (h ++ (s ∷ [])) ls)
          ≡ added_all (map (verdict s) (belonging (length h) (own k e ∷ ls))) (counted (verdict_by (only h k) e ∷ slots_in h ls))
      go (less g x y) ih = rw y (slot_stays (verdict_by (only h k) e) (map (verdict s) (belonging (length h) ls)) (slots_in (h ++ (s ∷ [])) ls) (slots_in h ls) ih)
      go (same g x y) ih =
          let z : verdict_by (only h k) e ≡ None = rw (only-past h k (omega arith)) refl in
          rw (y, z) (ap (added (verdict s e)) ih)
      go (more g x y) ih = rw y (slot_stays (verdict_by (only h k) e) (map (verdict s) (belonging (length h) ls)) (slots_in (h ++ (s ∷ [])) ls) (slots_in h ls) ih)

-- ---- numbers

-- a number that is not refused is the next, and is 0 for the handshake or one of the entries
pub data Fits (entries : ℕ) : ℕ → Handed → Type 0 where
  handshake : {i : _} → Fits entries 0 (Info i)
  entry : {n : ℕ} {r : _} → suc n ≤ entries → Fits entries (suc n) (Response r)

pub right_number : (next n entries : ℕ) (h : Handed) → wrong_number next n (ltb entries n) h ≡ false → (n ≡ next) × Fits entries n h
unfolding wrong_number
right_number next zero entries (Info i) e =
    let a = neither (not (eqb 0 next)) _ e in (eqb-true 0 next (not-false (eqb 0 next) a.0), handshake)
right_number next (suc n) entries (Info i) e =
    let a = neither (not (eqb (suc n) next)) _ e in
    let z : eqb (suc n) 0 ≡ true = not-false (eqb (suc n) 0) a.1 in
    let y : suc n ≡ 0 = eqb-true (suc n) 0 z in
    let x : ⊥ = omega arith in absurd x
right_number next zero entries (Response r) e =
    let a = neither (not (eqb 0 next)) (eqb 0 0 or ltb entries 0) e in
    let z : (eqb 0 0 ≡ false) × _ = neither (eqb 0 0) (ltb entries 0) a.1 in
    never (sym (eq-eqb 0 0 refl) ∙ z.0)
right_number next (suc n) entries (Response r) e =
    let a = neither (not (eqb (suc n) next)) (eqb (suc n) 0 or ltb entries (suc n)) e in
    let z = neither (eqb (suc n) 0) (ltb entries (suc n)) a.1 in
    (eqb-true (suc n) next (not-false (eqb (suc n) next) a.0), entry (ltb-false entries (suc n) z.1))

pub fits_le : {entries n : ℕ} {h : Handed} → Fits entries n h → n ≤ entries
fits_le handshake = omega arith
fits_le (entry g) = g

-- ---- the plain judge

-- a refused judging leaves what was there; said apart, so that one that does not is refused here
pub refused-shown : {A B : Type 0} (shown : A → B) (r : Refusal) (before after : A) (later : B)
    → judged_or (Some r) (shown before) later ≡ ((judged_or (Some r) before after).0, shown (judged_or (Some r) before after).1)
unfolding judged_or
refused-shown shown r before after later = refl

module _ (text : List ℕ) (places : ℕ) where
  unfoldable pub plain_of : List Subject → PlainState
  plain_of h = record { next = length h; slots = slots_in h (owned_lines text); counts = counts_in h (owned_lines text) }

  -- the judge on histories
  unfoldable pub history_call : List Subject → Call → Result Answer Refusal × List Subject
  unfolding plain_of
  history_call h (judge j) = judged_or (plain_refusal text places (length h) j) h (h ++ (subject_of j ∷ []))
  history_call h close = (plain_closing text places (plain_of h), h)

  -- a judging that is not refused is of the next number, which is one of the script's, and has a place for each expectation line
  pub record Unrefused (next : ℕ) (j : Judging) : Type 0 where
    pub number : j.number ≡ next
    pub fits : Fits (entry_count text) j.number j.handed
    pub reach : length (owned_lines text) ≤ places

  pub unrefused : (next : ℕ) (j : Judging) → plain_refusal text places next j ≡ None → Unrefused next j
  unfolding plain_refusal
  unrefused next j e =
      let a = passed_by WrongNumber (wrong_number next j.number (ltb (entry_count text) j.number) j.handed) _ e in
      let b = passed_by PartOutside (part_outside j) _ a.1 in
      let c = passed_by FewSlots (ltb places (length (owned_lines text))) _ b.1 in
      let d = right_number next j.number (entry_count text) j.handed a.0 in
      record { number = d.0; fits = d.1; reach = ltb-false places (length (owned_lines text)) c.0 }

  -- the plain judge's state is shown by the history
  pub plain-shown : (h : List Subject) (c : Call) → plain_call text places (plain_of h) c ≡ ((history_call h c).0, plain_of (history_call h c).1)
  unfolding history_call plain_call plain_judged plain_of judged_or
  plain-shown h (judge j) = go (plain_refusal text places (length h) j) refl
    where
      go : (o : Option Refusal) → plain_refusal text places (length h) j ≡ o
          → judged_or o (plain_of h) (plain_judged text places (plain_of h) j) ≡ ((judged_or o h (h ++ (subject_of j ∷ []))).0, plain_of (judged_or o h (h ++ (subject_of j ∷ []))).1)
      go (Some r) e = refused-shown plain_of r h h (plain_of h)
      go None e = rw ((unrefused (length h) j e).number, length_snoc h (subject_of j), fill_slots h (subject_of j) (owned_lines text), count_slots h (subject_of j) (owned_lines text)) refl
  plain-shown h close = refl

  -- a history has no more numbers than the script, and is empty where the verdict list is too short
  abbrev pub Good : List Subject → Type 0
  Good h = (length h ≤ entry_count text + 1) × (0 < length h → length (owned_lines text) ≤ places)

  pub good_call : (h : List Subject) (c : Call) → Good h → Good (history_call h c).1
  unfolding history_call judged_or
  good_call h (judge j) g = go (plain_refusal text places (length h) j) refl
    where
      go : (o : Option Refusal) → plain_refusal text places (length h) j ≡ o → Good (judged_or o h (h ++ (subject_of j ∷ []))).1
      go (Some r) e = g
      go None e =
          let f = unrefused (length h) j e in
          let n : j.number ≡ length h = f.number in
          let m : j.number ≤ entry_count text = fits_le f.fits in
          rw (length_snoc h (subject_of j)) (omega arith, λ k. f.reach)
  good_call h close g = g

  -- ---- what was accepted

  accepted-call : (n : ℕ) (h : List Subject) (c : Call) → only (history_call h c).1 n ≡ only h n ++ accepted_by n c (history_call h c).0
  unfolding history_call judged_or accepted_by
  accepted-call n h (judge j) = go (plain_refusal text places (length h) j) refl
    where
      go : (o : Option Refusal) → plain_refusal text places (length h) j ≡ o
          → only (judged_or o h (h ++ (subject_of j ∷ []))).1 n ≡ only h n ++ accepted_by n (judge j) (judged_or o h (h ++ (subject_of j ∷ []))).0
      go (Some r) e = sym (append-nil (only h n))
      go None e = rw (unrefused (length h) j e).number (only_snoc h (subject_of j) n)
  accepted-call n h close = sym (append-nil (only h n))

  -- the history is what the calls and their answers say
  pub accepted-run : (n : ℕ) (cs : List Call) (h : List Subject) → only (run history_call h cs).1 n ≡ only h n ++ accepted n cs (run history_call h cs).0
  unfolding run accepted
  accepted-run n [] h = sym (append-nil (only h n))
  accepted-run n (c ∷ cs) h =
      accepted-run n cs (history_call h c).1
      ∙ ap (λ (g : List Subject). g ++ accepted n cs (run history_call (history_call h c).1 cs).0) (accepted-call n h c)
      ∙ append_assoc (only h n) (accepted_by n c (history_call h c).0) _

-- ---- the empty history

pub no_slots : (ls : List Owned) → slots_in [] ls ≡ replicate (length ls) None
unfolding verdict_by only
no_slots [] = refl
no_slots (own k e ∷ ls) = ap (λ (os : List (Option Verdict)). None ∷ os) (no_slots ls)

pub none-counted : (n : ℕ) → counted (replicate n None) ≡ no_counts
unfolding counted
none-counted zero = refl
none-counted (suc n) = none-counted n

pub plain_begin : (text : List ℕ) (places : ℕ) → plain_of text places [] ≡ plain_start text places
unfolding plain_of plain_start
plain_begin text places = rw (no_slots (owned_lines text), none-counted (length (owned_lines text))) refl
