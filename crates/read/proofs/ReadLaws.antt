-- Read: what Measure and the lengths of the tables say of the answer. Assumes nothing.
use Prim.Native.Nat.{ℕ, ◌≤◌}
use mathlib.Core.Path.{◌≡◌, refl, sym, ap, ◌∙◌}
use mathlib.Core.Bool.{Bool, true, false, not}
use mathlib.Core.List.{List, []}
use denote.MutBor.{MutBor}
use lib.Dec.{ltb}
use lib.ListN.{length}
use borrow.Author.Tests.{ltb-false}
use Rattle.std.specs.Prelude.{if◌then◌else◌, Err, None, Ok, Option, Result, Some, ⊤}
use Rattle.text.specs.Utf8.{well_formed}
use Rattle.text.specs.Lines.{lines}
use Rattle.text.proofs.Scan.{never}
use Rattle.script.specs.Answers.{first_of}
use Rattle.script.specs.Values.{plain_rules}
use Rattle.script.specs.Roles.{roles}
use Rattle.script.specs.Contents.{ScriptContents, contents}
use Rattle.script.specs.Layout.{Reading, Tables, laid_script}
use Rattle.script.specs.Reading.{first_refused, read_marked, read_by, parsed_by, parsed, measured, room, too_few, fitted, read_into, Parsed}
use Rattle.script.specs.Refusals.{refusal, ok_unless}
use Rattle.script.specs.declared.records.Counts.{Counts}
use Rattle.script.specs.declared.records.Entry.{Entry}
use Rattle.script.specs.declared.records.Expectation.{Expectation}
use Rattle.script.specs.declared.records.Refusal.{Refusal}
use Rattle.script.specs.declared.records.Script.{Script}
use Rattle.written.specs.Written.{written_at}
use Rattle.written.proofs.WrittenLaws.{written_none}
use Rattle.fits.proofs.FitLaws.{room_within}
use Rattle.read.specs.Read.{script_or, tables_or, lent_of}
use Rattle.entries.specs.Whole.{reading_of}
use Rattle.fits.specs.Fits.{shortage}
use Rattle.script.specs.declared.refusals.Reason.TheVariants.{FewEntries, FewExpectations, FewItems, FewStoreBytes, NotUtf8, TextTooLong}

-- a refusal, or the reading
pub fitting : Reading → Option Refusal → Parsed Reading
fitting r None = Ok r
fitting r (Some q) = Err q

is_none : Option Refusal → Bool
is_none None = true
is_none (Some q) = false

module _ (lent : Counts) (r : Reading) where
  abbrev needed : Counts
  needed = r.script.counts

  -- it is refused by the first table that is too short; where none is, there is room
  pub record Fitted : Type 0 where
    pub answers : fitted lent r ≡ fitting r (shortage lent needed)
    pub entries : None ≡ shortage lent needed → needed.entries ≤ room lent.entries
    pub items : None ≡ shortage lent needed → needed.items ≤ room lent.items
    pub expectations : None ≡ shortage lent needed → needed.expectations ≤ room lent.expectations
    pub store : None ≡ shortage lent needed → needed.store ≤ lent.store

  -- one is too short
  short : (q : Refusal) → Some q ≡ shortage lent needed → fitted lent r ≡ fitting r (Some q) → Fitted
  unfolding is_none
  short q e f =
      let no : None ≡ shortage lent needed → ⊥ = λ k. never (ap is_none (k ∙ sym e)) in
      record {
        answers = f ∙ ap (fitting r) e;
        entries = λ k. absurd (no k);
        items = λ k. absurd (no k);
        expectations = λ k. absurd (no k);
        store = λ k. absurd (no k);
      }

  pub fits : Fitted
  unfolding fitted shortage too_few first_of fitting
  fits =
      go
      (ltb (room lent.entries) needed.entries)
      (ltb (room lent.items) needed.items)
      (ltb (room lent.expectations) needed.expectations)
      (ltb lent.store needed.store)
      refl
      refl
      refl
      refl
    where
      go : (a b c d : Bool) → ltb (room lent.entries) needed.entries ≡ a → ltb (room lent.items) needed.items ≡ b → ltb (room lent.expectations) needed.expectations ≡ c
          → ltb lent.store needed.store ≡ d → Fitted
      go true b c d p q s t = short (refusal FewEntries 0) (rw p) (rw p)
      go false true c d p q s t = short (refusal FewItems 0) (rw (p, q)) (rw (p, q))
      go false false true d p q s t = short (refusal FewExpectations 0) (rw (p, q, s)) (rw (p, q, s))
      go false false false true p q s t = short (refusal FewStoreBytes 0) (rw (p, q, s, t)) (rw (p, q, s, t))
      go false false false false p q s t =
          record { answers = rw (p, q, s, t); entries = λ k. ltb-false _ _ p; items = λ k. ltb-false _ _ q; expectations = λ k. ltb-false _ _ s; store = λ k. ltb-false _ _ t }

is_short : (s : Option Refusal) (r : Refusal) → ok_unless s ≡ Err r → s ≡ Some r
unfolding ok_unless
is_short None r e = cc e
is_short (Some q) r e = cc e

not_short : (s : Option Refusal) (u : ⊤) → ok_unless s ≡ Ok u → s ≡ None
unfolding ok_unless
not_short None u e = refl
not_short (Some q) u e = cc e

-- ---- what Measure says

counts_of : Parsed Reading → Parsed Counts
counts_of (Err r) = Err r
counts_of (Ok s) = Ok s.script.counts

into_of : Counts → Parsed Reading → Parsed Reading
into_of lent (Err r) = Err r
into_of lent (Ok s) = fitted lent s

-- the parts of an answer
is_read : Parsed Counts → Bool
is_read (Err r) = false
is_read (Ok c) = true

refusal_in : Refusal → Parsed Counts → Refusal
refusal_in other (Err r) = r
refusal_in other (Ok c) = other

counts_in : Counts → Parsed Counts → Counts
counts_in other (Err r) = other
counts_in other (Ok c) = c

module _ (text : List ℕ) where
  measured-is : measured text ≡ counts_of (parsed text)
  unfolding measured counts_of
  measured-is = go (parsed text)
    where
      go : (p : Parsed Reading) → elim p as (λ _. Parsed Counts) [ Err r ↦ Err r | Ok r ↦ Ok r.script.counts ] ≡ counts_of p
      go (Err r) = refl
      go (Ok s) = refl

  into_is : (lent : Counts) → read_into lent text ≡ into_of lent (parsed text)
  unfolding read_into into_of
  into_is lent = go (parsed text)
    where
      go : (p : Parsed Reading) → elim p as (λ _. Parsed Reading) [ Err r ↦ Err r | Ok r ↦ fitted lent r ] ≡ into_of lent p
      go (Err r) = refl
      go (Ok s) = refl

  -- a text is too long, or not UTF-8, or has a refused line, or is read
  answer : (long ill : Bool) → Option Refusal → Parsed Reading
  answer true ill f = Err (refusal TextTooLong 0)
  answer false true f = Err (refusal NotUtf8 0)
  answer false false None = Ok (reading_of text)
  answer false false (Some r) = Err r

  abbrev marked : Option Refusal → Parsed ScriptContents
  marked f = elim f [ None ↦ Ok (contents plain_rules text (roles plain_rules text (lines text))) | Some r ↦ Err r ]

  abbrev read_as : (long ill : Bool) → Option Refusal → Parsed ScriptContents
  read_as long ill f = if long then Err (refusal TextTooLong 0) else if ill then Err (refusal NotUtf8 0) else marked f

  parsed-is : parsed text ≡ answer (ltb 0x8000 (length text)) (not (well_formed text)) (first_refused (roles plain_rules text (lines text)))
  unfolding parsed parsed_by read_by read_marked reading_of answer
  parsed-is = go (ltb 0x8000 (length text)) (not (well_formed text)) (first_refused (roles plain_rules text (lines text)))
    where
      go : (long ill : Bool) (f : Option Refusal) → elim (read_as long ill f) as (λ _. Parsed Reading) [ Err r ↦ Err r | Ok s ↦ Ok (laid_script s) ] ≡ answer long ill f
      go true ill f = refl
      go false true f = refl
      go false false None = refl
      go false false (Some r) = refl

  -- what is known of a text that Measure does not refuse
  pub record Readable (lent c : Counts) : Type 0 where
    pub short : length text ≤ 0x8000
    pub counted : c ≡ (reading_of text).script.counts
    pub reads : read_into lent text ≡ fitting (reading_of text) (shortage lent c)

  module _ (lent : Counts) where
    -- a text that Measure refuses is refused
    pub refused-read : (r : Refusal) → Err r ≡ measured text → read_into lent text ≡ Err r
    unfolding counts_of into_of is_read refusal_in
    refused-read r h = into_is lent ∙ go (parsed text) (h ∙ measured-is)
      where
        go : (p : Parsed Reading) → Err r ≡ counts_of p → into_of lent p ≡ Err r
        go (Err q) e = ap (λ (x : Refusal). Err x) (sym (ap (refusal_in r) e))
        go (Ok s) e = never (sym (ap is_read e))

    -- one that it does not refuse is read, if the tables are long enough
    pub readable : (c : Counts) → Ok c ≡ measured text → Readable lent c
    unfolding counts_of into_of is_read counts_in answer
    readable c h = go (ltb 0x8000 (length text)) (not (well_formed text)) (first_refused (roles plain_rules text (lines text))) refl parsed-is
      where
        go : (long ill : Bool) (f : Option Refusal) → ltb 0x8000 (length text) ≡ long → parsed text ≡ answer long ill f → Readable lent c
        go true ill f l p = never (ap is_read (h ∙ measured-is ∙ ap counts_of p))
        go false true f l p = never (ap is_read (h ∙ measured-is ∙ ap counts_of p))
        go false false (Some r) l p = never (ap is_read (h ∙ measured-is ∙ ap counts_of p))
        go false false None l p =
            let counted : c ≡ (reading_of text).script.counts = ap (counts_in c) (h ∙ measured-is ∙ ap counts_of p) in
            record {
              short = ltb-false 0x8000 (length text) l;
              counted = counted;
              reads = into_is lent ∙ ap (into_of lent) p ∙ (fits lent (reading_of text)).answers ∙ ap (λ (n : Counts). fitting (reading_of text) (shortage lent n)) (sym counted);
            }

-- ---- what Read answers and writes

-- where a text, or what is lent for it, is refused
module _ (p : Parsed Reading) (r : Refusal) (e : p ≡ Err r) where
  pub refused-answer : Err r ≡ script_or p
  unfolding script_or
  refused-answer = rw e

  -- nothing is written
  pub as_was : {A : Type 0} (f : Tables → List A) (t : List A) → f (record { entries = []; items = []; expectations = []; store = [] }) ≡ [] → t ≡ written_at 0 (f (tables_or p)) t
  unfolding tables_or
  as_was f t n = rw (e, n) (sym (written_none 0 t))

-- where it is read
module _ (p : Parsed Reading) (R : Reading) (e : p ≡ Ok R) where
  pub read_answer : (s : Script) → s ≡ R.script → Ok s ≡ script_or p
  unfolding script_or
  read_answer s f = rw (e, f)

  pub tables-read : R.tables ≡ tables_or p
  unfolding tables_or
  tables-read = rw e

-- what is known once no table is too short
pub record Enough (text : List ℕ) (entries : MutBor (List Entry)) (items : MutBor (List (List ℕ))) (expectations : MutBor (List Expectation)) (store : MutBor (List ℕ)) (c : Counts) : Type 0 where
  pub short : length text ≤ 0x8000
  pub counted : c ≡ (reading_of text).script.counts
  pub reads : read_into (lent_of entries.now items.now expectations.now store.now) text ≡ Ok (reading_of text)
  pub entries_room : length (reading_of text).tables.entries ≤ length entries.now
  pub items_room : length (reading_of text).tables.items ≤ length items.now
  pub expectations_room : length (reading_of text).tables.expectations ≤ length expectations.now
  pub store_room : length (reading_of text).tables.store ≤ length store.now

-- m is Measure's answer
module _ (text : List ℕ) (lent : Counts) (m : Parsed Counts) (e : m ≡ measured text) where
  pub measure_refuses : (r : Refusal) → m ≡ Err r → read_into lent text ≡ Err r
  measure_refuses r q = refused-read text lent r (sym q ∙ e)

  -- f says whether the tables are long enough
  module _ (c : Counts) (q : m ≡ Ok c) (f : Result ⊤ Refusal) (o : f ≡ ok_unless (shortage lent c)) where
    known : Readable text lent c
    known = readable text lent c (sym q ∙ e)

    pub short_refuses : (r : Refusal) → f ≡ Err r → read_into lent text ≡ Err r
    unfolding fitting
    short_refuses r b = known.reads ∙ ap (fitting (reading_of text)) (is_short (shortage lent c) r (sym o ∙ b))

    pub enough_reads : (u : ⊤) → f ≡ Ok u → None ≡ shortage lent c → read_into lent text ≡ Ok (reading_of text)
    unfolding fitting
    enough_reads u b n = known.reads ∙ ap (fitting (reading_of text)) (sym n)

module _ (text : List ℕ) (entries : MutBor (List Entry)) (items : MutBor (List (List ℕ))) (expectations : MutBor (List Expectation)) (store : MutBor (List ℕ)) where
  abbrev room_lent : Counts
  room_lent = lent_of entries.now items.now expectations.now store.now

  pub enough : (m : Parsed Counts) → m ≡ measured text → (c : Counts) → m ≡ Ok c → (f : Result ⊤ Refusal) → f ≡ ok_unless (shortage room_lent c) → (u : ⊤) → f ≡ Ok u → Enough text entries items expectations store c
  unfolding reading_of laid_script
  enough m e c q f o u b =
      let k = readable text room_lent c (sym q ∙ e) in
      let n = sym (not_short (shortage room_lent c) u (sym o ∙ b)) in
      let there = fits room_lent (reading_of text) in
      let l = rw k.counted at n in
      record {
        short = k.short;
        counted = k.counted;
        reads = enough_reads text room_lent m e c q f o u b n;
        entries_room = room_within room_lent.entries _ (there.entries l);
        items_room = room_within room_lent.items _ (there.items l);
        expectations_room = room_within room_lent.expectations _ (there.expectations l);
        store_room = there.store l;
      }
