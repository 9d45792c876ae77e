-- What is lent is as Read left it: the tables hold what the lines of the text ask for. Assumes nothing.
use mathlib.Core.Path.{◌≡◌, refl, sym, ap, ap₂, ◌∙◌}
use mathlib.Core.Bool.{Bool, true, false}
use mathlib.Core.List.{List, [], ◌∷◌, ◌++◌, map}
use Prim.Native.Nat.{ℕ, zero, suc, ◌+◌, ◌-◌, ◌≤◌, ◌<◌}
use native.Mathlib.Omega.{arith}
use native.Mathlib.Nat.{le_refl, le_of_suc-le-suc, not-suc-le-zero}
use lib.ListN.{length, take, drop, get_or, length-append, length-map, get_or-append, get_or-map}
use lib.Dec.{ltb}
use lib.Seq.{take_at}
use borrow.Author.Tests.{lt-ltb, le-leb, eq-eqb, ne_eqb, ltb-false}
use Rattle.std.specs.Prelude.{if◌then◌else◌, Err, Ok}
use Rattle.text.specs.declared.lines.Line.{Line}
use Rattle.script.specs.Answers.{first_of}
use Rattle.script.specs.Values.{plain_rules}
use Rattle.script.specs.Roles.{expect_role}
use Rattle.script.specs.Contents.{ScriptContents, expectation_of}
use Rattle.script.specs.Layout.{Reading, range, laid_script}
use Rattle.script.specs.Reading.{read_by, parsed_by, parsed, room, too_few, fitted, read_into, Parsed}
use Rattle.script.specs.Plain.{PlainLine, expects, opens, other, plain_lines, opened, expectation_lines, owners, stated, stated_on, trimmed_line, leading, ranges_from}
use Rattle.script.specs.Inside.{PlaceIn, MatcherIn, ExpectIn, AllIn}
use Rattle.script.specs.Bridge.{AsPlain}
use Rattle.script.proofs.Bridge.{as_plain}
use Rattle.script.specs.declared.roles.Role.{Role}
use Rattle.script.specs.declared.roles.Role.TheVariants.{Nothing, Says, Expects, Opens, Bad}
use Rattle.script.specs.declared.records.Counts as Script
use Rattle.script.specs.declared.records.Place.{Place}
use Rattle.script.specs.declared.records.Items.{Items}
use Rattle.script.specs.declared.records.Matcher.{Matcher}
use Rattle.script.specs.declared.records.Matcher.TheVariants.{Exact, Regex, GreaterThan, LessThan, GreaterOrEqual, LessOrEqual}
use Rattle.script.specs.declared.records.Expect.{Expect}
use Rattle.script.specs.declared.records.Expect.TheVariants.{Terminal, Result, ResultField, Error, StderrCount, Daemon, Trust, ServerFeatures}
use Rattle.script.specs.declared.records.Entry.{Entry}
use Rattle.script.specs.declared.records.Expectation.{Expectation}
use Rattle.script.specs.Refusals.{refusal}
use Rattle.script.specs.declared.refusals.Reason.TheVariants.{FewEntries, FewExpectations, FewItems, FewStoreBytes}
use Rattle.verdicts.specs.Expected.{Expected, terminal}
use Rattle.verdicts.specs.Held.{expected_of, inside, place_in, matcher_in, expect_in}
use Rattle.written.specs.Written.{written_at}
use Rattle.written.proofs.WrittenLaws.{written_length}
use Rattle.slots.specs.Blank.{blank_entry}
use Rattle.verdicts.specs.declared.handed.Handed.{Handed}
use Rattle.verdicts.specs.declared.handed.Handed.TheVariants.{Info, Response}
use Rattle.judging.specs.Calls.{said}
use Rattle.judging.specs.PlainJudge.{owned, said_on, belonging, entry_count, owned_lines}
use Rattle.judging.specs.Judge.{Lent, all_in, range_for}
use Rattle.judging.specs.Claim.{said_of, AsRead}
use Rattle.judging.proofs.Lines.{lines_by, lines-said, Rising, lines_rise, earlier, earlier_none, belonging-none}
use Rattle.judging.proofs.History.{Fits, handshake, entry}
use Rattle.judging.proofs.Ours.{Agrees}

-- ---- what Read answered

-- the reading itself, and room for it
pub record Fitted (sizes : Script.Counts) (text : List ℕ) (r : Reading) : Type 0 where
  pub is-parsed : parsed_by plain_rules text ≡ Ok r
  pub entries : r.script.counts.entries ≤ room sizes.entries
  pub expectations : r.script.counts.expectations ≤ room sizes.expectations

module _ (sizes : Script.Counts) (q : Reading) where
  abbrev needed : Script.Counts
  needed = q.script.counts

  fitted_by : (a b c d : Bool) → ltb (room sizes.entries) needed.entries ≡ a → ltb (room sizes.items) needed.items ≡ b → ltb (room sizes.expectations) needed.expectations ≡ c
      → ltb sizes.store needed.store ≡ d
      → fitted sizes q ≡ (if a then Err (refusal FewEntries 0) else if b then Err (refusal FewItems 0) else if c then Err (refusal FewExpectations 0) else if d then Err (refusal FewStoreBytes 0) else Ok q)
  unfolding fitted too_few first_of
  fitted_by true b c d p q s t = rw p
  fitted_by false true c d p q s t = rw (p, q)
  fitted_by false false true d p q s t = rw (p, q, s)
  fitted_by false false false true p q s t = rw (p, q, s, t)
  fitted_by false false false false p q s t = rw (p, q, s, t)

  fitted-read : (r : Reading) → fitted sizes q ≡ Ok r → (q ≡ r) × (needed.entries ≤ room sizes.entries) × (needed.expectations ≤ room sizes.expectations)
  fitted-read r e =
      go
      (ltb (room sizes.entries) needed.entries)
      (ltb (room sizes.items) needed.items)
      (ltb (room sizes.expectations) needed.expectations)
      (ltb sizes.store needed.store)
      refl
      refl
      refl
      refl
    where
      go : (a b c d : Bool) → ltb (room sizes.entries) needed.entries ≡ a → ltb (room sizes.items) needed.items ≡ b → ltb (room sizes.expectations) needed.expectations ≡ c
          → ltb sizes.store needed.store ≡ d → (q ≡ r) × (needed.entries ≤ room sizes.entries) × (needed.expectations ≤ room sizes.expectations)
      go true b c d p o s t = let f = sym (fitted_by true b c d p o s t) ∙ e in let z : ◌≡◌ {A = ℕ} 0 1 = cc in absurd (omega arith)
      go false true c d p o s t = let f = sym (fitted_by false true c d p o s t) ∙ e in let z : ◌≡◌ {A = ℕ} 0 1 = cc in absurd (omega arith)
      go false false true d p o s t = let f = sym (fitted_by false false true d p o s t) ∙ e in let z : ◌≡◌ {A = ℕ} 0 1 = cc in absurd (omega arith)
      go false false false true p o s t = let f = sym (fitted_by false false false true p o s t) ∙ e in let z : ◌≡◌ {A = ℕ} 0 1 = cc in absurd (omega arith)
      go false false false false p o s t =
          let f = sym (fitted_by false false false false p o s t) ∙ e in
          let g : q ≡ r = cc in
          (g, ltb-false (room sizes.entries) needed.entries p, ltb-false (room sizes.expectations) needed.expectations s)

module _ (text : List ℕ) (r : Reading) where
  pub into_read : (sizes : Script.Counts) → read_into sizes text ≡ Ok r → Fitted sizes text r
  unfolding read_into parsed
  into_read sizes e = go (parsed_by plain_rules text) refl e
    where
      go : (p : Parsed Reading) → parsed_by plain_rules text ≡ p → elim p as (λ _. Parsed Reading) [ Err q ↦ Err q | Ok q ↦ fitted sizes q ] ≡ Ok r → Fitted sizes text r
      go (Err q) h f = let z : ◌≡◌ {A = ℕ} 0 1 = cc in absurd (omega arith)
      go (Ok q) h f = let w = fitted-read sizes q r f in let g : q ≡ r = w.0 in record { is-parsed = h ∙ ap (λ (x : Reading). Ok x) g; entries = rw g at w.1; expectations = rw g at w.2 }

  laid : (s : ScriptContents) → ((laid_script s).script.counts.entries ≡ length (laid_script s).tables.entries) × ((laid_script s).script.counts.expectations ≡ length (laid_script s).tables.expectations)
  unfolding laid_script
  laid s = (refl, refl)

  -- the script counts its tables
  pub counted-tables : parsed_by plain_rules text ≡ Ok r → (r.script.counts.entries ≡ length r.tables.entries) × (r.script.counts.expectations ≡ length r.tables.expectations)
  unfolding parsed_by
  counted-tables e = go (read_by plain_rules text) e
    where
      go : (p : Parsed ScriptContents) → elim p as (λ _. Parsed Reading) [ Err q ↦ Err q | Ok s ↦ Ok (laid_script s) ] ≡ Ok r
          → (r.script.counts.entries ≡ length r.tables.entries) × (r.script.counts.expectations ≡ length r.tables.expectations)
      go (Err q) f = let z : ◌≡◌ {A = ℕ} 0 1 = cc in absurd (omega arith)
      go (Ok s) f = let g : laid_script s ≡ r = cc in rw g at (laid s)

-- ---- what the lines say

module _ (text : List ℕ) where
  one_role : (n : ℕ) (x : Role) → length (expectation_of n x) ≤ 1
  unfolding expectation_of
  one_role n Nothing = omega arith
  one_role n (Says s) = omega arith
  one_role n (Expects e) = omega arith
  one_role n (Opens o) = omega arith
  one_role n (Bad b) = omega arith

  one_stated : (l : Line) → length (stated text l) ≤ 1
  unfolding stated
  one_stated l = one_role l.number (expect_role text (trimmed_line text l))

  few_stated : (ls : List Line) → length (stated_on text ls) ≤ length ls
  unfolding stated_on
  few_stated [] = omega arith
  few_stated (l ∷ ls) = omega (arith, length-append (stated text l) (stated_on text ls), one_stated l, few_stated ls)

  -- where every line states something, the expectations say what the lines say
  said_all : (ls : List Line) → length (stated_on text ls) ≡ length ls → said text (stated_on text ls) ≡ map (said_on text) ls
  unfolding stated_on said said_on
  said_all [] e = refl
  said_all (l ∷ ls) e = go (λ f. said_all ls f) (stated text l) refl
    where
      go : (length (stated_on text ls) ≡ length ls → said text (stated_on text ls) ≡ map (said_on text) ls) → (x : List Expectation) → stated text l ≡ x → said text (x ++ stated_on text ls) ≡ get_or (said text x) 0 (terminal []) ∷ map (said_on text) ls
      go ih [] f =
          let n : length (stated text l) ≡ 0 = ap length f in
          let z : ⊥ = omega (arith, length-append (stated text l) (stated_on text ls), few_stated ls) in absurd z
      go ih (y ∷ []) f =
          let n : length (stated text l) ≡ 1 = ap length f in
          ap (λ (es : List Expected). expected_of text y.expect ∷ es) (ih (omega (arith, length-append (stated text l) (stated_on text ls))))
      go ih (y ∷ z ∷ more) f =
          let n : length (stated text l) ≡ suc (suc (length more)) = ap length f in
          let w : ⊥ = omega (arith, one_stated l) in absurd w

-- ---- what lies inside

place_in_lem : (n : ℕ) (p : Place) → PlaceIn n p → place_in n p ≡ true
unfolding place_in inside
place_in_lem n p h = rw (le-leb p.start n (omega arith), le-leb p.len (n - p.start) (omega arith)) refl

matcher_in_lem : (n : ℕ) (m : Matcher) → MatcherIn n m → matcher_in n m ≡ true
unfolding matcher_in
matcher_in_lem n (Exact p) h = place_in_lem n p h
matcher_in_lem n (Regex p) h = place_in_lem n p h
matcher_in_lem n (GreaterThan k) h = refl
matcher_in_lem n (LessThan k) h = refl
matcher_in_lem n (GreaterOrEqual k) h = refl
matcher_in_lem n (LessOrEqual k) h = refl

expect_in_lem : (n : ℕ) (e : Expect) → ExpectIn n e → expect_in n e ≡ true
unfolding expect_in
expect_in_lem n (Terminal p) h = place_in_lem n p h
expect_in_lem n (Result m) h = matcher_in_lem n m h
expect_in_lem n (ResultField p m) h = rw (place_in_lem n p h.0) (matcher_in_lem n m h.1)
expect_in_lem n (Error m) h = matcher_in_lem n m h
expect_in_lem n (StderrCount m) h = matcher_in_lem n m h
expect_in_lem n (Daemon m) h = matcher_in_lem n m h
expect_in_lem n (Trust m) h = matcher_in_lem n m h
expect_in_lem n (ServerFeatures m) h = matcher_in_lem n m h

every_in : (text : List ℕ) (es : List Expectation) → AllIn (length text) es → all_in text es ≡ true
unfolding all_in
every_in text [] h = refl
every_in text (e ∷ es) h = rw (expect_in_lem (length text) e.expect h.0) (every_in text es h.1)

-- ---- the ranges

range_count : (b n : ℕ) → (range b n).count ≡ n
unfolding range
range_count b zero = refl
range_count b (suc n) = refl

range-first : (b n : ℕ) → 0 < (range b n).count → (range b n).first ≡ b
unfolding range
range-first b zero h = absurd (not-suc-le-zero h)
range-first b (suc n) h = refl

abbrev no_range : Items
no_range = record { first = 0; count = 0 }

module _ (says : Line → Expected) where
  -- the lines above the first opening line belong to the number so far
  leading_belong : (k : ℕ) (ps : List PlainLine) → leading ps ≡ length (belonging k (lines_by says k ps))
  unfolding leading belonging owned owners expectation_lines
  leading_belong k [] = refl
  leading_belong k (expects l ∷ ps) = rw (eq-eqb k k refl) (ap suc (leading_belong k ps))
  leading_belong k (opens ∷ ps) = rw (belonging-none k (suc k) (lines_by says (suc k) ps) (le_refl (suc k)) (lines_rise says (suc k) (suc k) ps (le_refl (suc k)))) refl
  leading_belong k (other ∷ ps) = leading_belong k ps

  -- number m, the i-th of those that follow, where k is the number so far and `at` lines came before
  range_at : (at k i m : ℕ) (ps : List PlainLine) → m ≡ suc (k + i) → i < opened ps
      → get_or (ranges_from at ps) i no_range ≡ range (at + earlier m (lines_by says k ps)) (length (belonging m (lines_by says k ps)))
  unfolding ranges_from opened earlier belonging owned owners expectation_lines
  range_at at k i m [] e h = absurd (not-suc-le-zero h)
  range_at at k i m (expects l ∷ ps) e h =
      rw (lt-ltb k m (omega arith), ne_eqb k m (λ z. omega arith))
      (range_at (suc at) k i m ps e h ∙ ap (λ (b : ℕ). range b (length (belonging m (lines_by says k ps)))) f)
    where
      f : suc at + earlier m (lines_by says k ps) ≡ at + suc (earlier m (lines_by says k ps))
      f = omega arith
  range_at at k zero m (opens ∷ ps) e h =
      let f : m ≡ suc k = omega arith in
      rw f (ap₂ range (omega (arith, earlier_none (suc k) (suc k) (lines_by says (suc k) ps) (le_refl (suc k)) (lines_rise says (suc k) (suc k) ps (le_refl (suc k))))) (leading_belong (suc k) ps))
  range_at at k (suc i) m (opens ∷ ps) e h = range_at at (suc k) i m ps (omega arith) (le_of_suc-le-suc h)
  range_at at k i m (other ∷ ps) e h = range_at at k i m ps e h

-- ---- a table once something stands at its front

module _ {A : Type 0} (xs t : List A) where
  front_taken : (n : ℕ) → length xs ≡ n → take n (written_at 0 xs t) ≡ xs
  unfolding written_at
  front_taken n e = take_at xs (drop (0 + length xs) t) n e

  front_at : (d : A) (i : ℕ) → i < length xs → get_or (written_at 0 xs t) i d ≡ get_or xs i d
  unfolding written_at
  front_at d i h = get_or-append xs (drop (0 + length xs) t) d i h

-- ---- all together

module _ (sizes : Script.Counts) (entries : List Entry) (expectations : List Expectation) (r : Reading) (k : Lent) (a : AsRead sizes entries expectations r k) where
  abbrev text : List ℕ
  text = k.text

  abbrev ps : List PlainLine
  ps = plain_lines text

  fits : Fitted sizes text r
  fits = into_read text r sizes a.is_read

  plain : AsPlain text r
  plain = as_plain plain_rules text r fits.is-parsed

  tables : (r.script.counts.entries ≡ length r.tables.entries) × (r.script.counts.expectations ≡ length r.tables.expectations)
  tables = counted-tables text r fits.is-parsed

  as_many : length (owned_lines text) ≡ length (expectation_lines ps)
  unfolding owned_lines
  as_many = sym (length-map (owned_lines text) said_of) ∙ ap length (lines-said (said_on text) _ ps) ∙ length-map (expectation_lines ps) (said_on text)

  expectations_are : length r.tables.expectations ≡ length (owned_lines text)
  expectations_are = plain.expectations ∙ sym as_many

  entries_are : length r.tables.entries ≡ entry_count text
  unfolding entry_count
  entries_are = plain.entries

  entries-room : length r.tables.entries ≤ length entries
  unfolding room
  entries-room = omega (arith, fits.entries, tables.0, a.entries-lent)

  expectations-room : length r.tables.expectations ≤ length expectations
  unfolding room
  expectations-room = omega (arith, fits.expectations, tables.1, a.expectations-lent)

  entries_long : length k.entries ≡ sizes.entries
  entries_long = ap length a.entries-left ∙ written_length 0 r.tables.entries entries (omega (arith, entries-room)) ∙ sym a.entries-lent

  expectations_long : length k.expectations ≡ sizes.expectations
  expectations_long = ap length a.expectations-left ∙ written_length 0 r.tables.expectations expectations (omega (arith, expectations-room)) ∙ sym a.expectations-lent

  used : take (length (owned_lines text)) k.expectations ≡ r.tables.expectations
  used = ap (take (length (owned_lines text))) a.expectations-left ∙ front_taken r.tables.expectations expectations (length (owned_lines text)) expectations_are

  rises : Rising 0 (owned_lines text)
  unfolding owned_lines
  rises = lines_rise (said_on text) 0 _ ps (omega arith)

  -- the range of each number
  range-is : (n : ℕ) (h : Handed) → Fits (entry_count text) n h → range_for k n h ≡ range (earlier n (owned_lines text)) (length (belonging n (owned_lines text)))
  unfolding range_for owned_lines entry_count
  range-is n (Info i) handshake =
      ap (λ s. s.preamble.expects) a.script
      ∙ plain.handshake
      ∙ ap₂ range (sym (earlier_none 0 0 (owned_lines text) (le_refl 0) rises)) (leading_belong (said_on text) 0 ps)
  range-is zero (Response x) x4 = elim x4 [ ]
  range-is (suc i) (Response x) (entry g) =
      let l : i < length r.tables.entries = omega (arith, plain.entries) in
      let m : suc i - 1 ≡ i = omega arith in
      ap (λ (n : ℕ). (get_or k.entries n blank_entry).expects) m
      ∙ ap (λ (es : List Entry). (get_or es i blank_entry).expects) a.entries-left
      ∙ ap (λ (e : Entry). e.expects) (front_at r.tables.entries entries blank_entry i l)
      ∙ sym (get_or-map (λ (e : Entry). e.expects) r.tables.entries i blank_entry)
      ∙ ap (λ (rs : List Items). get_or rs i no_range) plain.ranges
      ∙ range_at (said_on text) 0 0 i (suc i) ps (omega arith) (omega arith)
      ∙ ap (λ (b : ℕ). range b (length (belonging (suc i) (owned_lines text)))) z
    where
      z : 0 + earlier (suc i) (owned_lines text) ≡ earlier (suc i) (owned_lines text)
      z = omega arith

  all_said : said text r.tables.expectations ≡ map said_of (owned_lines text)
  unfolding owned_lines
  all_said =
      ap (said text) plain.stated
      ∙ said_all text (expectation_lines ps) (sym (ap length plain.stated) ∙ plain.expectations)
      ∙ sym (lines-said (said_on text) _ ps)

  pub read_agrees : Agrees k
  read_agrees = record {
    entries-counted = ap (λ s. s.counts.entries) a.script ∙ tables.0 ∙ entries_are;
    expectations-counted = ap (λ s. s.counts.expectations) a.script ∙ tables.1 ∙ expectations_are;
    entries_fit = rw (entries_long, ← entries_are, ← tables.0) fits.entries;
    expectations_fit = rw (expectations_long, ← expectations_are, ← tables.1) fits.expectations;
    sizes = λ n h f. rw (range-is n h f) (range_count _ _);
    firsts = λ n h f z. rw (range-is n h f) (range-first _ _ (rw (range-is n h f) at z));
    all_inside = rw used (every_in text r.tables.expectations plain.inside);
    as_lines = rw used all_said;
    rising = rises;
  }
