-- Every text that is read has its tables as the plain judge's lines ask for them. Assumes nothing.
use mathlib.Core.Path.{◌≡◌, refl, sym, ap, ap₂, ◌∙◌, subst⁻¹}
use mathlib.Core.Bool.{Bool, true, false, not, false≢true}
use mathlib.Core.List.{List, [], ◌∷◌, ◌++◌, map}
use Prim.Native.Nat.{ℕ, suc, ◌+◌, ◌≤◌}
use native.Mathlib.Omega.{arith}
use lib.ListN.{length}
use lib.Dec.{eqb, ltb}
use borrow.Author.Tests.{eq-eqb, ltb-false}
use Rattle.std.specs.Prelude.{if◌then◌else◌, Err, None, Ok, Option, Some}
use Rattle.text.specs.Base.{LF, CR}
use Rattle.text.specs.Utf8.{well_formed}
use Rattle.text.specs.Lines.{line, lines_from, lines}
use Rattle.text.specs.declared.lines.Line.{Line}
use Rattle.script.specs.Values.{Rules}
use Rattle.script.specs.Roles.{step_of, Marked, roles_from, roles}
use Rattle.script.specs.declared.roles.Where.{Where}
use Rattle.script.specs.declared.roles.Where.TheVariants.{InPreamble}
use Rattle.script.specs.declared.roles.Role.{Role}
use Rattle.script.specs.declared.roles.Role.TheVariants.{Nothing, Says, Expects, Opens, Bad}
use Rattle.script.specs.Contents.{ScriptContents, expectation_of, expectations, is_opening, lead, entry_of, entry_on, entries, preamble_of, contents}
use Rattle.script.specs.Layout.{Reading, range, listed, tables_from, laid_preamble, laid_script}
use Rattle.script.specs.Reading.{refused_by, first_refused, read_marked, read_by, parsed_by, Parsed}
use Rattle.script.specs.Refusals.{refusal}
use Rattle.script.specs.Plain.{PlainLine, expects, opens, other, Standing, above, plain_step, plain_from, plain_lines, opened, expectation_lines, stated_on, leading, ranges_from}
use Rattle.script.specs.Bridge.{AsPlain, Few}
use Rattle.script.specs.Inside.{AllIn}
use Rattle.script.proofs.Inside.{all_in}
use Rattle.script.specs.declared.records.Items.{Items}
use Rattle.script.specs.declared.records.Expectation.{Expectation}
use Rattle.script.specs.declared.records.Refusal.{Refusal}
use Rattle.script.proofs.Agreement.{standing, plain_of, is_bad, stated_in, agree}
use Rattle.script.specs.declared.refusals.Reason.TheVariants.{NotUtf8, TextTooLong}

zero_one : ◌≡◌ {A = ℕ} 0 1 → ⊥
zero_one e = omega arith

-- no refused line: the first is not, and no later one
not_bad : (line : ℕ) (r : Role) (later : Option Refusal) → refused_by line r later ≡ None → (is_bad r ≡ false) × (later ≡ None)
unfolding refused_by
not_bad line Nothing later h = (refl, h)
not_bad line (Says s) later h = (refl, h)
not_bad line (Expects e) later h = (refl, h)
not_bad line (Opens o) later h = (refl, h)
not_bad line (Bad n) later h = let z : ◌≡◌ {A = ℕ} 0 1 = cc in absurd (zero_one z)

-- the lines ps are those that the reading marks ms
data Seen (text : List ℕ) : List Marked → List PlainLine → Type 0 where
  nil : Seen text [] []
  cons : (l : Line) (r : Role) {ms : List Marked} {ps : List PlainLine} → Seen text ms ps → expectation_of l.number r ≡ stated_in text (plain_of l r)
      → Seen text (record { line = l.number; role = r } ∷ ms) (plain_of l r ∷ ps)

-- the plain judge sees just these
seen : (rules : Rules) (text : List ℕ) (w : Where) (ls : List Line) → first_refused (roles_from rules text w ls) ≡ None → Seen text (roles_from rules text w ls) (plain_from text (standing w) ls)
unfolding first_refused roles_from plain_from
seen rules text w [] h = nil
seen rules text w (l ∷ ls) h =
    let (ok, later) = not_bad l.number (step_of rules text w l).role _ h in
    let a = agree text l rules w ok in
    rw (sym a.mark, sym a.next)
    (cons l (step_of rules text w l).role (seen rules text (step_of rules text w l).next ls later) (a.same ∙ ap (stated_in text) (sym a.mark)))

-- ---- counts

-- one expectation for each expectation line
seen_expectations : {text : List ℕ} {ms : List Marked} {ps : List PlainLine} → Seen text ms ps → expectations ms ≡ stated_on text (expectation_lines ps)
unfolding expectations stated_on expectation_lines expectation_of
seen_expectations nil = refl
seen_expectations (cons l Nothing s e) = seen_expectations s
seen_expectations (cons l (Says x) s e) = seen_expectations s
seen_expectations (cons l (Expects x) s e) = ap₂ (λ (a b : List Expectation). a ++ b) e (seen_expectations s)
seen_expectations (cons l (Opens o) s e) = seen_expectations s
seen_expectations (cons l (Bad n) s e) = seen_expectations s

seen_lines : {text : List ℕ} {ms : List Marked} {ps : List PlainLine} → Seen text ms ps → length (expectations ms) ≡ length (expectation_lines ps)
unfolding expectations expectation_lines expectation_of
seen_lines nil = refl
seen_lines (cons l Nothing s e) = seen_lines s
seen_lines (cons l (Says x) s e) = seen_lines s
seen_lines (cons l (Expects x) s e) = ap suc (seen_lines s)
seen_lines (cons l (Opens o) s e) = seen_lines s
seen_lines (cons l (Bad n) s e) = seen_lines s

seen_leading : {text : List ℕ} {ms : List Marked} {ps : List PlainLine} → Seen text ms ps → length (expectations (lead ms)) ≡ leading ps
unfolding expectations lead is_opening leading expectation_of
seen_leading nil = refl
seen_leading (cons l Nothing s e) = seen_leading s
seen_leading (cons l (Says x) s e) = seen_leading s
seen_leading (cons l (Expects x) s e) = ap suc (seen_leading s)
seen_leading (cons l (Opens o) s e) = refl
seen_leading (cons l (Bad n) s e) = seen_leading s

module _ (rules : Rules) where
  -- one entry for each opening line
  seen_entries : {text : List ℕ} {ms : List Marked} {ps : List PlainLine} → Seen text ms ps → (i x b : ℕ) → length (tables_from i x b (entries rules text ms)).entries ≡ opened ps
  unfolding entries entry_on entry_of tables_from opened
  seen_entries nil i x b = refl
  seen_entries (cons l Nothing s e) i x b = seen_entries s i x b
  seen_entries (cons l (Says y) s e) i x b = seen_entries s i x b
  seen_entries (cons l (Expects y) s e) i x b = seen_entries s i x b
  seen_entries (cons l (Opens o) s e) i x b = ap suc (seen_entries s _ _ _)
  seen_entries (cons l (Bad n) s e) i x b = seen_entries s i x b

  -- the entries' expectations, behind those above the first opening line, are all
  seen_all : {text : List ℕ} {ms : List Marked} {ps : List PlainLine} → Seen text ms ps → (i x b : ℕ)
      → expectations (lead ms) ++ (tables_from i x b (entries rules text ms)).expectations ≡ expectations ms
  unfolding entries entry_on entry_of tables_from expectations lead is_opening expectation_of
  seen_all nil i x b = refl
  seen_all (cons l Nothing s e) i x b = seen_all s i x b
  seen_all (cons l (Says y) s e) i x b = seen_all s i x b
  seen_all (cons l (Expects y) s e) i x b = ap (λ (xs : List Expectation). record { line = l.number; expect = y } ∷ xs) (seen_all s i x b)
  seen_all (cons l (Opens o) s e) i x b = seen_all s _ _ _
  seen_all (cons l (Bad n) s e) i x b = seen_all s i x b

  -- each entry's range
  seen_ranges : {text : List ℕ} {ms : List Marked} {ps : List PlainLine} → Seen text ms ps → (i x b at : ℕ) → x ≡ at + leading ps
      → map (λ e. e.expects) (tables_from i x b (entries rules text ms)).entries ≡ ranges_from at ps
  unfolding entries entry_on entry_of tables_from ranges_from leading listed
  seen_ranges nil i x b at h = refl
  seen_ranges (cons l Nothing s e) i x b at h = seen_ranges s i x b at h
  seen_ranges (cons l (Says y) s e) i x b at h = seen_ranges s i x b at h
  seen_ranges (cons l (Expects y) s e) i x b at h = seen_ranges s i x b (suc at) (omega arith)
  seen_ranges (cons l (Opens o) s e) i x b at h =
      ap₂ (λ (a : Items) (as' : List Items). a ∷ as')
      (ap₂ range (omega arith) (seen_leading s))
      (seen_ranges s _ _ _ at (omega (arith, seen_leading s)))
  seen_ranges (cons l (Bad n) s e) i x b at h = seen_ranges s i x b at h

  -- what marked lines that are read hold
  held : (text : List ℕ) → first_refused (roles rules text (lines text)) ≡ None → AsPlain text (laid_script (contents rules text (roles rules text (lines text))))
  unfolding laid_script contents laid_preamble preamble_of roles plain_lines listed
  held text h =
      let s = seen rules text InPreamble (lines text) h in
      let f = seen_all s _ _ _ ∙ seen_expectations s in
      record {
        entries = seen_entries s _ _ _;
        expectations = ap length (seen_all s _ _ _) ∙ seen_lines s;
        stated = f;
        inside = subst⁻¹ (λ (es : List Expectation). AllIn (length text) es) f (all_in text);
        handshake = ap (range 0) (seen_leading s);
        ranges = seen_ranges s _ _ _ 0 (seen_leading s ∙ omega arith);
      }

  -- ---- from the reading to the marked lines

  marked-read : (text : List ℕ) (s : ScriptContents) (o : Option Refusal) → first_refused (roles rules text (lines text)) ≡ o
      → ◌≡◌ {A = Parsed ScriptContents} (elim o [ None ↦ Ok (contents rules text (roles rules text (lines text))) | Some r ↦ Err r ]) (Ok s) → AsPlain text (laid_script s)
  marked-read text s None h e = let f : contents rules text (roles rules text (lines text)) ≡ s = cc in rw f at (held text h)
  marked-read text s (Some r) h e = let z : ◌≡◌ {A = ℕ} 0 1 = cc in absurd (zero_one z)

  text-read : (text : List ℕ) (s : ScriptContents) (long ill : Bool)
      → ◌≡◌ {A = Parsed ScriptContents} (if long then Err (refusal TextTooLong 0) else if ill then Err (refusal NotUtf8 0) else read_marked rules text (roles rules text (lines text))) (Ok s)
      → AsPlain text (laid_script s)
  unfolding read_marked
  text-read text s true ill e = let z : ◌≡◌ {A = ℕ} 0 1 = cc in absurd (zero_one z)
  text-read text s false true e = let z : ◌≡◌ {A = ℕ} 0 1 = cc in absurd (zero_one z)
  text-read text s false false e = marked-read text s (first_refused (roles rules text (lines text))) refl e

  laid-read : (text : List ℕ) (r : Reading) (p : Parsed ScriptContents) → read_by rules text ≡ p
      → ◌≡◌ {A = Parsed Reading} (elim p [ Err q ↦ Err q | Ok s ↦ Ok (laid_script s) ]) (Ok r) → AsPlain text r
  unfolding read_by
  laid-read text r (Err q) h e = let z : ◌≡◌ {A = ℕ} 0 1 = cc in absurd (zero_one z)
  laid-read text r (Ok s) h e = let f : laid_script s ≡ r = cc in rw f at (text-read text s (ltb 0x8000 (length text)) (not (well_formed text)) h)

  -- Every text that is read, by the rules of any edition, has its tables as the plain judge's lines ask for them.
  pub as_plain : (text : List ℕ) (r : Reading) → parsed_by rules text ≡ Ok r → AsPlain text r
  unfolding parsed_by
  as_plain text r h = laid-read text r (read_by rules text) refl h

-- ---- counts

-- at most one line for each byte
few_lines : (number start at end : ℕ) (xs : List ℕ) → (length (lines_from number start at end xs) ≤ length xs + 1) × (start ≡ at → length (lines_from number start at end xs) ≤ length xs)
unfolding lines_from
few_lines number start at end [] = go (eqb start at) refl
  where
    go : (b : Bool) → eqb start at ≡ b → (length (if b then [] else (line number start at at ∷ [])) ≤ 0 + 1) × (start ≡ at → length (if b then [] else (line number start at at ∷ [])) ≤ 0)
    go true e = (omega arith, λ h. omega arith)
    go false e = (omega arith, λ h. absurd (false≢true (sym e ∙ eq-eqb start at h)))
few_lines number start at end (x ∷ xs) =
    go (eqb x LF) ((few_lines (number + 1) (at + 1) (at + 1) (at + 1) xs).1 refl) (few_lines number start (at + 1) (if eqb x CR then at else at + 1) xs).0
  where
    ended : List Line
    ended = line number start end (at + 1) ∷ lines_from (number + 1) (at + 1) (at + 1) (at + 1) xs

    longer : List Line
    longer = lines_from number start (at + 1) (if eqb x CR then at else at + 1) xs

    go : (b : Bool) → length (lines_from (number + 1) (at + 1) (at + 1) (at + 1) xs) ≤ length xs → length longer ≤ length xs + 1
        → (length (if b then ended else longer) ≤ suc (length xs) + 1) × (start ≡ at → length (if b then ended else longer) ≤ suc (length xs))
    go true f g = (omega arith, λ h. omega arith)
    go false f g = (omega arith, λ h. omega arith)

length-plain : (text : List ℕ) (w : Standing) (ls : List Line) → length (plain_from text w ls) ≡ length ls
unfolding plain_from
length-plain text w [] = refl
length-plain text w (l ∷ ls) = ap suc (length-plain text (plain_step text w l).next ls)

few_opened : (ps : List PlainLine) → opened ps ≤ length ps
unfolding opened
few_opened [] = omega arith
few_opened (expects l ∷ ps) = omega (arith, few_opened ps)
few_opened (opens ∷ ps) = omega (arith, few_opened ps)
few_opened (other ∷ ps) = omega (arith, few_opened ps)

few_expectations : (ps : List PlainLine) → length (expectation_lines ps) ≤ length ps
unfolding expectation_lines
few_expectations [] = omega arith
few_expectations (expects l ∷ ps) = omega (arith, few_expectations ps)
few_expectations (opens ∷ ps) = omega (arith, few_expectations ps)
few_expectations (other ∷ ps) = omega (arith, few_expectations ps)

-- a text of at most 32,768 bytes has no more lines
pub few : (text : List ℕ) → length text ≤ 0x8000 → Few text
unfolding plain_lines lines
few text h =
    let a : length (plain_from text above (lines_from 1 0 0 0 text)) ≤ 0x8000
    = omega (arith, length-plain text above (lines_from 1 0 0 0 text), (few_lines 1 0 0 0 text).1 refl) in
    record {
      entries = omega (arith, few_opened (plain_from text above (lines_from 1 0 0 0 text)));
      expectations = omega (arith, few_expectations (plain_from text above (lines_from 1 0 0 0 text)));
    }

-- and a text that is read has no more bytes
pub few_read : (rules : Rules) (text : List ℕ) (s : ScriptContents) → read_by rules text ≡ Ok s → length text ≤ 0x8000
unfolding read_by
few_read rules text s h = go (ltb 0x8000 (length text)) refl h
  where
    go : (b : Bool) → ltb 0x8000 (length text) ≡ b
        → (if b then Err (refusal TextTooLong 0) else if not (well_formed text) then Err (refusal NotUtf8 0) else read_marked rules text (roles rules text (lines text))) ≡ Ok s
        → length text ≤ 0x8000
    go true e f = let z : ◌≡◌ {A = ℕ} 0 1 = cc in absurd (zero_one z)
    go false e f = omega (arith, ltb-false)

pub few_parsed : (rules : Rules) (text : List ℕ) (r : Reading) → parsed_by rules text ≡ Ok r → Few text
unfolding parsed_by
few_parsed rules text r h = go (read_by rules text) refl h
  where
    go : (p : Parsed ScriptContents) → read_by rules text ≡ p → ◌≡◌ {A = Parsed Reading} (elim p [ Err q ↦ Err q | Ok s ↦ Ok (laid_script s) ]) (Ok r) → Few text
    go (Err q) e f = let z : ◌≡◌ {A = ℕ} 0 1 = cc in absurd (zero_one z)
    go (Ok s) e f = few text (few_read rules text s e)
