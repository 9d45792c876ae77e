-- Document 01: the reading of a text, and Measure's refusals. Assumes nothing.
use Rattle.std.specs.Prelude.{ℕ, min, not, List, [], ◌∷◌, map, length, ltb, if◌then◌else◌, Err, None, Ok, Option, Result, Some}
use Rattle.text.specs.Utf8.{well_formed}
use Rattle.text.specs.Lines.{lines}
use Rattle.script.specs.Answers.{first_of}
use Rattle.script.specs.Refusals.{refusal}
use Rattle.script.specs.declared.refusals.Reason.{Reason}
use Rattle.script.specs.Values.{Rules, plain_rules}
use Rattle.script.specs.Roles.{Marked, roles}
use Rattle.script.specs.declared.roles.Role.{Role}
use Rattle.script.specs.declared.roles.Role.TheVariants.{Nothing, Says, Expects, Opens, Bad}
use Rattle.script.specs.Contents.{ScriptContents, contents}
use Rattle.script.specs.Layout.{Reading, laid_script}
use Rattle.script.specs.declared.records.Counts.{Counts}
use Rattle.script.specs.declared.records.Refusal.{Refusal}
use Rattle.script.specs.declared.refusals.Reason.TheVariants.{FewEntries, FewExpectations, FewItems, FewStoreBytes, NotUtf8, TextTooLong}

-- a text is refused, for a reason and with a line, or read
abbrev pub Parsed : (A : Type 0) → Type 0
Parsed A = Result A Refusal

-- the first refused line
unfoldable pub refused_by : (line : ℕ) → Role → Option Refusal → Option Refusal
refused_by line Nothing later = later
refused_by line (Says s) later = later
refused_by line (Expects e) later = later
refused_by line (Opens o) later = later
refused_by line (Bad n) later = Some (refusal n.reason line)

unfoldable pub first_refused : List Marked → Option Refusal
first_refused [] = None
first_refused (m ∷ ms) = refused_by m.line m.role (first_refused ms)

-- a text of marked lines
unfoldable pub read_marked : Rules → (text : List ℕ) → List Marked → Parsed ScriptContents
read_marked rules text ms = elim (first_refused ms) [ None ↦ Ok (contents rules text ms) | Some r ↦ Err r ]

-- what a text holds. 1: text too long; 2: not UTF-8; then the first refused line
unfoldable pub read_by : Rules → List ℕ → Parsed ScriptContents
read_by rules text =
    let marked = read_marked rules text (roles rules text (lines text)) in
    if ltb 0x8000 (length text) then Err (refusal TextTooLong 0)
    else if not (well_formed text) then Err (refusal NotUtf8 0)
    else marked

-- and how it stands in the tables
unfoldable pub parsed_by : Rules → List ℕ → Parsed Reading
parsed_by rules text = elim (read_by rules text) [ Err r ↦ Err r | Ok s ↦ Ok (laid_script s) ]

-- the reading of a text, by the rules of document 01
unfoldable pub parsed : List ℕ → Parsed Reading
parsed text = parsed_by plain_rules text

-- ---- Measure and Read

-- Measure gives the counts only
unfoldable pub measured : List ℕ → Parsed Counts
measured text = elim (parsed text) [ Err r ↦ Err r | Ok r ↦ Ok r.script.counts ]

-- Only the first 32,768 records of any lent table count.
unfoldable pub room : ℕ → ℕ
room n = min 0x8000 n

-- Too few places: 21 entries, 22 items, 23 expectations, 24 store bytes; line 0. `lent` is what the caller lends.
unfoldable pub too_few : Reason → (needed lent : ℕ) → Option Refusal
too_few reason needed lent = if ltb lent needed then Some (refusal reason 0) else None

unfoldable pub fitted : (lent : Counts) → Reading → Parsed Reading
fitted lent r =
    let needed = r.script.counts in
    let refusals =
    too_few FewEntries needed.entries (room lent.entries)
    ∷ too_few FewItems needed.items (room lent.items)
    ∷ too_few FewExpectations needed.expectations (room lent.expectations)
    ∷ too_few FewStoreBytes needed.store lent.store
    ∷ [] in
    first_of (map refusal_or refusals) (Ok r)
  where
    refusal_or : Option Refusal → Option (Parsed Reading)
    refusal_or None = None
    refusal_or (Some q) = Some (Err q)

unfoldable pub read_into : (lent : Counts) → List ℕ → Parsed Reading
read_into lent text = elim (parsed text) [ Err r ↦ Err r | Ok r ↦ fitted lent r ]
