-- What holds of a text that is read into lent tables: its entries are as many as its script says, they find room, and the preamble's expectations are among
-- all. Assumes nothing.
use Rattle.std.specs.Prelude.{Err, Ok}
use Prim.Native.Nat.{ℕ, zero, suc, ◌≤◌, min}
use mathlib.Core.Path.{◌≡◌, refl}
use mathlib.Core.Bool.{Bool, true, false}
use mathlib.Core.List.{List}
use native.Mathlib.Omega.{arith}
use lib.Dec.{ltb}
use lib.ListN.{length, length-append}
use borrow.Author.Tests.{ltb-false}
use Rattle.script.specs.Answers.{first_of}
use Rattle.script.specs.Contents.{ScriptContents}
use Rattle.script.specs.Layout.{Reading, range, listed, laid_preamble, laid_script}
use Rattle.script.specs.Reading.{read_by, parsed_by, parsed, room, too_few, fitted, read_into, Parsed}
use Rattle.script.specs.Values.{plain_rules}
use Rattle.script.specs.declared.records.Counts.{Counts}

pub record Whole (r : Reading) : Type 0 where
  pub entries_are : length r.tables.entries ≡ r.script.counts.entries
  pub handshake_in : r.script.preamble.expects.count ≤ r.script.counts.expectations

pub record Fitting (lent : Counts) (r : Reading) : Type 0 where
  pub whole : Whole r
  pub entries_fit : r.script.counts.entries ≤ lent.entries

-- of a text that is not refused
abbrev pub IfRead : (Reading → Type 0) → Parsed Reading → Type 0
IfRead P (Err q) = Unit {0}
IfRead P (Ok r) = P r

range_count : (before n : ℕ) → (range before n).count ≡ n
unfolding range
range_count before zero = refl
range_count before (suc n) = refl

laid_whole : (s : ScriptContents) → Whole (laid_script s)
unfolding laid_script laid_preamble listed
laid_whole s = record {
  entries_are = refl;
  handshake_in = simp length-append (omega (arith, range_count 0 (length s.preamble.expects)));
}

parsed_whole : (text : List ℕ) → IfRead Whole (parsed text)
unfolding parsed parsed_by
parsed_whole text = go (read_by plain_rules text)
  where
    go : (p : Parsed ScriptContents) → IfRead Whole (elim p as (λ _. Parsed Reading) [ Err r ↦ Err r | Ok s ↦ Ok (laid_script s) ])
    go (Err r) = tt
    go (Ok s) = laid_whole s

module _ (lent : Counts) (r : Reading) (w : Whole r) where
  fitted-fits : IfRead (Fitting lent) (fitted lent r)
  unfolding fitted too_few first_of room
  fitted-fits = entries (ltb (min 0x8000 lent.entries) r.script.counts.entries) refl
    where
      few : ltb (min 0x8000 lent.entries) r.script.counts.entries ≡ false → Fitting lent r
      few e = record { whole = w; entries_fit = omega (arith, ltb-false (min 0x8000 lent.entries) r.script.counts.entries e) }

      store : ltb (min 0x8000 lent.entries) r.script.counts.entries ≡ false → ltb (min 0x8000 lent.items) r.script.counts.items ≡ false → ltb (min 0x8000 lent.expectations) r.script.counts.expectations ≡ false → (b : Bool) → ltb lent.store r.script.counts.store ≡ b → IfRead (Fitting lent) (fitted lent r)
      store e i x true s = rw (e, i, x, s) tt
      store e i x false s = rw (e, i, x, s) (few e)

      expectations : ltb (min 0x8000 lent.entries) r.script.counts.entries ≡ false → ltb (min 0x8000 lent.items) r.script.counts.items ≡ false → (b : Bool) → ltb (min 0x8000 lent.expectations) r.script.counts.expectations ≡ b → IfRead (Fitting lent) (fitted lent r)
      expectations e i true x = rw (e, i, x) tt
      expectations e i false x = store e i x (ltb lent.store r.script.counts.store) refl

      items : ltb (min 0x8000 lent.entries) r.script.counts.entries ≡ false → (b : Bool) → ltb (min 0x8000 lent.items) r.script.counts.items ≡ b → IfRead (Fitting lent) (fitted lent r)
      items e true i = rw (e, i) tt
      items e false i = expectations e i (ltb (min 0x8000 lent.expectations) r.script.counts.expectations) refl

      entries : (b : Bool) → ltb (min 0x8000 lent.entries) r.script.counts.entries ≡ b → IfRead (Fitting lent) (fitted lent r)
      entries true e = rw e tt
      entries false e = items e (ltb (min 0x8000 lent.items) r.script.counts.items) refl

read_fits : (lent : Counts) (text : List ℕ) → IfRead (Fitting lent) (read_into lent text)
unfolding read_into
read_fits lent text = go (parsed text) (parsed_whole text)
  where
    go : (p : Parsed Reading) → IfRead Whole p → IfRead (Fitting lent) (elim p as (λ _. Parsed Reading) [ Err r ↦ Err r | Ok r ↦ fitted lent r ])
    go (Err q) w = tt
    go (Ok r) w = fitted-fits lent r w

-- a text that is read
pub fits : (lent : Counts) (text : List ℕ) (r : Reading) → read_into lent text ≡ Ok r → Fitting lent r
fits lent text r e = rw e at (read_fits lent text)
