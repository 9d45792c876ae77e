-- What Read's answer says of the reading. Assumes nothing.
use Rattle.std.specs.Prelude.{Err, Ok}
use Prim.Native.Nat.{ℕ}
use mathlib.Core.Path.{◌≡◌, refl, sym, ap, ◌∙◌}
use mathlib.Core.List.{List}
use native.Mathlib.Omega.{arith}
use Rattle.script.specs.Layout.{Reading}
use Rattle.script.specs.declared.records.Entry.{Entry}
use Rattle.script.specs.declared.records.Refusal.{Refusal}
use Rattle.script.specs.declared.records.Script.{Script}
use Rattle.written.specs.Written.{written_at}
use Rattle.read.specs.Read.{script_or, tables_or}
use Rattle.listing.proofs.TopLaws.{WasRead}
use Rattle.script.specs.Reading.{Parsed}

refused_as : (p : Parsed Reading) (q : Refusal) → Err q ≡ script_or p → p ≡ Err q
unfolding script_or
refused_as (Err z) q e = let k : z ≡ q = cc in ap Err k
refused_as (Ok r) q e = let z : ◌≡◌ {A = ℕ} 0 1 = cc in absurd (omega arith)

read_as : (p : Parsed Reading) (s : Script) → Ok s ≡ script_or p → WasRead p s
unfolding script_or
read_as (Err z) s e = let z : ◌≡◌ {A = ℕ} 0 1 = cc in absurd (omega arith)
read_as (Ok r) s e = let k : r.script ≡ s = cc in record { reading = r; was = refl; script-is = k }

-- a is Read's answer
module _ (p : Parsed Reading) (a : Parsed Script) (e : a ≡ script_or p) where
  pub was_refused : (q : Refusal) → a ≡ Err q → p ≡ Err q
  was_refused q h = refused_as p q (sym h ∙ e)

  module _ (s : Script) (h : a ≡ Ok s) where
    pub was_read : WasRead p s
    was_read = read_as p s (sym h ∙ e)

    -- the entries of the reading are written at the front of the table
    pub entries-in_front : (es first : List Entry) → es ≡ written_at 0 (tables_or p).entries first → es ≡ written_at 0 was_read.reading.tables.entries first
    unfolding tables_or
    entries-in_front es first d = d ∙ ap (λ (q : Parsed Reading). written_at 0 (tables_or q).entries first) was_read.was
