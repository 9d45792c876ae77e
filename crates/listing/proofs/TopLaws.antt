-- What is printed for a text is what reading it leaves, listed. Assumes nothing.
use Rattle.std.specs.Prelude.{Err, Ok}
use Prim.Native.Nat.{ℕ, ◌+◌, ◌*◌, ◌≤◌}
use mathlib.Core.Path.{◌≡◌, sym, ap, ◌∙◌}
use mathlib.Core.List.{List, ◌++◌}
use native.Mathlib.Nat.{zero-add}
use native.Mathlib.Omega.{arith}
use lib.ListN.{length, take, drop, length-append, length-drop}
use lib.Seq.{take-append_seam, length-take-le}
use borrow.Author.Tests.{le-leb}
use Rattle.text.specs.Base.{overlaid}
use Rattle.script.specs.Layout.{Reading}
use Rattle.script.specs.Reading.{read_into, Parsed}
use Rattle.script.specs.declared.records.Entry.{Entry}
use Rattle.script.specs.declared.records.Refusal.{Refusal}
use Rattle.script.specs.declared.records.Script.{Script}
use Rattle.written.specs.Written.{written_at}
use Rattle.printed.specs.Listing.{lent, header_line, entry_lines, refusal_line, listing, listing_of}
use Rattle.printed.specs.Room.{Front}
use Rattle.listing.proofs.ReadingLaws.{Fitting, fits}

-- at the front, a table written is one overlaid; it has room, since it keeps its length
module _ (xs t : List ℕ) where
  written_fits : length (written_at 0 xs t) ≡ length t → length xs ≤ length t
  unfolding written_at
  written_fits e = omega (arith, e, length-append xs (drop (0 + length xs) t), length-drop (0 + length xs) t)

  written_overlaid : length xs ≤ length t → written_at 0 xs t ≡ overlaid xs t
  unfolding written_at overlaid
  written_overlaid h = rw (le-leb (length xs) (length t) h, zero-add (length xs))

-- what is in the table once xs are written at its front
front : {A : Type 0} (xs t : List A) → take (length xs) (written_at 0 xs t) ≡ xs
unfolding written_at
front xs t = take-append_seam xs (drop (0 + length xs) t)

-- what is printed for a text stands at the front of t, which makes u; it has n bytes
abbrev pub Lists : (text t u : List ℕ) (n : ℕ) → Type 0
Lists text t u n = (n ≡ length (listing_of text)) × ((u ≡ overlaid (listing_of text) t) × Front n u)

in_front : (n : ℕ) (u : List ℕ) → n ≤ length u → Front n u
in_front n u h = (h, sym (length-take-le n u h))

lists : (text xs t u : List ℕ) (n : ℕ) → xs ≡ listing_of text → length u ≡ length t → n ≡ length xs → u ≡ written_at 0 xs t → Lists text t u n
lists text xs t u n e k c w =
    let room = written_fits xs t (sym (ap length w) ∙ k) in
    (c ∙ ap length e, (w ∙ written_overlaid xs t room ∙ ap (λ (ys : List ℕ). overlaid ys t) e, in_front n u (omega arith)))

-- a text that is refused
pub refused-lists : (text : List ℕ) (q : Refusal) → read_into lent text ≡ Err q
    → (t u : List ℕ) (n : ℕ) → length u ≡ length t → n ≡ length (refusal_line q) → u ≡ written_at 0 (refusal_line q) t → Lists text t u n
unfolding listing_of listing
refused-lists text q i t u n k c v = lists text (refusal_line q) t u n (sym (ap listing i)) k c v

-- a text that is read: its script, and the reading that it belongs to
pub record WasRead (p : Parsed Reading) (s : Script) : Type 0 where
  pub reading : Reading
  pub was : p ≡ Ok reading
  pub script-is : reading.script ≡ s

module _ (text : List ℕ) (s : Script) (w : WasRead (read_into lent text) s) where
  sound : Fitting lent w.reading
  sound = fits lent text w.reading w.was

  few : s.counts.entries ≤ 256
  few = rw w.script-is at sound.entries_fit

  -- what `list_script` asks: the table has 256 places, and there is room
  pub script_may : (m n : ℕ) → m ≡ 256 → n ≡ 16384 → (s.preamble.expects.count ≤ s.counts.expectations) × ((s.counts.entries ≤ m) × (139 + s.counts.entries * 63 ≤ n))
  script_may m n k l = (rw w.script-is at sound.whole.handshake_in, (omega (arith, few), omega (arith, few)))

  -- its entries stand at the front of the table
  module _ (es first : List Entry) (d : es ≡ written_at 0 w.reading.tables.entries first) where
    counted : s.counts.entries ≡ length w.reading.tables.entries
    counted = sym (rw w.script-is at sound.whole.entries_are)

    taken : take s.counts.entries es ≡ w.reading.tables.entries
    taken =
        ap (take s.counts.entries) d
        ∙ ap (λ (k : ℕ). take k (written_at 0 w.reading.tables.entries first)) counted
        ∙ front w.reading.tables.entries first

    pub script-lists : (t u : List ℕ) (n : ℕ) → length u ≡ length t
        → n ≡ length (header_line s ++ entry_lines (take s.counts.entries es)) → u ≡ written_at 0 (header_line s ++ entry_lines (take s.counts.entries es)) t → Lists text t u n
    unfolding listing_of listing
    script-lists t u n k c v =
        let same : header_line s ++ entry_lines (take s.counts.entries es) ≡ listing_of text =
        ap (λ (xs : List Entry). header_line s ++ entry_lines xs) taken
        ∙ ap (λ (z : Script). header_line z ++ entry_lines w.reading.tables.entries) (sym w.script-is)
        ∙ sym (ap listing w.was) in
        lists text (header_line s ++ entry_lines (take s.counts.entries es)) t u n same k c v
