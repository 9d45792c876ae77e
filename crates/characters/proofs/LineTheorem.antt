-- THE THEOREM OF LINES: every line of a well-formed text is well formed. A line is cut off at an LF, which stands inside no character. Assumes nothing.
use Prim.Native.Nat.{ℕ, zero, suc, ◌+◌, ◌-◌, ◌≤◌, ◌<◌}
use mathlib.Core.Path.{◌≡◌, refl, sym, ◌∙◌}
use mathlib.Core.Bool.{Bool, true, false}
use mathlib.Core.List.{List, [], ◌∷◌, ◌++◌}
use native.Mathlib.Omega.{arith}
use native.Mathlib.Nat.{le_refl}
use native.Mathlib.Numerals.{add-one}
use lib.Dec.{eqb, leb, ltb}
use lib.ListN.{length, get_or, take, drop, length-drop}
use lib.Seq.{take_all, get_or-drop, split_at, drop-drop}
use borrow.Author.Tests.{leb-true, ltb-true, ltb-false, eqb-true, eqb-false}
use Rattle.text.proofs.Scan.{both, never, rest-none, within_low}
use Rattle.text.proofs.Utf8Laws.{after_ascii}
use Rattle.text.proofs.LineLaws.{lines_at, known, lines_none, end_begun, over, at_lf, at_other}
use Rattle.std.specs.Prelude.{if◌then◌else◌, None, Option, Some}
use Rattle.text.specs.Base.{◌&◌, within, part, LF, CR}
use Rattle.text.specs.Utf8.{Range, Row, table, after, well_formed_from, well_formed}
use Rattle.text.specs.declared.lines.Line.{Line}
use Rattle.text.specs.Lines.{line, line_from, line_at, line_bytes, lines}
use Rattle.text.specs.LinesWalk.{end_at}

-- ---- a text cut at an ASCII byte

-- no byte that follows a first one is ASCII
high : List Range → Bool
high [] = true
high (r ∷ rs) = leb 0x80 r.lo & high rs

high_rows : List Row → Bool
high_rows [] = true
high_rows (r ∷ rows) = high r.following & high_rows rows

after_high : (rows : List Row) (x : ℕ) (due : List Range) → high_rows rows ≡ true → after rows x ≡ Some due → high due ≡ true
unfolding after high_rows
after_high [] x due h e = let z : ◌≡◌ {A = Bool} true false = cc in never z
after_high (r ∷ rows) x due h e = let p = both (high r.following) (high_rows rows) h in go (within r.first.lo r.first.hi x) e p.0 (after_high rows x due p.1)
  where
    go : (b : Bool) → (if b then Some r.following else after rows x) ≡ Some due → high r.following ≡ true → (after rows x ≡ Some due → high due ≡ true) → high due ≡ true
    go true e h ih = let f : r.following ≡ due = cc in rw (← f) h
    go false e h ih = ih e

table_high : (x : ℕ) (due : List Range) → after table x ≡ Some due → high due ≡ true
unfolding high_rows high table
table_high x due e = after_high table x due refl e

cut_from : (a : List ℕ) (due : List Range) (c : ℕ) (b : List ℕ) → high due ≡ true → c < 0x80 → well_formed_from due (a ++ c ∷ b) ≡ true
    → (well_formed_from due a ≡ true) × (well_formed_from [] b ≡ true)
unfolding well_formed_from high
cut_from [] [] c b h l w = (refl, rw (after_ascii c l, well_formed_from) at w)
cut_from [] (r ∷ due) c b h l w =
    let p = leb-true 0x80 r.lo (both _ _ h).0 in
    never (sym (rw (within_low r.lo r.hi c (omega arith)) at w))
cut_from (x ∷ a) [] c b h l w = go (after table x) refl (λ due k. cut_from a due c b k l)
  where
    go : (o : Option (List Range)) → after table x ≡ o
        → ((due : List Range) → high due ≡ true → well_formed_from due (a ++ c ∷ b) ≡ true → (well_formed_from due a ≡ true) × (well_formed_from [] b ≡ true))
        → (well_formed_from [] (x ∷ a) ≡ true) × (well_formed_from [] b ≡ true)
    go None e ih = never (sym (rw (e, well_formed_from) at w))
    go (Some due) e ih = let p = ih due (table_high x due e) (rw (e, well_formed_from) at w) in (rw (e, well_formed_from) p.0, p.1)
cut_from (x ∷ a) (r ∷ due) c b h l w =
    let p = both (within r.lo r.hi x) (well_formed_from due (a ++ c ∷ b)) w in
    let ih = cut_from a due c b (both (leb 0x80 r.lo) (high due) h).1 l p.1 in
    (rw p.0 ih.0, ih.1)

-- what stands before an ASCII byte, and what stands after it, is well formed
pub cut : (a : List ℕ) (c : ℕ) (b : List ℕ) → c < 0x80 → well_formed (a ++ c ∷ b) ≡ true → (well_formed a ≡ true) × (well_formed b ≡ true)
unfolding well_formed high
cut a c b l w = cut_from a [] c b refl l w

-- the same of a text cut at the place i
cut_at : (s : List ℕ) (i c : ℕ) → i < length s → get_or s i 0 ≡ c → c < 0x80 → well_formed s ≡ true → (well_formed (take i s) ≡ true) × (well_formed (drop (i + 1) s) ≡ true)
cut_at s i c h e l w = cut (take i s) c (drop (i + 1) s) l (rw (← e, add-one i, ← split_at s i 0 h) w)

-- ---- a line of a well-formed text

-- where a line ends: at an LF, or with the text
data Ends (text : List ℕ) (number start : ℕ) (l : Line) : Type 0 where
  lf : (i : ℕ) → start ≤ i → i < length text → get_or text i 0 ≡ LF → line number start (end_at text start i) (i + 1) ≡ l → Ends text number start l
  text_end : line number start (length text) (length text) ≡ l → Ends text number start l

module _ (text : List ℕ) (number start : ℕ) (l : Line) where
  -- by how many bytes are left
  ends_from : (k i : ℕ) → i + k ≡ length text → start ≤ i → line_from number start i (end_at text start i) (drop i text) ≡ l → Ends text number start l
  ends_from zero i e h q = let f : i ≡ length text = omega arith in text_end (rw (← f) (over text number start i l (omega arith) q))
  ends_from (suc k) i e h q = go (eqb (get_or text i 0) LF) refl (λ r. ends_from k (i + 1) (omega arith) (omega arith) r)
    where
      go : (b : Bool) → eqb (get_or text i 0) LF ≡ b → (line_from number start (i + 1) (end_at text start (i + 1)) (drop (i + 1) text) ≡ l → Ends text number start l) → Ends text number start l
      go true t ih = let x = eqb-true (get_or text i 0) LF t in lf i h (omega arith) x (at_lf text number start i l (omega arith) x q _ refl)
      go false t ih = ih (at_other text number start i l h (omega arith) (eqb-false (get_or text i 0) LF t) q)

ends : (text : List ℕ) (at number : ℕ) → at ≤ length text → Ends text number at (line_at text at number)
unfolding line_at
ends text at number h = ends_from text number at _ (length text - at) at (omega arith) (le_refl at) (rw (end_begun text at))

-- what is well formed of a line l: its bytes, and the text from the next line on
abbrev Formed : List ℕ → Line → Type 0
Formed text l = (well_formed (line_bytes text l) ≡ true) × (well_formed (drop l.next text) ≡ true)

module _ (text : List ℕ) (number start : ℕ) (w : well_formed (drop start text) ≡ true) where
  at_place : (i : ℕ) → start ≤ i → get_or (drop start text) (i - start) 0 ≡ get_or text i 0
  at_place i h = let e : start + (i - start) ≡ i = omega arith in rw (get_or-drop start text (i - start) 0, e)

  -- cut at a place of the text
  at_byte : (i c : ℕ) → start ≤ i → i < length text → get_or text i 0 ≡ c → c < 0x80
      → (well_formed (part text start (i - start)) ≡ true) × (well_formed (drop (i + 1) text) ≡ true)
  at_byte i c h g x l =
      let e : start + (i - start + 1) ≡ i + 1 = omega arith in
      let p = cut_at (drop start text) (i - start) c (rw (length-drop start text) (omega arith)) (at_place i h ∙ x) l w in
      (p.0, rw (drop-drop (i - start + 1) start text, e) at p.1)

  formed_lf : (i : ℕ) → start ≤ i → i < length text → get_or text i 0 ≡ LF → Formed text (line number start (end_at text start i) (i + 1))
  unfolding end_at
  formed_lf i h g x = go (ltb start i) refl (eqb (get_or text (i - 1) 0) CR) refl
    where
      go : (a : Bool) → ltb start i ≡ a → (b : Bool) → eqb (get_or text (i - 1) 0) CR ≡ b
          → Formed text (line number start (if a & b then i - 1 else i) (i + 1))
      go true p true q =
          let s = ltb-true start i p in
          ((at_byte (i - 1) CR (omega arith) (omega arith) (eqb-true (get_or text (i - 1) 0) CR q) (omega arith)).0, (at_byte i LF h g x (omega arith)).1)
      go true p false q = at_byte i LF h g x (omega arith)
      go false p b q = at_byte i LF h g x (omega arith)

  formed_end : start ≤ length text → Formed text (line number start (length text) (length text))
  unfolding well_formed well_formed_from
  formed_end h =
      let e : take (length text - start) (drop start text) ≡ drop start text = take_all (length text - start) (drop start text) (omega (arith, length-drop start text)) in
      (rw e w, rw (rest-none text (length text) (le_refl (length text))))

pub line_is_well_formed : (text : List ℕ) (at number : ℕ) → at ≤ length text → well_formed (drop at text) ≡ true → Formed text (line_at text at number)
line_is_well_formed text at number h w = go (line_at text at number) (ends text at number h)
  where
    go : (l : Line) → Ends text number at l → Formed text l
    go l (lf i g k x e) = rw (← e) (formed_lf text number at w i g k x)
    go l (text_end e) = rw (← e) (formed_end text number at w h)

-- all lines of a list are well formed
unfoldable pub all_formed : List ℕ → List Line → Bool
all_formed text [] = true
all_formed text (l ∷ ls) = well_formed (line_bytes text l) & all_formed text ls

formed_from : (text : List ℕ) (k at number : ℕ) → length text - at ≤ k → at ≤ length text → well_formed (drop at text) ≡ true → all_formed text (lines_at text at number) ≡ true
unfolding all_formed
formed_from text zero at number b h w = rw (lines_none text at number (omega arith))
formed_from text (suc k) at number b h w = go (ltb at (length text)) refl (λ n p q r. formed_from text k n (number + 1) p q r)
  where
    l : Line
    l = line_at text at number

    go : (t : Bool) → ltb at (length text) ≡ t
        → ((n : ℕ) → length text - n ≤ k → n ≤ length text → well_formed (drop n text) ≡ true → all_formed text (lines_at text n (number + 1)) ≡ true)
        → all_formed text (lines_at text at number) ≡ true
    go true e ih =
        let i = ltb-true at (length text) e in
        let m = known text at number l i refl in
        let f = line_is_well_formed text at number h w in
        rw (m.more, f.0) (ih l.next (omega (arith, m.later)) m.within f.1)
    go false e ih = rw (lines_none text at number (ltb-false at (length text) e))

pub lines_are_well_formed : (text : List ℕ) → well_formed text ≡ true → all_formed text (lines text) ≡ true
unfolding lines
lines_are_well_formed text w = formed_from text (length text) 0 1 (omega arith) (omega arith) w
