-- Laws of the walks over the pieces of a piece: the first item and the first word, and that those behind it are the ones of what stands behind it.
-- Assumes nothing.
use Rattle.std.specs.Prelude.{if◌then◌else◌, None, Option, Some}
use Prim.Native.Nat.{ℕ, zero, suc, ◌+◌, ◌-◌, ◌≤◌, ◌<◌}
use mathlib.Core.Path.{◌≡◌, refl, sym, ap, ◌∙◌}
use mathlib.Core.Bool.{Bool, true, false}
use mathlib.Core.List.{List, [], ◌∷◌, ◌++◌, map}
use native.Mathlib.Nat.{add-zero}
use native.Mathlib.Omega.{arith}
use lib.Dec.{eqb}
use lib.ListN.{length, take, drop, length-append}
use lib.Seq.{drop-drop}
use borrow.Author.Tests.{eq-eqb, ne_eqb, eqb-true, eqb-false}
use Rattle.std.specs.Iterator.{Yields, YieldsFirstBy, Drains}
use Rattle.std.proofs.lemmas.List.{drop-take, length-map}
use Rattle.text.specs.Parts.{span, part_of, position_from, position, split_from}
use Rattle.text.specs.Parts as Parts
use Rattle.text.specs.Words.{words_from, word_at}
use Rattle.text.specs.Words as Words
use Rattle.text.specs.Trim.{white_bytes, size_of}
use Rattle.text.specs.declared.parts.Part.{Part}
use Rattle.text.specs.declared.parts.Span.{Span}
use Rattle.text.proofs.Scan.{shift, never}
use Rattle.text.proofs.WordLaws as WordLaws
use Rattle.pieces.specs.declared.pieces.Piece.{Piece}
use Rattle.script.specs.Pieces.{place, bytes, is_empty, trim, split, words}
use Rattle.script.specs.Sets.{COMMA, non_empty, trimmed_items}
use Rattle.script.specs.Inside.{In}
use Rattle.script.proofs.Inside.{length-bytes}
use Rattle.written.specs.declared.Writer.{Writer}
use Rattle.written.specs.Writing.{Room, wrote}
use Rattle.tables.specs.Items.{item_of, items_for}
use Rattle.tables.specs.Walks.{place_of, PutsPlaces}

-- what stands behind the first k bytes of a piece
bytes-behind : (text : List ℕ) (p : Span) (k : ℕ) → p.start + k ≤ p.end → drop k (bytes text p) ≡ bytes text (span (p.start + k) p.end)
unfolding bytes
bytes-behind text p k h =
    let e : p.end - p.start ≡ k + (p.end - (p.start + k)) = omega arith in
    ap (λ (n : ℕ). drop k (take n (drop p.start text))) e
    ∙ drop-take k (p.end - (p.start + k)) (drop p.start text)
    ∙ ap (λ (s : List ℕ). take (p.end - (p.start + k)) s) (drop-drop k p.start text)

-- ---- the items between commas

-- a part counted from o on
abbrev part_place : ℕ → Part → Span
part_place o q = span (o + q.start) (o + q.end)

-- parts that are counted from k on, where the text begins at o
parts_moved : (b o k start at : ℕ) (s : List ℕ) → map (part_place o) (split_from b (k + start) (k + at) s) ≡ map (part_place (o + k)) (split_from b start at s)
unfolding split_from
parts_moved b o k start at [] =
    let p : o + (k + start) ≡ o + k + start = omega arith in
    let q : o + (k + at) ≡ o + k + at = omega arith in
    rw (p, q)
parts_moved b o k start at (x ∷ rest) = go (eqb x b) (parts_moved b o k (at + 1) (at + 1) rest) (parts_moved b o k start (at + 1) rest)
  where
    p : o + (k + start) ≡ o + k + start
    p = omega arith

    q : o + (k + at) ≡ o + k + at
    q = omega arith

    next : k + at + 1 ≡ k + (at + 1)
    next = omega arith

    go : (t : Bool) → map (part_place o) (split_from b (k + (at + 1)) (k + (at + 1)) rest) ≡ map (part_place (o + k)) (split_from b (at + 1) (at + 1) rest)
        → map (part_place o) (split_from b (k + start) (k + (at + 1)) rest) ≡ map (part_place (o + k)) (split_from b start (at + 1) rest)
        → map (part_place o) (if t then part_of (k + start) (k + at) true ∷ split_from b (k + at + 1) (k + at + 1) rest else split_from b (k + start) (k + at + 1) rest)
        ≡ map (part_place (o + k)) (if t then part_of start at true ∷ split_from b (at + 1) (at + 1) rest else split_from b start (at + 1) rest)
    go true ended longer = rw (p, q, next, ended)
    go false ended longer = rw next longer

-- the parts ps from a place on, by where the first b stands
record Cut (b start at : ℕ) (s : List ℕ) (f : Option ℕ) (ps : List Part) : Type 0 where
  none : f ≡ None → ps ≡ part_of start (at + length s) false ∷ []
  reach : (n : ℕ) → f ≡ Some n → at ≤ n
  some : (n : ℕ) → f ≡ Some n → ps ≡ part_of start n true ∷ split_from b (n + 1) (n + 1) (drop (n + 1 - at) s)

cut : (b start at : ℕ) (s : List ℕ) → Cut b start at s (position_from b at s) (split_from b start at s)
unfolding position_from split_from
cut b start at [] =
    record {
      none = λ e. rw (add-zero at);
      reach = λ n e. let z : ◌≡◌ {A = Bool} true false = cc in never z;
      some = λ n e. let z : ◌≡◌ {A = Bool} true false = cc in never z;
    }
cut b start at (x ∷ rest) = go (eqb x b) (cut b start (at + 1) rest)
  where
    go : (t : Bool) → Cut b start (at + 1) rest (position_from b (at + 1) rest) (split_from b start (at + 1) rest)
        → Cut b start at (x ∷ rest) (if t then Some at else position_from b (at + 1) rest) (if t then part_of start at true ∷ split_from b (at + 1) (at + 1) rest else split_from b start (at + 1) rest)
    go true later =
        record {
          none = λ e. let z : ◌≡◌ {A = Bool} true false = cc in never z;
          reach = λ n e. let f : at ≡ n = cc in omega arith;
          some = λ n e. let f : n ≡ at = cc in let one : at + 1 - at ≡ 1 = omega arith in rw (f, one);
        }
    go false later =
        record {
          none = λ e. let l : at + 1 + length rest ≡ at + suc (length rest) = omega arith in rw (← l) (later.none e);
          reach = λ n e. omega (arith, later.reach n e);
          some = λ n e. rw (← shift x rest at (n + 1) (omega (arith, later.reach n e))) (later.some n e);
        }

-- f is where the first comma stands
module _ (text : List ℕ) (p : Span) (f : Option ℕ) (i : In text p) (e : f ≡ position COMMA (bytes text p)) where
  parts : Cut COMMA 0 0 (bytes text p) f (split_from COMMA 0 0 (bytes text p))
  unfolding position
  parts = rw e (cut COMMA 0 0 (bytes text p))

  -- without one the piece is the only item
  pub items_last : f ≡ None → trimmed_items text p ≡ trim text p ∷ []
  unfolding trimmed_items split Parts.split
  items_last h =
      let a : p.start + 0 ≡ p.start = omega arith in
      let b : p.start + (0 + length (bytes text p)) ≡ p.end = omega (arith, length-bytes text p i, i.forward) in
      rw (parts.none h, a, b)

  -- else the first item stands before it, and the others behind it
  pub items_next : (n : ℕ) → f ≡ Some n → p.start + n < p.end → trimmed_items text p ≡ trim text (span p.start (p.start + n)) ∷ trimmed_items text (span (p.start + (n + 1)) p.end)
  unfolding trimmed_items split Parts.split
  items_next n h l =
      let a : p.start + 0 ≡ p.start = omega arith in
      let k : n + 1 + 0 ≡ n + 1 = omega arith in
      let m : n + 1 - 0 ≡ n + 1 = omega arith in
      let moved = rw k at (parts_moved COMMA p.start (n + 1) 0 0 (bytes text (span (p.start + (n + 1)) p.end))) in
      rw (parts.some n h, a, m, bytes-behind text p (n + 1) (omega arith), moved)

-- ---- the words

-- a word counted from o on
abbrev word_place : ℕ → Span → Span
word_place o q = span (o + q.start) (o + q.end)

same_test : (k start at : ℕ) → eqb (k + start) (k + at) ≡ eqb start at
same_test k start at = go (eqb start at) refl
  where
    go : (t : Bool) → eqb start at ≡ t → eqb (k + start) (k + at) ≡ t
    go true e = let d = eqb-true start at e in eq-eqb (k + start) (k + at) (omega arith)
    go false e = let d = eqb-false start at e in ne_eqb (k + start) (k + at) (λ g. d (omega arith))

last_moved : (o k start at : ℕ) (t : Bool) → map (word_place o) (if t then [] else (span (k + start) (k + at) ∷ [])) ≡ map (word_place (o + k)) (if t then [] else (span start at ∷ []))
last_moved o k start at true = refl
last_moved o k start at false =
    let p : o + (k + start) ≡ o + k + start = omega arith in
    let q : o + (k + at) ≡ o + k + at = omega arith in
    rw (p, q)

-- words that are counted from k on, where the text begins at o
words_moved : (o k skip start at : ℕ) (s : List ℕ) → map (word_place o) (words_from skip (k + start) (k + at) s) ≡ map (word_place (o + k)) (words_from skip start at s)
unfolding words_from
words_moved o k zero start at [] = rw (same_test k start at) (last_moved o k start at (eqb start at))
words_moved o k (suc n) start at [] = rw (same_test k start at) (last_moved o k start at (eqb start at))
words_moved o k (suc n) start at (x ∷ rest) =
    let next : k + at + 1 ≡ k + (at + 1) = omega arith in
    rw next (words_moved o k n (at + 1) (at + 1) rest)
words_moved o k zero start at (x ∷ rest) =
    let next : k + at + 1 ≡ k + (at + 1) = omega arith in
    rw (same_test k start at, next)
    (go (eqb (size_of white_bytes (x ∷ rest)) 0) (eqb start at)
    (words_moved o k 0 start (at + 1) rest)
    (words_moved o k (size_of white_bytes (x ∷ rest) - 1) (at + 1) (at + 1) rest))
  where
    n : ℕ
    n = size_of white_bytes (x ∷ rest) - 1

    p : o + (k + start) ≡ o + k + start
    p = omega arith

    q : o + (k + at) ≡ o + k + at
    q = omega arith

    go : (t u : Bool) → map (word_place o) (words_from 0 (k + start) (k + (at + 1)) rest) ≡ map (word_place (o + k)) (words_from 0 start (at + 1) rest)
        → map (word_place o) (words_from n (k + (at + 1)) (k + (at + 1)) rest) ≡ map (word_place (o + k)) (words_from n (at + 1) (at + 1) rest)
        → map (word_place o) (if t then words_from 0 (k + start) (k + (at + 1)) rest else if u then words_from n (k + (at + 1)) (k + (at + 1)) rest else (span (k + start) (k + at) ∷ words_from n (k + (at + 1)) (k + (at + 1)) rest))
        ≡ map (word_place (o + k)) (if t then words_from 0 start (at + 1) rest else if u then words_from n (at + 1) (at + 1) rest else (span start at ∷ words_from n (at + 1) (at + 1) rest))
    go true u longer apart = longer
    go false true longer apart = apart
    go false false longer apart = rw (p, q, apart)

-- w is the first word of s, the bytes of the piece
module _ (text : List ℕ) (p : Span) (s : List ℕ) (w : Span) (i : In text p) (k : s ≡ bytes text p) (e : w ≡ word_at s 0) where
  word : WordLaws.Known (bytes text p) 0 w
  word = WordLaws.known (bytes text p) 0 w (omega arith) (rw k at e)

  -- an empty one stands where there is none
  pub words_over : w.start ≡ w.end → words text p ≡ []
  unfolding words Words.words
  words_over h = rw (word.none h)

  -- it lies inside the piece
  pub word_fits : p.start + w.end ≤ p.end
  word_fits = omega (arith, word.inside, length-bytes text p i, i.forward)

  pub word_forward : p.start + w.start ≤ p.start + w.end
  word_forward = omega (arith, word.forward)

  pub words_next : (w.start ≡ w.end → ⊥) → words text p ≡ span (p.start + w.start) (p.start + w.end) ∷ words text (span (p.start + w.end) p.end)
  unfolding words Words.words
  words_next h =
      let z : w.end + 0 ≡ w.end = omega arith in
      let moved = rw z at (words_moved p.start w.end 0 0 0 (bytes text (span (p.start + w.end) p.end))) in
      rw (word.more h, bytes-behind text p w.end word_fits, moved)

-- ---- those that are not empty

pub filled_over : non_empty [] ≡ []
unfolding non_empty
filled_over = refl

pub filled_skip : (p : Span) (ps : List Span) → is_empty p ≡ true → non_empty (p ∷ ps) ≡ non_empty ps
unfolding non_empty
filled_skip p ps e = rw e

pub filled_next : (p : Span) (ps : List Span) → is_empty p ≡ false → non_empty (p ∷ ps) ≡ p ∷ non_empty ps
unfolding non_empty
filled_next p ps e = rw e

-- ---- an item for each piece

-- of none there is none
pub items_none : items_for (map place_of []) ≡ []
unfolding items_for
items_none = refl

-- one more
module _ (p : Piece) where
  pub items_more : (ps : List Piece) → items_for (map place_of (ps ++ (p ∷ []))) ≡ items_for (map place_of ps) ++ (item_of (place p.at) ∷ [])
  unfolding items_for
  items_more [] = refl
  items_more (q ∷ ps) = ap (λ (xs : List (List ℕ)). item_of (place q.at) ∷ xs) (items_more ps)

  pub one_longer : (ps : List Piece) → length (items_for (map place_of (ps ++ (p ∷ [])))) ≡ length (items_for (map place_of ps)) + 1
  one_longer ps = ap length (items_more ps) ∙ length-append (items_for (map place_of ps)) (item_of (place p.at) ∷ [])

-- ---- what the walks have given

pub items_length : (ps : List Span) → length (items_for ps) ≡ length ps
unfolding items_for
items_length ps = length-map (map place ps) item_of ∙ length-map ps place

-- there is room for an item for each piece
pub places_room : (xs : List (List ℕ)) (ps : List Span) (w : Writer (List ℕ)) → xs ≡ items_for ps → Room (length xs) w → Room (length ps) w
places_room xs ps w k h = omega (arith, ap length k, items_length ps)

module _ {S : Type 0} (rest : S → List Span) where
  gave : (ps : List Piece) (s t u : S) → Yields (YieldsFirstBy place_of rest) s ps t → YieldsFirstBy place_of rest t None u → map place_of ps ≡ rest s
  gave [] s t u y e = sym (ap rest y ∙ e.0)
  gave (p ∷ ps) s t u y e = ap (λ (l : List Span). p.at ∷ l) (gave ps y.0 t u y.2 e) ∙ sym y.1

  -- `count` has counted all that was left
  pub count_is : (s : S) (n : ℕ) → (ps : List Piece) × Drains (YieldsFirstBy place_of rest) s ps × (n ≡ length ps) → n ≡ length (rest s)
  count_is s n h = let d = h.1 in h.2 ∙ sym (length-map h.0 place_of) ∙ ap length (gave h.0 s d.1.0 d.0 d.1.1 d.1.2)

  -- `put_places` has written xs, the items of all that was left
  pub places_written : (s : S) (w after : Writer (List ℕ)) (xs : List (List ℕ)) → PutsPlaces (YieldsFirstBy place_of rest) s w after → xs ≡ items_for (rest s) → after ≡ wrote xs w
  places_written s w after xs h k =
      let d = h.1 in
      h.2 ∙ ap (λ (l : List (List ℕ)). wrote l w) (sym (k ∙ ap items_for (sym (gave h.0 s d.1.0 d.0 d.1.1 d.1.2))))
