-- Lists of texts, one text after the other: how long they are, and how they are written. Assumes nothing.
use Rattle.std.specs.Prelude.{Option, Some}
use Prim.Native.Nat.{ℕ, ◌+◌, ◌≤◌, ◌<◌}
use mathlib.Core.Path.{◌≡◌, refl, sym, ap, ◌∙◌}
use mathlib.Core.List.{List, [], ◌∷◌, ◌++◌, append-nil, append_assoc}
use native.Mathlib.Numerals.{add-one}
use native.Mathlib.Omega.{arith}
use lib.ListN.{length, take, drop, get_or, length-append, take-append-drop}
use lib.Seq.{take-suc, take_all}
use Rattle.std.proofs.lemmas.List.{map-append}
use Rattle.text.specs.Literal.{utf8}
use Rattle.text.specs.Unicode.{encoded}
use Rattle.text.proofs.LiteralLaws.{codes}
use Rattle.written.specs.declared.Writer.{Writer}
use Rattle.written.specs.Writing.{Room, wrote}
use Rattle.written.proofs.WriterLaws.{wrote_none, room_front, room_behind, wrote_behind}
use Rattle.verdicts.specs.Held.{item_text}
use Rattle.verdicts.specs.Lookup.{joined, bracketed, braced}
use Rattle.writing.specs.Room.{left, less_by}
use Rattle.writing.proofs.RoomLaws.{less_more}
use Rattle.lists.specs.Lists.{item_texts, behind}

-- the first, then the others, `, ` in front of each
pub joined-behind : (x : List ℕ) (xs : List (List ℕ)) → joined (x ∷ xs) ≡ x ++ behind xs
unfolding joined behind
joined-behind x [] = sym (append-nil x)
joined-behind x (y ∷ ys) =
    ap (λ (l : List ℕ). x ++ utf8 ", " ++ l) (joined-behind y ys)
    ∙ append_assoc x (utf8 ", ") (y ++ behind ys)
    ∙ ap (λ (l : List ℕ). x ++ l) (sym (append_assoc (utf8 ", ") y (behind ys)))

pub comma_length : (x later : List ℕ) → length (utf8 ", " ++ x ++ later) ≡ 2 + length x + length later
unfolding utf8 encoded
comma_length x later = let e = length-append x later in omega arith

pub bracketed-length : (xs : List (List ℕ)) → length (bracketed xs) ≡ 2 + length (joined xs)
unfolding bracketed utf8 encoded
bracketed-length xs = let e = length-append (joined xs) (0x5D ∷ []) in omega arith

pub braced-length : (xs : List (List ℕ)) → length (braced xs) ≡ 4 + length (joined xs)
unfolding braced utf8 encoded
braced-length xs = let e = length-append (joined xs) (0x20 ∷ 0x7D ∷ []) in omega arith

-- ---- the room that a list in brackets leaves, and one in braces

module _ (room : ℕ) (a r : Option ℕ) (texts : List (List ℕ)) (q : r ≡ less_by a (length (joined texts))) where
  pub bracketed-room : a ≡ less_by (Some room) 2 → r ≡ left room (length (bracketed texts))
  unfolding less_by
  bracketed-room p =
      q ∙ ap (λ (y : Option ℕ). less_by y (length (joined texts))) p ∙ less_more (Some room) 2 (length (joined texts)) ∙ ap (left room) (sym (bracketed-length texts))

  pub braced-room : a ≡ less_by (Some room) 4 → r ≡ left room (length (braced texts))
  unfolding less_by
  braced-room p =
      q ∙ ap (λ (y : Option ℕ). less_by y (length (joined texts))) p ∙ less_more (Some room) 4 (length (joined texts)) ∙ ap (left room) (sym (braced-length texts))

-- ---- a list is written

behind_append : (xs ys : List (List ℕ)) → behind (xs ++ ys) ≡ behind xs ++ behind ys
unfolding behind
behind_append [] ys = refl
behind_append (x ∷ xs) ys = ap (λ (l : List ℕ). utf8 ", " ++ x ++ l) (behind_append xs ys) ∙ sym (append_assoc (utf8 ", " ++ x) (behind xs) (behind ys))

behind_one : (x : List ℕ) → behind (x ∷ []) ≡ codes ", " ++ x
unfolding behind utf8 encoded
behind_one x = append-nil (codes ", " ++ x)

-- the texts of the first i items are written, `, ` in front of each
module _ (bytes : List ℕ) (items : List (List ℕ)) (i : ℕ) (w v : Writer ℕ) (p : v ≡ wrote (behind (item_texts bytes (take i items))) w) (room : Room (length (behind (item_texts bytes items))) w) where
  abbrev first : ℕ → List ℕ
  first n = behind (item_texts bytes (take n items))

  pub behind_all : length items ≤ i → v ≡ wrote (behind (item_texts bytes items)) w
  behind_all h = p ∙ ap (λ (l : List (List ℕ)). wrote (behind (item_texts bytes l)) w) (take_all i items h)

  module _ (h : i < length items) (x : List ℕ) (k : x ≡ item_text bytes (get_or items i [])) where
    whole : (n : ℕ) → behind (item_texts bytes items) ≡ first n ++ behind (item_texts bytes (drop n items))
    whole n =
        ap (λ (l : List (List ℕ)). behind (item_texts bytes l)) (sym (take-append-drop n items))
        ∙ ap behind (map-append (item_text bytes) (take n items) (drop n items))
        ∙ behind_append (item_texts bytes (take n items)) (item_texts bytes (drop n items))

    more : first (i + 1) ≡ first i ++ (codes ", " ++ x)
    more =
        ap (λ (l : List (List ℕ)). behind (item_texts bytes l)) (ap (λ (n : ℕ). take n items) (add-one i) ∙ take-suc items i [] h)
        ∙ ap behind (map-append (item_text bytes) (take i items) (get_or items i [] ∷ []))
        ∙ behind_append (item_texts bytes (take i items)) (item_text bytes (get_or items i []) ∷ [])
        ∙ ap (λ (l : List ℕ). first i ++ l) (ap (λ (y : List ℕ). behind (y ∷ [])) (sym k) ∙ behind_one x)

    step : first (i + 1) ≡ first i ++ codes ", " ++ x
    step = more ∙ sym (append_assoc (first i) (codes ", ") x)

    fits : Room (length (first (i + 1))) w
    fits = room_front (first (i + 1)) (behind (item_texts bytes (drop (i + 1) items))) (behind (item_texts bytes items)) w (whole (i + 1)) room

    comma_fits : Room (length (first i ++ codes ", ")) w
    comma_fits = room_front (first i ++ codes ", ") x (first (i + 1)) w step fits

    pub comma_room : Room 2 v
    comma_room = room_behind (first i) w v p (codes ", ") (first i ++ codes ", ") refl comma_fits

    module _ (u : Writer ℕ) (q : u ≡ wrote (codes ", ") v) where
      so : u ≡ wrote (first i ++ codes ", ") w
      so = wrote_behind (first i) w v p (codes ", ") (first i ++ codes ", ") refl comma_fits u q

      pub text_room : Room (length x) u
      text_room = room_behind (first i ++ codes ", ") w u so x (first (i + 1)) step fits

      pub text_wrote : (z : Writer ℕ) → z ≡ wrote x u → z ≡ wrote (first (i + 1)) w
      text_wrote = wrote_behind (first i ++ codes ", ") w u so x (first (i + 1)) step fits

-- the first, which is x, and the others behind it
module _ (bytes : List ℕ) (items : List (List ℕ)) (w : Writer ℕ) where
  pub joined_none : length items ≡ 0 → w ≡ wrote (joined (item_texts bytes items)) w
  unfolding joined
  joined_none e = wrote_none w ∙ ap (λ (xs : List ℕ). wrote xs w) (sym (none items e))
    where
      none : (l : List (List ℕ)) → length l ≡ 0 → joined (item_texts bytes l) ≡ []
      none [] e = refl
      none (x ∷ xs) e = absurd (omega arith)

  module _ (item : List ℕ) (rest : List (List ℕ)) (e : items ≡ item ∷ rest) (x : List ℕ) (k : x ≡ item_text bytes item) (room : Room (length (joined (item_texts bytes items))) w) where
    both_are : joined (item_texts bytes items) ≡ x ++ behind (item_texts bytes rest)
    both_are =
        ap (λ (l : List (List ℕ)). joined (item_texts bytes l)) e
        ∙ joined-behind (item_text bytes item) (item_texts bytes rest)
        ∙ ap (λ (y : List ℕ). y ++ behind (item_texts bytes rest)) (sym k)

    pub one_room : Room (length x) w
    one_room = room_front x (behind (item_texts bytes rest)) _ w both_are room

    module _ (v : Writer ℕ) (p : v ≡ wrote x w) where
      pub rest_room : Room (length (behind (item_texts bytes rest))) v
      rest_room = room_behind x w v p (behind (item_texts bytes rest)) _ both_are room

      pub joined_wrote : (u : Writer ℕ) → u ≡ wrote (behind (item_texts bytes rest)) v → u ≡ wrote (joined (item_texts bytes items)) w
      joined_wrote = wrote_behind x w v p (behind (item_texts bytes rest)) _ both_are room

pub bracketed_is : (xs : List (List ℕ)) → bracketed xs ≡ codes "[" ++ joined xs ++ codes "]"
unfolding bracketed utf8 encoded
bracketed_is xs = refl

pub braced_is : (xs : List (List ℕ)) → braced xs ≡ codes "{ " ++ joined xs ++ codes " }"
unfolding braced utf8 encoded
braced_is xs = refl
