-- The room that a list of texts leaves: text by text it is what their joined length leaves. Assumes nothing.
use Rattle.std.specs.Prelude.{Option}
use Prim.Native.Nat.{ℕ, ◌+◌, ◌≤◌, ◌<◌}
use mathlib.Core.Path.{◌≡◌, sym, ap, ◌∙◌}
use mathlib.Core.List.{List, [], ◌∷◌}
use native.Mathlib.Numerals.{add-one}
use native.Mathlib.Omega.{arith}
use lib.ListN.{length, drop, get_or, length-append, drop_of_length-le}
use lib.Seq.{drop-cons}
use Rattle.verdicts.specs.Held.{item_text}
use Rattle.verdicts.specs.Lookup.{joined}
use Rattle.writing.specs.Room.{less_by}
use Rattle.writing.proofs.RoomLaws.{less_none, less_more}
use Rattle.lists.specs.Lists.{item_texts, behind}
use Rattle.lists.proofs.JoinedLaws.{joined-behind, comma_length}

-- what a list of texts leaves, `, ` in front of each
abbrev pub left_behind : Option ℕ → List (List ℕ) → Option ℕ
left_behind room texts = less_by room (length (behind texts))

behind_none : (room : Option ℕ) → left_behind room [] ≡ room
unfolding behind
behind_none room = less_none room

behind_some : (room : Option ℕ) (x : List ℕ) (xs : List (List ℕ)) → left_behind (less_by room (2 + length x)) xs ≡ left_behind room (x ∷ xs)
unfolding behind
behind_some room x xs = less_more room (2 + length x) (length (behind xs)) ∙ ap (less_by room) (sym (comma_length x (behind xs)))

module _ (bytes : List ℕ) (items : List (List ℕ)) (room whole : Option ℕ) (i : ℕ) (e : left_behind room (item_texts bytes (drop i items)) ≡ whole) where
  pub room_on : (next : Option ℕ) (x : List ℕ) → i < length items → x ≡ item_text bytes (get_or items i []) → next ≡ less_by room (2 + length x) → left_behind next (item_texts bytes (drop (i + 1) items)) ≡ whole
  room_on next x h k q =
      let d : drop i items ≡ get_or items i [] ∷ drop (i + 1) items = drop-cons items i [] h ∙ ap (λ (n : ℕ). get_or items i [] ∷ drop n items) (sym (add-one i)) in
      ap (λ (r : Option ℕ). left_behind r (item_texts bytes (drop (i + 1) items))) (q ∙ ap (λ (y : List ℕ). less_by room (2 + length y)) k)
      ∙ behind_some room (item_text bytes (get_or items i [])) (item_texts bytes (drop (i + 1) items))
      ∙ ap (λ (l : List (List ℕ)). left_behind room (item_texts bytes l)) (sym d)
      ∙ e

  pub room_over : length items ≤ i → room ≡ whole
  room_over h = sym (ap (λ (l : List (List ℕ)). left_behind room (item_texts bytes l)) (drop_of_length-le items h) ∙ behind_none room) ∙ e

pub joined_none : (room : Option ℕ) (bytes : List ℕ) (items : List (List ℕ)) → length items ≡ 0 → room ≡ less_by room (length (joined (item_texts bytes items)))
unfolding joined
joined_none room bytes [] e = sym (less_none room)
joined_none room bytes (item ∷ rest) e = absurd (omega arith)

pub joined_some : (room a b : Option ℕ) (bytes item : List ℕ) (rest items : List (List ℕ)) (x : List ℕ) → items ≡ item ∷ rest → x ≡ item_text bytes item → a ≡ less_by room (length x)
    → b ≡ left_behind a (item_texts bytes rest) → b ≡ less_by room (length (joined (item_texts bytes items)))
joined_some room a b bytes item rest items x e k p q =
    let y = item_text bytes item in
    let ys = item_texts bytes rest in
    q
    ∙ ap (λ (r : Option ℕ). left_behind r ys) (p ∙ ap (λ (l : List ℕ). less_by room (length l)) k)
    ∙ less_more room (length y) (length (behind ys))
    ∙ ap (less_by room) (sym (length-append y (behind ys)) ∙ ap length (sym (joined-behind y ys) ∙ ap (λ (l : List (List ℕ)). joined (item_texts bytes l)) (sym e)))
