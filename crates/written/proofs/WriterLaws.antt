-- Laws of a writer: what it wrote, one behind the other, and the room that is left. Assumes nothing.
use Prim.Native.Nat.{ℕ, ◌+◌, ◌-◌, ◌≤◌, ◌<◌}
use mathlib.Core.Path.{◌≡◌, refl, sym, ap, ◌∙◌}
use mathlib.Core.List.{List, [], ◌∷◌, ◌++◌, flat_map, append_assoc, append-nil}
use native.Mathlib.Nat.{add-zero, zero-add}
use native.Mathlib.Numerals.{add-one}
use native.Mathlib.Omega.{arith}
use lib.ListN.{length, take, drop, get_or, set, length-append, length-drop, take-append-drop}
use lib.Seq.{take-suc, take_all, drop-drop}
use borrow.Rule.Slice.PartMut.{mid_of, put_mid}
use borrow.Author.Tests.{le-leb}
use denote.MutBor.{MutBor, at_last}
use Rattle.std.proofs.lemmas.Grind.{flat_map-append}
use Rattle.text.specs.Base.{overlaid}
use Rattle.written.specs.declared.Writer.{Writer}
use Rattle.written.specs.Written.{written_at}
use Rattle.written.specs.Writing.{writer, Room, wrote, before}
use Rattle.written.proofs.WrittenLaws.{written_none, written_one, written_twice, written_length, part_written}

module _ {A : Type 0} where
  -- the writer at another table and place
  abbrev pub onto : Writer A → (t : List A) (at : ℕ) → Writer A
  onto w t at = record { out = at_last w.out t; at = at }

  -- nothing
  pub wrote_none : (w : Writer A) → w ≡ wrote [] w
  unfolding wrote
  wrote_none w = rw (written_none w.at w.out.now, add-zero w.at)

  pub none_wrote : (xs : List A) (w : Writer A) → xs ≡ [] → w ≡ wrote xs w
  none_wrote xs w e = rw e (wrote_none w)

  -- one
  pub wrote_one : (x : A) (w : Writer A) → Room 1 w → onto w (set w.out.now w.at x) (w.at + 1) ≡ wrote (x ∷ []) w
  unfolding wrote
  wrote_one x w h = ap (λ (t : List A). onto w t (w.at + 1)) (sym (written_one w.at x w.out.now (omega arith)))

  -- all of a word
  pub wrote_word : (xs ys : List A) (k : ℕ) (w : Writer A) → ys ≡ xs → k ≡ length xs → onto w (put_mid w.at k w.out.now ys) (w.at + length xs) ≡ wrote xs w
  unfolding wrote written_at
  wrote_word xs ys k w e f =
      ap (λ (t : List A). onto w t (w.at + length xs))
      (rw (e, f, drop-drop (length xs) w.at w.out.now) (sym (append_assoc (take w.at w.out.now) xs (drop (w.at + length xs) w.out.now))))

  -- the same elements have the same room, and are written alike
  module _ (xs ys : List A) (e : xs ≡ ys) (w : Writer A) where
    pub room_as : Room (length ys) w → Room (length xs) w
    room_as h = omega (arith, ap length e)

    pub wrote_as : (v : Writer A) → v ≡ wrote xs w → v ≡ wrote ys w
    wrote_as v p = p ∙ ap (λ (l : List A). wrote l w) e

  -- room for both is room for the first
  pub room_front : (xs ys zs : List A) (w : Writer A) → zs ≡ xs ++ ys → Room (length zs) w → Room (length xs) w
  room_front xs ys zs w e h = omega (arith, ap length e ∙ length-append xs ys)

  -- xs are written by w, which makes v
  module _ (xs : List A) (w v : Writer A) (p : v ≡ wrote xs w) where
    pub wrote_at : v.at ≡ w.at + length xs
    unfolding wrote
    wrote_at = ap (λ (u : Writer A). u.at) p

    -- the slice keeps its length
    pub wrote_length : Room (length xs) w → length v.out.now ≡ length w.out.now
    unfolding wrote
    wrote_length h = ap (λ (u : Writer A). length u.out.now) p ∙ written_length w.at xs w.out.now h

    -- the room that is left
    pub room_left : (n : ℕ) → Room (length xs + n) w → Room n v
    room_left n h = let k : Room (length xs) w = omega arith in omega (arith, wrote_at, wrote_length k)

    -- zs, which are xs and ys behind them
    module _ (ys zs : List A) (e : zs ≡ xs ++ ys) (h : Room (length zs) w) where
      pub room_behind : Room (length ys) v
      room_behind = room_left (length ys) (omega (arith, ap length e ∙ length-append xs ys))

      pub wrote_behind : (u : Writer A) → u ≡ wrote ys v → u ≡ wrote zs w
      unfolding wrote
      wrote_behind u q =
          let l = ap length e ∙ length-append xs ys in
          q
          ∙ ap (wrote ys) p
          ∙ ap (λ (t : List A). onto w t (w.at + length xs + length ys)) (written_twice w.at xs ys w.out.now (omega arith))
          ∙ ap (onto w (written_at w.at (xs ++ ys) w.out.now)) (omega (arith, length-append xs ys))
          ∙ ap (λ (l : List A). wrote l w) (sym e)

-- two, one after the other
module _ {A : Type 0} (x y : A) (w v : Writer A) (p : v ≡ wrote (x ∷ []) w) (room : Room 2 w) where
  pub pair_room : Room 1 v
  pair_room = room_left (x ∷ []) w v p 1 room

  pub pair_wrote : (u : Writer A) → u ≡ wrote (y ∷ []) v → u ≡ wrote (x ∷ y ∷ []) w
  pair_wrote = wrote_behind (x ∷ []) w v p (y ∷ []) (x ∷ y ∷ []) refl room

-- a body between two words
module _ {A : Type 0} (front body back all : List A) (e : all ≡ front ++ body ++ back) (w : Writer A) (room : Room (length all) w) where
  both_fit : Room (length (front ++ body)) w
  both_fit = room_front (front ++ body) back all w e room

  pub front_room : Room (length front) w
  front_room = room_front front body (front ++ body) w refl both_fit

  module _ (v : Writer A) (p : v ≡ wrote front w) where
    pub body_room : Room (length body) v
    body_room = room_behind front w v p body (front ++ body) refl both_fit

    module _ (u : Writer A) (q : u ≡ wrote body v) where
      both : u ≡ wrote (front ++ body) w
      both = wrote_behind front w v p body (front ++ body) refl both_fit u q

      pub back_room : Room (length back) u
      back_room = room_behind (front ++ body) w u both back all e room

      pub wrapped : (z : Writer A) → z ≡ wrote back u → z ≡ wrote all w
      wrapped = wrote_behind (front ++ body) w u both back all e room

-- of two lists, that of the one behind that of the other
pub flat_append : {A B : Type 0} (f : A → List B) (xs ys : List A) → flat_map f (xs ++ ys) ≡ flat_map f xs ++ flat_map f ys
unfolding flat_map
flat_append f xs ys = flat_map-append f xs ys

-- what stands for no element is nothing
pub each_none : {A B : Type 0} (f : A → List B) (w : Writer B) → w ≡ wrote (flat_map f []) w
unfolding flat_map
each_none f w = wrote_none w

-- a loop that writes what stands for each element: that of the first i is written
module _ {A B : Type 0} (f : A → List B) (xs : List A) (i : ℕ) (w v : Writer B) (p : v ≡ wrote (flat_map f (take i xs)) w) (room : Room (length (flat_map f xs)) w) where
  pub each_all : length xs ≤ i → v ≡ wrote (flat_map f xs) w
  each_all h = p ∙ ap (λ (l : List A). wrote (flat_map f l) w) (take_all i xs h)

  module _ (d : A) (h : i < length xs) (ys : List B) (e : ys ≡ f (get_or xs i d)) where
    each_more : flat_map f (take (i + 1) xs) ≡ flat_map f (take i xs) ++ ys
    unfolding flat_map
    each_more =
        ap (λ (l : List A). flat_map f l) (ap (λ (n : ℕ). take n xs) (add-one i) ∙ take-suc xs i d h)
        ∙ flat_map-append f (take i xs) (get_or xs i d ∷ [])
        ∙ ap (λ (l : List B). flat_map f (take i xs) ++ l) (append-nil (f (get_or xs i d)) ∙ sym e)

    each_fits : Room (length (flat_map f (take (i + 1) xs))) w
    unfolding flat_map
    each_fits =
        room_front (flat_map f (take (i + 1) xs)) (flat_map f (drop (i + 1) xs)) (flat_map f xs) w
        (ap (flat_map f) (sym (take-append-drop (i + 1) xs)) ∙ flat_map-append f (take (i + 1) xs) (drop (i + 1) xs))
        room

    pub each_room : Room (length ys) v
    each_room = room_behind (flat_map f (take i xs)) w v p ys (flat_map f (take (i + 1) xs)) each_more each_fits

    pub each_wrote : (u : Writer B) → u ≡ wrote ys v → u ≡ wrote (flat_map f (take (i + 1) xs)) w
    each_wrote = wrote_behind (flat_map f (take i xs)) w v p ys (flat_map f (take (i + 1) xs)) each_more each_fits

-- what a writer leaves behind that began at a slice's start, and how far it is
module _ {A : Type 0} (xs : List A) (o : MutBor (List A)) (w v : Writer A) (p : v ≡ wrote xs w) (q : w ≡ writer o) where
  from_start : v ≡ wrote xs (writer o)
  from_start = p ∙ ap (wrote xs) q

  pub handed_at : v.at ≡ length xs
  handed_at = wrote_at xs (writer o) v from_start ∙ zero-add (length xs)

  pub handed_written : (u : List A) → (o.ghost_name ≡ v.out.ghost_name → u ≡ v.out.now) → u ≡ written_at 0 xs o.now
  unfolding wrote
  handed_written u back = back (sym (ap (λ (x : Writer A). x.out.ghost_name) from_start)) ∙ ap (λ (x : Writer A). x.out.now) from_start

-- all that is before a writer, as it is lent; ys stand there once xs were laid over it
module _ (w : Writer ℕ) where
  pub lent_before : mid_of w.at (length w.out.now - w.at) w.out.now ≡ before w
  lent_before = take_all (length w.out.now - w.at) (drop w.at w.out.now) (omega (arith, length-drop w.at w.out.now))

  pub wrote_over : (xs ys : List ℕ) (n : ℕ) → n ≡ length xs → ys ≡ overlaid xs (before w) → Room (length xs) w → onto w (put_mid w.at (length w.out.now - w.at) w.out.now ys) (w.at + n) ≡ wrote xs w
  unfolding wrote
  wrote_over xs ys n e h room =
      rw e (ap (λ (t : List ℕ). onto w t (w.at + length xs)) (part_written xs xs w.at w.out.now ys refl room (h ∙ ap (overlaid xs) (sym lent_before))))

-- so far as bytes fit in it, they are overlaid
pub handed_back : (xs : List ℕ) (o : MutBor (List ℕ)) (w v : Writer ℕ) (p : v ≡ wrote xs w) (q : w ≡ writer o) (u : List ℕ) → (o.ghost_name ≡ v.out.ghost_name → u ≡ v.out.now)
    → length xs ≤ length o.now → u ≡ overlaid xs o.now
unfolding written_at overlaid
handed_back xs o w v p q u back h = handed_written xs o w v p q u back ∙ rw (le-leb (length xs) (length o.now) h, zero-add (length xs))
