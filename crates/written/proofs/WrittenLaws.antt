-- Laws of what is written into a table: nothing, one more, two runs in a row, bytes at the front, and a loop that writes one after another. Assumes
-- nothing.
use Prim.Native.Nat.{ℕ, suc, ◌+◌, ◌-◌, ◌≤◌, ◌<◌}
use mathlib.Core.Path.{◌≡◌, sym, ap, ◌∙◌}
use mathlib.Core.List.{List, [], ◌∷◌, ◌++◌, append_assoc, append-nil}
use native.Mathlib.Nat.{add-zero, zero-add}
use native.Mathlib.Omega.{arith}
use lib.ListN.{length, take, drop, set, length-append, length-drop, take-append-drop, drop_of_length-le}
use lib.Seq.{sets, sets-eq, length-sets, length-take-le, take-add, take_all, take-append_seam, drop-append_seam, drop-drop}
use borrow.Author.Tests.{le-leb, lt-leb}
use borrow.Rule.Slice.PartMut.{mid_of, put_mid}
use Rattle.text.specs.Base.{overlaid}
use Rattle.written.specs.Written.{written_at}

module _ {A : Type 0} where
  -- stored one by one
  written_sets : (at : ℕ) (xs t : List A) → at + length xs ≤ length t → written_at at xs t ≡ sets t at xs
  unfolding written_at
  written_sets at xs t h = sym (sets-eq xs t at h)

  sets_twice : (at : ℕ) (xs ys t : List A) → sets (sets t at xs) (at + length xs) ys ≡ sets t at (xs ++ ys)
  sets_twice at [] ys t = rw (add-zero at)
  sets_twice at (x ∷ xs) ys t = let e : at + suc (length xs) ≡ suc at + length xs = omega arith in rw e (sets_twice (suc at) xs ys (set t at x))

  -- writing nothing changes nothing, wherever it begins
  pub written_none : (at : ℕ) (t : List A) → written_at at [] t ≡ t
  unfolding written_at
  written_none at t = rw (add-zero at, append-nil (take at t)) (take-append-drop at t)

  -- a table keeps its length
  pub written_length : (at : ℕ) (xs t : List A) → at + length xs ≤ length t → length (written_at at xs t) ≡ length t
  written_length at xs t h = rw (written_sets at xs t h) (length-sets t at xs)

  -- one element is one store
  pub written_one : (at : ℕ) (x : A) (t : List A) → at < length t → written_at at (x ∷ []) t ≡ set t at x
  written_one at x t h = written_sets at (x ∷ []) t (omega arith)

  -- two runs in a row are one
  pub written_twice : (at : ℕ) (xs ys t : List A) → at + length xs + length ys ≤ length t → written_at (at + length xs) ys (written_at at xs t) ≡ written_at at (xs ++ ys) t
  written_twice at xs ys t h =
      let k : at + length xs ≤ length t = omega arith in
      rw (
        written_sets (at + length xs) ys (written_at at xs t) (omega (arith, written_length at xs t k)),
        written_sets at xs t k,
        written_sets at (xs ++ ys) t (omega (arith, length-append xs ys)),
      )
      (sets_twice at xs ys t)

  -- one element more
  pub written_more : (at : ℕ) (xs : List A) (x : A) (t : List A) → at + length xs < length t → written_at at (xs ++ (x ∷ [])) t ≡ set (written_at at xs t) (at + length xs) x
  written_more at xs x t h =
      sym (written_twice at xs (x ∷ []) t (omega arith))
      ∙ written_one (at + length xs) x (written_at at xs t) (omega (arith, written_length at xs t (omega arith)))

-- nothing is written
pub none_written : {A : Type 0} (xs : List A) (at : ℕ) (t : List A) → xs ≡ [] → at + length xs ≤ length t → t ≡ written_at at xs t
none_written xs at t e h = rw e (sym (written_none at t))

-- ys, written at the front of the part from `at` on, if there is room
pub part_written : (xs ys : List ℕ) (at : ℕ) (t u : List ℕ) → xs ≡ ys → at + length xs ≤ length t → u ≡ overlaid ys (mid_of at (length t - at) t) → put_mid at (length t - at) t u ≡ written_at at xs t
unfolding overlaid written_at
part_written xs ys at t u e h k =
    let l = length-drop at t in
    rw (
      drop_of_length-le (drop at t) {i = length t - at} (omega arith),
      append-nil u,
      k,
      take_all (length t - at) (drop at t) (omega arith),
      ← e,
      le-leb (length xs) (length (drop at t)) (omega arith),
      drop-drop (length xs) at t,
    )
    (sym (append_assoc (take at t) xs (drop (at + length xs) t)))

-- ---- bytes at the front

module _ (bytes lent : List ℕ) where
  pub front_short : length lent < length bytes → lent ≡ overlaid bytes lent
  unfolding overlaid
  front_short h = rw (lt-leb (length bytes) (length lent) h)

  pub front_copied : (front : List ℕ) → front ≡ bytes → length bytes ≤ length lent → front ++ drop (length bytes) lent ≡ overlaid bytes lent
  unfolding overlaid
  front_copied front e h = rw (e, le-leb (length bytes) (length lent) h)

-- they stand at the front
pub front_taken : (xs t u : List ℕ) (n : ℕ) → length xs ≤ length t → n ≡ length xs → u ≡ overlaid xs t → take n u ≡ xs
unfolding overlaid
front_taken xs t u n h e k =
    ap (λ (m : ℕ). take m u) e ∙ ap (take (length xs)) (k ∙ rw (le-leb (length xs) (length t) h)) ∙ take-append_seam xs (drop (length xs) t)

-- ---- a loop that writes one after another

-- From `at` on, n of all are written; `left` is still to come. `first` is the table as it was, `now` as it is.
pub record Filling {A : Type 0} (at : ℕ) (all first now : List A) (n : ℕ) (left : List A) : Type 0 where
  pub room : at + length all ≤ length first
  pub count : n + length left ≡ length all
  pub rest : drop n all ≡ left
  pub done : now ≡ written_at at (take n all) first

module _ {A : Type 0} (at : ℕ) (all first : List A) where
  -- nothing is written yet
  pub filling_begun : (left : List A) → all ≡ left → at + length all ≤ length first → Filling at all first first 0 left
  filling_begun left e h = record { room = h; count = zero-add (length left) ∙ sym (ap length e); rest = e; done = sym (written_none at first) }

  module _ (now : List A) (n : ℕ) (left : List A) (f : Filling at all first now n left) where
    so_far : length (take n all) ≡ n
    so_far = length-take-le n all (omega (arith, f.count))

    -- the table keeps its length
    pub filling_length : length now ≡ length first
    filling_length = ap length f.done ∙ written_length at (take n all) first (omega (arith, so_far, f.room, f.count))

    -- nothing is left: all are written
    pub filled : left ≡ [] → (n ≡ length all) × (now ≡ written_at at all first)
    filled e =
        let l : length left ≡ 0 = ap length e in
        (omega (arith, f.count), f.done ∙ ap (λ (xs : List A). written_at at xs first) (take_all n all (omega (arith, f.count))))

    -- some come next
    module _ (xs later : List A) (e : left ≡ xs ++ later) where
      longer : length left ≡ length xs + length later
      longer = ap length e ∙ length-append xs later

      -- there is room for them
      pub filling_room : at + n + length xs ≤ length now
      filling_room = omega (arith, longer, filling_length, f.room, f.count)

      next-taken : take (n + length xs) all ≡ take n all ++ xs
      next-taken = take-add n (length xs) all ∙ ap (λ (l : List A). take n all ++ take (length xs) l) (f.rest ∙ e) ∙ ap (λ (l : List A). take n all ++ l) (take-append_seam xs later)

      -- they are written
      pub filling_on : (after : List A) → after ≡ written_at (at + n) xs now → Filling at all first after (n + length xs) later
      filling_on after h = record {
        room = f.room;
        count = omega (arith, longer, f.count);
        rest = sym (drop-drop (length xs) n all) ∙ ap (drop (length xs)) (f.rest ∙ e) ∙ drop-append_seam xs later;
        done =
            h
            ∙ ap (λ (k : ℕ). written_at (at + k) xs now) (sym so_far)
            ∙ ap (written_at (at + length (take n all)) xs) f.done
            ∙ written_twice at (take n all) xs first (omega (arith, so_far, longer, f.room, f.count))
            ∙ ap (λ (ys : List A). written_at at ys first) (sym next-taken);
      }

    -- x comes next
    module _ (x : A) (later : List A) (e : left ≡ x ∷ later) where
      pub filling_place : at + n < length now
      filling_place = omega (arith, filling_room (x ∷ []) later e)

      pub filling_more : (after : List A) → after ≡ written_at (at + n) (x ∷ []) now → Filling at all first after (n + 1) later
      filling_more = filling_on (x ∷ []) later e
