-- What is left to write: one piece after another, all in one run. Assumes nothing.
use Prim.Native.Nat.{ℕ, ◌-◌, ◌≤◌}
use native.Mathlib.Omega.{arith}
use mathlib.Core.Path.{◌≡◌, refl, ◌∙◌}
use mathlib.Core.List.{List, [], ◌++◌}
use lib.ListN.{length}
use Rattle.written.specs.declared.Writer.{Writer}
use Rattle.written.specs.Writing.{Room, wrote}
use Rattle.written.proofs.WriterLaws.{wrote_none, wrote_at, room_front, room_behind, wrote_behind}

-- how far a writer went
module _ {A : Type 0} (xs : List A) (w v : Writer A) (p : v ≡ wrote xs w) (n : ℕ) (e : n ≡ v.at) where
  pub went_up : w.at ≤ n
  went_up = omega (arith, e, wrote_at xs w v p)

  pub went_by : n - w.at ≡ length xs
  went_by = omega (arith, e, wrote_at xs w v p)

-- Once v has written what is left, it is as w is once it has written all; there is room for it.
pub record Left {A : Type 0} (all : List A) (w : Writer A) (left : List A) (v : Writer A) : Type 0 where
  pub room : Room (length left) v
  pub same : wrote left v ≡ wrote all w

-- nothing is written yet
pub left_begun : {A : Type 0} (all : List A) (w : Writer A) → Room (length all) w → Left all w all w
left_begun all w h = record { room = h; same = refl }

module _ {A : Type 0} {all : List A} {w : Writer A} {left : List A} {v : Writer A} (l : Left all w left v) where
  -- nothing is left
  pub left_over : left ≡ [] → v ≡ wrote all w
  left_over e = wrote_none v ∙ (rw e at l.same)

  -- the same is left
  pub left_as : (other : List A) → left ≡ other → Left all w other v
  left_as other e = rw e at l

  -- xs come next
  module _ (xs later : List A) (e : left ≡ xs ++ later) where
    pub left_room : Room (length xs) v
    left_room = room_front xs later left v e l.room

    -- they are written
    pub left_on : (u : Writer A) → u ≡ wrote xs v → Left all w later u
    left_on u p = record { room = room_behind xs v u p later left e l.room; same = wrote_behind xs v u p later left e l.room (wrote later u) refl ∙ l.same }
