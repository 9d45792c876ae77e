-- Writing a list at the front of a slice: byte by byte, in a loop whose room is exactly the list's, and as a part of a longer slice that is
-- lent to such a loop. Assumes nothing.
use Prim.Native.Nat.{ℕ, ◌+◌, ◌≤◌, ◌<◌}
use mathlib.Core.Path.{◌≡◌, sym, ap, ◌∙◌}
use mathlib.Core.List.{List, [], ◌∷◌, ◌++◌}
use native.Mathlib.Nat.{zero-add}
use native.Mathlib.Omega.{arith}
use lib.ListN.{length, take, drop, set, length-set}
use lib.Seq.{length-take-le}
use borrow.Author.Tests.{le-leb, lt-leb}
use Rattle.text.specs.Base.{overlaid}
use Rattle.text.proofs.Scan.{written_more, written_all}

-- o bytes of whole are written at the front of out, rest is still to come, and there is room for exactly the whole
pub record Written (out : List ℕ) (o : ℕ) (rest whole : List ℕ) : Type 0 where
  pub room : length out ≡ length whole
  pub count : o + length rest ≡ length whole
  pub front : take o out ++ rest ≡ whole

pub begun : (out whole rest : List ℕ) → rest ≡ whole → length out ≡ length whole → Written out 0 rest whole
begun out whole rest e h = record { room = h; count = zero-add (length rest) ∙ ap length e; front = e }

module _ (out : List ℕ) (o b : ℕ) (now rest whole : List ℕ) (w : Written out o now whole) (e : now ≡ b ∷ rest) where
  pub in_room : o < length out
  in_room = omega (arith, w.room, w.count, ap length e)

  pub stored : Written (set out o b) (o + 1) rest whole
  stored =
      record {
        room = length-set out o b ∙ w.room;
        count = omega (arith, w.count, ap length e);
        front = written_more out o b rest whole in_room (rw e at w.front);
      }

pub filled : (out : List ℕ) (o : ℕ) (rest whole : List ℕ) → Written out o rest whole → rest ≡ [] → out ≡ whole
filled out o rest whole w e = written_all out o rest whole e w.count w.room w.front

-- ---- a front of n bytes, lent whole

pub front_long : (lent : List ℕ) (n : ℕ) → n ≤ length lent → n ≡ length (take n lent)
front_long lent n h = sym (length-take-le n lent h)

module _ (bytes lent : List ℕ) (n : ℕ) (e : n ≡ length bytes) where
  pub front_room : n ≤ length lent → length (take n lent) ≡ length bytes
  front_room h = length-take-le n lent h ∙ e

  pub laid : (front : List ℕ) → front ≡ bytes → n ≤ length lent → front ++ drop n lent ≡ overlaid bytes lent
  unfolding overlaid
  laid front f h = rw (f, e, le-leb (length bytes) (length lent) (omega arith))

  pub left_alone : length lent < n → lent ≡ overlaid bytes lent
  unfolding overlaid
  left_alone h = rw (lt-leb (length bytes) (length lent) (omega arith))

pub ruleset fronts = (front_long, front_room, laid, left_alone)
