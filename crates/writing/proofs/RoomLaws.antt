-- Taking lengths off a room one by one takes off their sum. Assumes nothing.
use Rattle.std.specs.Prelude.{None, Option, Some, SomeIff}
use Prim.Native.Nat.{ℕ, ◌+◌, ◌-◌, ◌≤◌, ◌<◌}
use mathlib.Core.Path.{◌≡◌, refl, sym, ap, ◌∙◌}
use mathlib.Core.Bool.{Bool, true, false}
use native.Mathlib.Omega.{arith}
use lib.Dec.{leb}
use borrow.Author.Tests.{le-leb, lt-leb, leb-true, leb-false}
use Rattle.writing.specs.Room.{left, less_by}

pub left-fits : (room n : ℕ) → n ≤ room → left room n ≡ Some (room - n)
unfolding left
left-fits room n h = rw (le-leb n room h)

pub left_short : (room n : ℕ) → room < n → left room n ≡ None
unfolding left
left_short room n h = rw (lt-leb n room h)

-- nothing is taken off
pub left-none : (room : ℕ) → left room 0 ≡ Some room
left-none room = left-fits room 0 (omega arith) ∙ ap Some (omega arith)

pub left_more : (room a b : ℕ) → less_by (left room a) b ≡ left room (a + b)
unfolding less_by
left_more room a b = go (leb a room) refl (leb b (room - a)) refl
  where
    go : (t : Bool) → leb a room ≡ t → (u : Bool) → leb b (room - a) ≡ u → less_by (left room a) b ≡ left room (a + b)
    go true e true k =
        let h = leb-true a room e in
        let l = leb-true b (room - a) k in
        rw (left-fits room a h, left-fits (room - a) b l, left-fits room (a + b) (omega arith)) (ap Some (omega arith))
    go true e false k =
        let h = leb-true a room e in
        let l = leb-false b (room - a) k in
        rw (left-fits room a h, left_short (room - a) b l, left_short room (a + b) (omega arith))
    go false e u k =
        let h = leb-false a room e in
        rw (left_short room a h, left_short room (a + b) (omega arith))

-- ---- what one call takes off

-- what `checked_sub` answers is what is left
pub checked : (r s : Option ℕ) (k n : ℕ) → SomeIff r (n ≤ k) (k - n) → s ≡ Some k → r ≡ less_by s n
unfolding less_by
checked None s k n h e = sym (left_short k n (omega (arith, h))) ∙ ap (λ (q : Option ℕ). less_by q n) (sym e)
checked (Some m) s k n h e = ap Some h.1 ∙ sym (left-fits k n h.0) ∙ ap (λ (q : Option ℕ). less_by q n) (sym e)

pub short_still : (r : Option ℕ) (n : ℕ) → r ≡ None → None ≡ less_by r n
unfolding less_by
short_still r n e = ap (λ (q : Option ℕ). less_by q n) (sym e)

-- ---- lengths taken off any room

pub less_none : (r : Option ℕ) → less_by r 0 ≡ r
unfolding less_by
less_none (Some k) = left-none k
less_none None = refl

pub less_more : (r : Option ℕ) (a b : ℕ) → less_by (less_by r a) b ≡ less_by r (a + b)
unfolding less_by
less_more (Some k) a b = left_more k a b
less_more None a b = refl
