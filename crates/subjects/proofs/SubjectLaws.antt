-- Whether there is room for a value. Assumes nothing.
use Prim.Native.Nat.{ℕ, ◌-◌}
use mathlib.Core.Path.{◌≡◌, refl}
use mathlib.Core.Bool.{Bool, true, false}
use mathlib.Core.List.{List}
use lib.ListN.{length}
use lib.Dec.{leb}
use Rattle.std.specs.Prelude.{if◌then◌else◌, None, Option, Some}
use Rattle.std.specs.Option.{is_some}
use Rattle.writing.specs.Room.{left}
use Rattle.verdicts.specs.Lookup.{present_bytes}
use Rattle.subjects.specs.Fits.{fits}

-- where something is left of a room, the value fits
pub fits-left : (room : ℕ) (value : List ℕ) (o : Option (List ℕ)) → value ≡ present_bytes o → is_some (left room (length value)) ≡ fits room o
unfolding fits left
fits-left room value o e = rw e (go (leb (length (present_bytes o)) room))
  where
    go : (b : Bool) → is_some (if b then Some (room - length (present_bytes o)) else None) ≡ b
    go true = refl
    go false = refl
