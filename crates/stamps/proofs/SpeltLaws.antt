-- Laws for `timestamps::spelt`. Assumes nothing.
use Prim.Native.Nat.{ℕ, ◌+◌, ◌-◌, ◌*◌, ◌^◌, ◌≤◌, ◌<◌}
use mathlib.Core.Path.{◌≡◌}
use mathlib.Core.Bool.{true}
use mathlib.Core.List.{List}
use native.Mathlib.Omega.{arith}
use native.Mathlib.Nat.{le_trans}
use lib.ListN.{length, get_or, drop}
use Rattle.text.specs.Base.{within}
use Rattle.text.proofs.Scan.{rest_more, rest-none, both, inside}
use Rattle.values.specs.Numbers.{all_digits}
use Rattle.stamps.proofs.TimeLaws.{Room, room_more, room_fits}

module _ (s : List ℕ) (i : ℕ) (h : i < length s) (e : all_digits (drop i s) ≡ true) where
  pub tests : (within 0x30 0x39 (get_or s i 0) ≡ true) × (all_digits (drop (i + 1) s) ≡ true)
  unfolding all_digits
  tests = both (within 0x30 0x39 (get_or s i 0)) (all_digits (drop (i + 1) s)) (rw (rest_more s i h) at e)

  pub bounds : (0x30 ≤ get_or s i 0) × (get_or s i 0 ≤ 0x39)
  bounds = inside 0x30 0x39 (get_or s i 0) tests.0

  module _ (v : ℕ) (r : Room v (length (drop i s))) where
    pub room : Room (v * 10 + (get_or s i 0 - 0x30)) (length (drop (i + 1) s))
    room = le_trans (room_more v (length (drop (i + 1) s)) (get_or s i 0 - 0x30) (omega (arith, bounds.1))) (rw (rest_more s i h) at r)

    pub fits : v * 10 + (get_or s i 0 - 0x30) < 2 ^ 64
    fits = omega (arith, room_fits _ _ room)

pub ruleset spelt_steps = (tests, bounds, room, fits, get_or, rest_more, rest-none)
