-- A part of a list: nothing of it lies behind the end, and no more than there is. Assumes nothing.
use Prim.Native.Nat.{ℕ, ◌+◌, ◌-◌, ◌≤◌}
use mathlib.Core.Path.{◌≡◌, sym, ap, ◌∙◌}
use mathlib.Core.List.{List}
use native.Mathlib.Omega.{arith}
use lib.ListN.{length, take, drop, length-drop, drop_of_length-le}
use lib.Seq.{take_all, take-nil, drop-length}

pub part_none : {A : Type 0} (s : List A) (start len : ℕ) → length s ≤ start → take (length s - length s) (drop (length s) s) ≡ take len (drop start s)
part_none s start len h = rw (drop-length s, drop_of_length-le s h, take-nil (length s - length s), take-nil len)

pub part-rest : {A : Type 0} (s : List A) (start len : ℕ) → length s - start ≤ len → take (length s - start) (drop start s) ≡ take len (drop start s)
part-rest s start len h =
    take_all (length s - start) (drop start s) (omega (arith, length-drop start s))
    ∙ sym (take_all len (drop start s) (omega (arith, length-drop start s)))

pub part_whole : {A : Type 0} (s : List A) (start len : ℕ) → take (start + len - start) (drop start s) ≡ take len (drop start s)
part_whole s start len = let e : start + len - start ≡ len = omega arith in ap (λ (n : ℕ). take n (drop start s)) e
