-- `hexadecimal::HexDigits::fill` meets its contract. The loop's invariant: what is written, and then what the rest becomes with what is held, is what
-- the text becomes. Assumes nothing.
use Prim.Native.Nat.{ℕ, ◌+◌, ◌≤◌, ◌<◌}
use mathlib.Core.Path.{◌≡◌}
use mathlib.Core.List.{List}
use lib.ListN.{length, get_or, drop, set}
use borrow.Author.Rules.{rules}
use Rattle.hexadecimal.specs.HexWalk.{hex_step, hex_from}
use Rattle.hexadecimal.specs.declared.HexStep.{HexStep}
use Rattle.hexadecimal.specs.declared.HexStep.TheVariants.{Held, Byte}
use Rattle.text.proofs.Front.{Written, begun, in_room, stored, filled}
use Rattle.hexadecimal.proofs.HexLaws.{walked, at_held, at_byte, none_left}
use Rattle.hexadecimal.proofs.HexDigits.fill.Goals as goal
use Rattle.hexadecimal.proofs.HexDigits.fill.Goals.{in-Held, in-Byte}

module _ (out : List ℕ) (o : ℕ) (s : List ℕ) (i held : ℕ) (whole : List ℕ) (w : Written out o (hex_from held (drop i s)) whole) where
  over : length s ≤ i → out ≡ whole
  over h = filled out o _ whole w (none_left s i held h)

  module _ (h : i < length s) (step : HexStep) (e : step ≡ hex_step held (get_or s i 0)) where
    kept : (next : ℕ) → step ≡ Held next → Written out o (hex_from next (drop (i + 1) s)) whole
    kept next p = rw (at_held s i held step h e next p) at w

    fits : (b : ℕ) → step ≡ Byte b → o < length out
    fits b p = in_room out o b _ _ whole w (at_byte s i held step h e b p)

    written : (b : ℕ) → step ≡ Byte b → Written (set out o b) (o + 1) (hex_from 17 (drop (i + 1) s)) whole
    written b p = stored out o b _ _ whole w (at_byte s i held step h e b p)

ruleset walk = (begun, walked, over, kept, fits, written)

pub loop-x-init : goal.loop-x-init
loop-x-init c = search (rules, walk)

pub bounds-out-o : goal.bounds-out-o
bounds-out-o c = search (rules, walk)

pub loop-x-preserved : goal.loop-x-preserved
loop-x-preserved c = elim c.match-step.branch [
  | in-Held w ↦ rw (w.out-is, w.held-is, w.o-is) (search (rules, walk))
  | in-Byte w ↦ rw (w.out-is, w.held-is, w.o-is) (search (rules, walk))
]

pub returns : goal.returns
returns c = search (rules, walk)
