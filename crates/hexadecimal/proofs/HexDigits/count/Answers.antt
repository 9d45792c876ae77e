-- `hexadecimal::HexDigits::count` meets its contract. The loop's invariant: the bytes counted, and those that the rest becomes with what is held, are
-- as many as the text becomes. Assumes nothing.
use Prim.Native.Nat.{ℕ, ◌+◌, ◌≤◌, ◌<◌}
use mathlib.Core.Path.{◌≡◌, ap, ◌∙◌}
use mathlib.Core.List.{List}
use native.Mathlib.Nat.{zero-add}
use native.Mathlib.Omega.{arith}
use lib.ListN.{length, get_or, drop}
use borrow.Author.Rules.{rules}
use Rattle.hexadecimal.specs.HexWalk.{hex_step, hex_from}
use Rattle.hexadecimal.specs.declared.HexStep.{HexStep}
use Rattle.hexadecimal.specs.declared.HexStep.TheVariants.{Held, Byte}
use Rattle.hexadecimal.proofs.HexLaws.{walked, at_held, at_byte, none_left}
use Rattle.hexadecimal.proofs.HexDigits.count.Goals as goal
use Rattle.hexadecimal.proofs.HexDigits.count.Goals.{in-Held, in-Byte}

module _ (s : List ℕ) (i held n total : ℕ) (q : n + length (hex_from held (drop i s)) ≡ total) where
  over : length s ≤ i → n ≡ total
  over h = omega (arith, ap length (none_left s i held h))

  module _ (h : i < length s) (step : HexStep) (e : step ≡ hex_step held (get_or s i 0)) where
    counted-held : (next : ℕ) → step ≡ Held next → n + length (hex_from next (drop (i + 1) s)) ≡ total
    counted-held next p = rw (at_held s i held step h e next p) at q

    counted-byte : (b : ℕ) → step ≡ Byte b → n + 1 + length (hex_from 17 (drop (i + 1) s)) ≡ total
    counted-byte b p = omega (arith, ap length (at_byte s i held step h e b p))

ruleset walk = (over, counted-held, counted-byte)

pub loop-x-init : goal.loop-x-init
loop-x-init c = record { few = search rules; counted = zero-add _ ∙ ap length (walked _) }

pub loop-x-preserved : goal.loop-x-preserved
loop-x-preserved c = elim c.match-step.branch [
  | in-Held w ↦ rw (w.held-is, w.n-is) (record { few = omega arith; counted = search (rules, walk) })
  | in-Byte w ↦ rw (w.held-is, w.n-is) (record { few = omega arith; counted = search (rules, walk) })
]

pub returns : goal.returns
returns c = search (rules, walk)
