-- `hexadecimal::HexDigits::step` meets its contract: the table says whether the byte is a digit. Assumes nothing.
use Prim.Native.Nat.{ℕ, ◌+◌, ◌*◌, ◌≤◌, ◌<◌}
use mathlib.Core.Path.{◌≡◌, sym, ◌∙◌}
use mathlib.Core.List.{List}
use lib.ListN.{get_or}
use mir.Syntax.{w8}
use mir.Val.{Fits}
use borrow.Author.Rules.{rules}
use borrow.Author.Tests.{eq-eqb, ne_eqb, lt-ltb, le-ltb}
use Rattle.values.specs.Hex.{hex_value}
use Rattle.hexadecimal.specs.HexWalk.{HexTable, on_digit, on_other, hex_step}
use Rattle.hexadecimal.specs.declared.HexStep.{HexStep}
use Rattle.hexadecimal.specs.declared.HexStep.TheVariants.{Held, Byte}
use Rattle.hexadecimal.proofs.HexDigits.step.Goals as goal

module _ (table : List ℕ) (held x : ℕ) (t : HexTable table) (f : Fits w8 x) where
  digit : get_or table x 0 < 16 → hex_step held x ≡ on_digit held (get_or table x 0)
  unfolding hex_step
  digit l = rw (t.rule x f.fits) (rw (lt-ltb (hex_value x) 16 (rw (t.rule x f.fits) at l)))

  second : get_or table x 0 < 16 → held < 16 → Byte (held * 16 + get_or table x 0) ≡ hex_step held x
  unfolding on_digit
  second l b = sym (digit l ∙ rw (lt-ltb held 16 b))

  first : get_or table x 0 < 16 → 16 ≤ held → held ≡ 17 → Held (get_or table x 0) ≡ hex_step held x
  unfolding on_digit
  first l b e = sym (digit l ∙ rw (le-ltb held 16 b, eq-eqb held 17 e))

  no_byte : get_or table x 0 < 16 → 16 ≤ held → (held ≡ 17 → ⊥) → Held 17 ≡ hex_step held x
  unfolding on_digit
  no_byte l b n = sym (digit l ∙ rw (le-ltb held 16 b, ne_eqb held 17 n))

  no_digit : (step : HexStep) → 16 ≤ get_or table x 0 → step ≡ on_other held x → step ≡ hex_step held x
  unfolding hex_step
  no_digit step l e = rw (le-ltb (hex_value x) 16 (rw (t.rule x f.fits) at l)) e

ruleset steps = (second, first, no_byte, no_digit)

pub returns-then-held-lt16 : goal.returns-then-held-lt16
returns-then-held-lt16 c = search (rules, steps)

pub returns-then-held-eq17 : goal.returns-then-held-eq17
returns-then-held-eq17 c = search (rules, steps)

pub returns-then-v-lt16 : goal.returns-then-v-lt16
returns-then-v-lt16 c = search (rules, steps)

pub returns : goal.returns
returns c = search (rules, steps)
