-- Hex by one walk over the bytes, as the code takes it; `HexLaws` shows that it answers what the definition does. Assumes nothing.
use Rattle.std.specs.Prelude.{ℕ, ◌+◌, ◌*◌, ◌<◌, ◌≡◌, List, [], ◌∷◌, eqb, ltb, length, get_or, if◌then◌else◌}
use Rattle.text.specs.Base.{◌or◌, within, BLANK, PLUS}
use Rattle.values.specs.Hex.{hex_value, is_hex}
use Rattle.hexadecimal.specs.declared.HexStep.{HexStep}
use Rattle.hexadecimal.specs.declared.HexStep.TheVariants.{Held, Byte}

-- a table of 256 numbers holds the hex value of each byte
pub record HexTable (table : List ℕ) : Type 0 where
  pub size : length table ≡ 256
  pub rule : (x : ℕ) → x < 256 → get_or table x 0 ≡ hex_value x

-- `held` is the value of the first of a pair, `+` counting as 0; 16 where that one makes no byte; 17 where none is held.

-- a digit of value v makes a byte of a pair, or is held, or ends a pair that is no byte
unfoldable pub on_digit : (held v : ℕ) → HexStep
on_digit held v = if ltb held 16 then Byte (held * 16 + v) else if eqb held 17 then Held v else Held 17

-- another byte is no character, or is held, or ends a pair that is no byte
unfoldable pub on_other : (held x : ℕ) → HexStep
on_other held x =
    if eqb x BLANK or within 0x80 0xBF x then Held held
    else if eqb held 17 then Held (if eqb x PLUS then 0 else 16)
    else Held 17

unfoldable pub hex_step : (held x : ℕ) → HexStep
hex_step held x = if is_hex x then on_digit held (hex_value x) else on_other held x

-- what the bytes that are left become
unfoldable pub hex_from : (held : ℕ) → List ℕ → List ℕ
hex_from held [] = []
hex_from held (x ∷ rest) = elim (hex_step held x) [ Held h ↦ hex_from h rest | Byte b ↦ b ∷ hex_from 17 rest ]
