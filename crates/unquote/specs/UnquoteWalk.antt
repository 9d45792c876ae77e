-- The five replacements by one walk over the bytes, as the code takes it; `UnquoteLaws` shows that it answers what the definition does. A
-- token is the byte that comes out next and how many bytes it stands for. Assumes nothing.
use Rattle.std.specs.Prelude.{ℕ, List, eqb, get_or, if◌then◌else◌}
use Rattle.text.specs.Base.{◌&◌, TAB, LF, CR, QUOTE, BACKSLASH}
use Rattle.values.specs.Unquote.{unescaped}
use Rattle.unquote.specs.declared.Token.{Token}
use Rattle.unquote.specs.declared.Unescaped.{Unescaped}

-- what a backslash and c become by the first four, or 0
unfoldable pub meant : ℕ → ℕ
meant c = if eqb c 0x6E then LF else if eqb c 0x72 then CR else if eqb c 0x74 then TAB else if eqb c QUOTE then QUOTE else 0

abbrev pub token : (byte size : ℕ) → Token
token byte size = record { byte = byte; size = size }

-- A backslash with y and z after it, 0 for a byte past the end. Of two backslashes the second may belong to z.
unfoldable pub escape_of : (y z : ℕ) → Token
escape_of y z =
    if eqb (meant y) 0 then (if eqb y BACKSLASH & eqb (meant z) 0 then token BACKSLASH 2 else token BACKSLASH 1)
    else token (meant y) 2

unfoldable pub token_of : (x y z : ℕ) → Token
token_of x y z = if eqb x BACKSLASH then escape_of y z else token x 1

-- the first token of a text
unfoldable pub first_token : List ℕ → Token
first_token s = token_of (get_or s 0 0) (get_or s 1 0) (get_or s 2 0)

-- what the walk has still to give
abbrev pub unescaped_left : Unescaped → List ℕ
unescaped_left u = unescaped u.0.now
