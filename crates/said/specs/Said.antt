-- The values that were said, by key. Assumes nothing.
use Rattle.std.specs.Prelude.{◌≡◌, ℕ, List, get_or, None, Option, Some}
use Rattle.text.specs.declared.parts.Span.{Span}
use Rattle.script.specs.Operations.{key_row}
use Rattle.script.specs.Inside.{In}
use Rattle.script.specs.declared.roles.Key.{Key}
use Rattle.said.specs.declared.said.Heard.{Heard}

-- the last value of a key, which stands at the key's number
unfoldable pub said_of : Heard → Key → Option Span
said_of h k = get_or h.values (key_row k).number None

-- each value that was said lies in the text
abbrev pub SaidIn : (text : List ℕ) → Heard → Type 0
SaidIn text h = (k : Key) (v : Span) → said_of h k ≡ Some v → In text v
