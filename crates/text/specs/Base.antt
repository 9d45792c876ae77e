-- The words that every definition of this project is written in. A text is the list of its bytes.
-- Assumes nothing.
use Rattle.std.specs.Prelude.{ℕ, Bool, true, false, List, ◌++◌, length, take, drop, leb, if◌then◌else◌}

infixr 40 ◌&◌
infixr 30 ◌or◌
abbrev pub ◌&◌ : Bool → Bool → Bool
true & b = b
false & b = false

abbrev pub ◌or◌ : Bool → Bool → Bool
true or b = true
false or b = b

-- x lies from lo to hi, both included
unfoldable pub within : (lo hi x : ℕ) → Bool
within lo hi x = leb lo x & leb x hi

-- the len bytes of a text from start on
abbrev pub part : List ℕ → (start len : ℕ) → List ℕ
part text start len = take len (drop start text)

-- A lent slice once bytes stand at its front: what is beyond them is as it was, and a slice that is too short is left alone.
unfoldable pub overlaid : (bytes lent : List ℕ) → List ℕ
overlaid bytes lent = if leb (length bytes) (length lent) then bytes ++ drop (length bytes) lent else lent

-- ---- the bytes with names

abbrev pub TAB : ℕ
TAB = 0x09

abbrev pub LF : ℕ
LF = 0x0A

abbrev pub CR : ℕ
CR = 0x0D

abbrev pub BLANK : ℕ
BLANK = 0x20

abbrev pub QUOTE : ℕ
QUOTE = 0x22

abbrev pub PLUS : ℕ
PLUS = 0x2B

abbrev pub MINUS : ℕ
MINUS = 0x2D

abbrev pub BACKSLASH : ℕ
BACKSLASH = 0x5C
