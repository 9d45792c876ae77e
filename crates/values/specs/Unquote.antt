-- Document 01, "Lines and words": unquoting. Assumes nothing.
use Rattle.std.specs.Prelude.{ℕ, ◌-◌, Bool, List, [], ◌∷◌, eqb, leb, length, get_or, if◌then◌else◌}
use Rattle.text.specs.Base.{◌&◌, part, TAB, LF, CR, QUOTE, BACKSLASH}

-- text with `"` at both ends and length 2 or more
unfoldable pub quoted : List ℕ → Bool
quoted s = eqb (get_or s 0 0) QUOTE & eqb (get_or s (length s - 1) 0) QUOTE & leb 2 (length s)

-- and without them
unfoldable pub between : List ℕ → List ℕ
between s = part s 1 (length s - 2)

-- Rust's `replace`: each a that has a b after it becomes, with that b, the byte `by`, from left to right
unfoldable pub replaced : (a b by : ℕ) → List ℕ → List ℕ
replaced a b by [] = []
replaced a b by (x ∷ []) = x ∷ []
replaced a b by (x ∷ y ∷ rest) =
    let both = by ∷ replaced a b by rest in
    let one = x ∷ replaced a b by (y ∷ rest) in
    if eqb x a & eqb y b then both else one

-- a backslash and a letter, and the byte that they become
pub record Escape : Type 0 where
  pub letter : ℕ
  pub byte : ℕ

infix 70 ◌becomes◌
abbrev pub ◌becomes◌ : (letter byte : ℕ) → Escape
letter becomes byte = record { letter = letter; byte = byte }

-- \n, \r, \t, \" and \\
abbrev pub escapes : List Escape
escapes = 0x6E becomes LF ∷ 0x72 becomes CR ∷ 0x74 becomes TAB ∷ QUOTE becomes QUOTE ∷ BACKSLASH becomes BACKSLASH ∷ []

-- whole replacements, one after the other
unfoldable pub replaced_in_order : List Escape → List ℕ → List ℕ
replaced_in_order [] s = s
replaced_in_order (e ∷ rest) s = replaced_in_order rest (replaced BACKSLASH e.letter e.byte s)

unfoldable pub unescaped : List ℕ → List ℕ
unescaped s = replaced_in_order escapes s

unfoldable pub unquoted : List ℕ → List ℕ
unquoted s = if quoted s then unescaped (between s) else s
