-- Document 01, "Lines and words": hex. Assumes nothing.
use Rattle.std.specs.Prelude.{ℕ, ◌+◌, ◌-◌, ◌*◌, Bool, List, [], ◌∷◌, ◌++◌, eqb, ltb, if◌then◌else◌}
use Rattle.text.specs.Base.{◌&◌, within, BLANK, PLUS}

-- a text without the bytes that pass the test
unfoldable pub without : (ℕ → Bool) → List ℕ → List ℕ
without test [] = []
without test (x ∷ rest) =
    let more = without test rest in
    if test x then more else x ∷ more

-- spaces removed
unfoldable pub without_blanks : List ℕ → List ℕ
without_blanks s = without (λ x. eqb x BLANK) s

-- the characters, each as the byte that begins it: a byte 80 to BF begins none
unfoldable pub character_starts : List ℕ → List ℕ
character_starts s = without (within 0x80 0xBF) s

-- the hex value of a byte, or 16 where it has none
unfoldable pub hex_value : ℕ → ℕ
hex_value x =
    if within 0x30 0x39 x then x - 0x30
    else if within 0x41 0x46 x then x - 0x37
    else if within 0x61 0x66 x then x - 0x57
    else 16

abbrev pub is_hex : ℕ → Bool
is_hex x = ltb (hex_value x) 16

-- a pair that is no byte is skipped: two digits are a byte, `+` and one digit too
unfoldable pub hex_byte : (a b : ℕ) → List ℕ
hex_byte a b =
    if is_hex a & is_hex b then (hex_value a * 16 + hex_value b) ∷ []
    else if eqb a PLUS & is_hex b then hex_value b ∷ []
    else []

-- characters taken in pairs, an odd last one dropped
unfoldable pub hex_pairs : List ℕ → List ℕ
hex_pairs [] = []
hex_pairs (a ∷ []) = []
hex_pairs (a ∷ b ∷ rest) = hex_byte a b ++ hex_pairs rest

unfoldable pub hex_decoded : List ℕ → List ℕ
hex_decoded s = hex_pairs (character_starts (without_blanks s))
