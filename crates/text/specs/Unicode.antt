-- The Unicode Standard: scalar values, their encoding in UTF-8 and back, and the White_Space characters. Assumes nothing.
use Rattle.std.specs.Prelude.{ℕ, zero, suc, ◌+◌, ◌*◌, ◌/◌, ◌%◌, Bool, true, false, List, [], ◌∷◌, ◌++◌, eqb, ltb, if◌then◌else◌}
use Rattle.text.specs.Base.{◌&◌, ◌or◌, within}
use Rattle.text.specs.Utf8.{Range, ◌to◌}

-- a scalar value (definition D76): every code point but the surrogates D800 to DFFF
unfoldable pub scalar : ℕ → Bool
scalar c = within 0x0000 0xD7FF c or within 0xE000 0x10_FFFF c

unfoldable pub all_scalars : List ℕ → Bool
all_scalars [] = true
all_scalars (c ∷ cs) = scalar c & all_scalars cs

-- the encoding of a scalar value (table 3-6)
unfoldable pub encoded : ℕ → List ℕ
encoded c =
    if ltb c 0x80 then c ∷ []
    else if ltb c 0x800 then (0xC0 + c / 0x40) ∷ (0x80 + c % 0x40) ∷ []
    else if ltb c 0x1_0000 then (0xE0 + c / 0x1000) ∷ (0x80 + c / 0x40 % 0x40) ∷ (0x80 + c % 0x40) ∷ []
    else (0xF0 + c / 0x4_0000) ∷ (0x80 + c / 0x1000 % 0x40) ∷ (0x80 + c / 0x40 % 0x40) ∷ (0x80 + c % 0x40) ∷ []

-- what f makes of each, one after the other
unfoldable pub spread : (f : ℕ → List ℕ) → List ℕ → List ℕ
spread f [] = []
spread f (c ∷ cs) = f c ++ spread f cs

-- the concatenation of the encodings
unfoldable pub encoded_all : List ℕ → List ℕ
encoded_all cs = spread encoded cs

-- Decoding (table 3-6 read from right to left). `due`: how many bytes the scalar value begun still wants; `code`: its bits so far.
unfoldable pub scalars_from : (due code : ℕ) → List ℕ → List ℕ
scalars_from due code [] = []
scalars_from zero code (x ∷ rest) =
    let one = x ∷ scalars_from 0 0 rest in
    let two = scalars_from 1 (x % 0x20) rest in
    let three = scalars_from 2 (x % 0x10) rest in
    let four = scalars_from 3 (x % 0x08) rest in
    if ltb x 0x80 then one else if ltb x 0xE0 then two else if ltb x 0xF0 then three else four
scalars_from (suc due) code (x ∷ rest) =
    let c = code * 0x40 + x % 0x40 in
    let whole = c ∷ scalars_from 0 0 rest in
    let more = scalars_from due c rest in
    if eqb due 0 then whole else more

-- the scalar values that a well-formed text encodes
unfoldable pub scalars : List ℕ → List ℕ
scalars text = scalars_from 0 0 text

-- The 25 White_Space characters of PropList.txt
unfoldable pub white_space : List Range
white_space =
    0x0009 to 0x000D ∷
    0x0020 to 0x0020 ∷
    0x0085 to 0x0085 ∷
    0x00A0 to 0x00A0 ∷
    0x1680 to 0x1680 ∷
    0x2000 to 0x200A ∷
    0x2028 to 0x2029 ∷
    0x202F to 0x202F ∷
    0x205F to 0x205F ∷
    0x3000 to 0x3000 ∷ []

-- one of the ranges has x
unfoldable pub one_has : List Range → ℕ → Bool
one_has [] x = false
one_has (r ∷ rs) x = within r.lo r.hi x or one_has rs x

unfoldable pub white : ℕ → Bool
white c = one_has white_space c
