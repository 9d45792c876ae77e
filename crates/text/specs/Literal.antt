-- How words are written down in definitions and worked examples: as quoted text. Assumes nothing.
use Rattle.std.specs.Prelude.{ℕ, suc, Bool, true, false, List, [], ◌∷◌, ◌++◌, eqb, if◌then◌else◌}
use Prim.Native.Char.{code}
use Prim.Native.String.{String, [] as []ˢ, ◌∷◌ as ◌∷ˢ◌}
use Rattle.text.specs.Unicode.{encoded}

-- the bytes of a quoted text, in UTF-8
unfoldable pub utf8 : String → List ℕ
unfolding encoded
utf8 []ˢ = []
utf8 (c ∷ˢ s) = encoded (code c) ++ utf8 s

-- ---- words of ASCII: a sign is a byte

-- the bytes are those of the word
unfoldable pub spells : String → List ℕ → Bool
spells []ˢ [] = true
spells []ˢ (x ∷ s) = false
spells (c ∷ˢ w) [] = false
spells (c ∷ˢ w) (x ∷ s) = let more = spells w s in if eqb (code c) x then more else false

-- the bytes begin with those of the word
unfoldable pub begins_with : String → List ℕ → Bool
begins_with []ˢ s = true
begins_with (c ∷ˢ w) [] = false
begins_with (c ∷ˢ w) (x ∷ s) = let more = begins_with w s in if eqb (code c) x then more else false

-- how many signs a word has
unfoldable pub word_length : String → ℕ
word_length []ˢ = 0
word_length (c ∷ˢ w) = suc (word_length w)
