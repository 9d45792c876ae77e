-- The texts of a list, one after another. Assumes nothing.
use Rattle.std.specs.Prelude.{ℕ, List, [], ◌∷◌, ◌++◌, map}
use Rattle.text.specs.Literal.{utf8}
use Rattle.verdicts.specs.Held.{item_text}

-- the texts of some items
abbrev pub item_texts : (bytes : List ℕ) → (items : List (List ℕ)) → List (List ℕ)
item_texts bytes items = map (item_text bytes) items

-- texts with `, ` in front of each
unfoldable pub behind : List (List ℕ) → List ℕ
behind [] = []
behind (x ∷ xs) = utf8 ", " ++ x ++ behind xs
