-- What a list of calls asks of the scratch. Assumes nothing.
use Rattle.std.specs.Prelude.{ℕ, Bool, false, List, [], ◌∷◌, ltb}
use Rattle.text.specs.Base.{◌or◌}
use Rattle.rows.specs.Rows.{at}

-- a row asks for more bytes of the scratch than are lent
unfoldable pub asks_more : (lent : ℕ) → (rows : List (List ℕ)) → Bool
asks_more lent [] = false
asks_more lent (row ∷ rows) = ltb lent (at row 2) or asks_more lent rows
