-- What only the code needs: a list as it is shown stands nowhere in a row, so its pieces are looked at one by one. Assumes nothing.
use Rattle.std.specs.Prelude.{ℕ, Bool, true, false, List, [], ◌∷◌, ◌++◌}
use Rattle.text.specs.Literal.{utf8}
use Rattle.text.specs.Parts.{starts_with, same_bytes}
use Rattle.list_pieces.specs.declared.pieces.Style.{Style}
use Rattle.list_pieces.specs.declared.pieces.Style.TheVariants.{Brackets, Braces}

-- the words around the texts of a list, and between two of them
pub record Words : Type 0 where
  pub opening : List ℕ
  pub between : List ℕ
  pub closing : List ℕ

unfoldable pub words : Style → Words
words Brackets = record { opening = utf8 "["; between = utf8 ", "; closing = utf8 "]" }
words Braces = record { opening = utf8 "{ "; between = utf8 ", "; closing = utf8 " }" }

-- what is behind the first text
unfoldable pub behind : Words → List (List ℕ) → List (List ℕ)
behind w [] = w.closing ∷ []
behind w (x ∷ rest) = w.between ∷ x ∷ behind w rest

-- what is behind the word in front of the texts
unfoldable pub texts_on : Words → List (List ℕ) → List (List ℕ)
texts_on w [] = w.closing ∷ []
texts_on w (x ∷ rest) = x ∷ behind w rest

unfoldable pub pieces : Words → List (List ℕ) → List (List ℕ)
pieces w texts = w.opening ∷ texts_on w texts

-- pieces in a row
unfoldable pub row : List (List ℕ) → List ℕ
row [] = []
row (p ∷ rest) = p ++ row rest

-- ---- a pattern and a value

-- the value is the pattern, or only begins with it
unfoldable pub opens : (whole : Bool) (pattern value : List ℕ) → Bool
opens true pattern value = same_bytes value pattern
opens false pattern value = starts_with pattern value
