-- A list as it is shown. Assumes nothing.
use Rattle.std.specs.Prelude.{ℕ, List}
use Rattle.verdicts.specs.Lookup.{bracketed, braced}
use Rattle.list_pieces.specs.declared.pieces.Style.{Style}
use Rattle.list_pieces.specs.declared.pieces.Style.TheVariants.{Brackets, Braces}

-- features in braces, any other list in brackets
unfoldable pub list_text : Style → List (List ℕ) → List ℕ
list_text Braces texts = braced texts
list_text Brackets texts = bracketed texts
