-- A list as it is shown is its pieces in a row, and no number. Assumes nothing.
use Rattle.std.specs.Prelude.{None}
use Prim.Native.Nat.{ℕ}
use mathlib.Core.Path.{◌≡◌, refl, sym, ap, ◌∙◌}
use mathlib.Core.List.{List, [], ◌∷◌, ◌++◌, append_assoc, append-nil}
use Rattle.text.specs.Base.{within}
use Rattle.text.specs.Literal.{utf8}
use Rattle.text.specs.Unicode.{encoded}
use Rattle.values.specs.Numbers.{all_digits, digits, number, signed}
use Rattle.verdicts.specs.Lookup.{joined, bracketed, braced}
use Rattle.list_pieces.specs.Lists.{list_text}
use Rattle.list_pieces.specs.Pieces.{Words, words, behind, texts_on, pieces, row}
use Rattle.list_pieces.specs.declared.pieces.Style.{Style}
use Rattle.list_pieces.specs.declared.pieces.Style.TheVariants.{Brackets, Braces}

row-behind : (w : Words) → w.between ≡ utf8 ", " → (x : List ℕ) (xs : List (List ℕ)) → x ++ row (behind w xs) ≡ joined (x ∷ xs) ++ w.closing
unfolding behind row joined
row-behind w e x [] = ap (λ (s : List ℕ). x ++ s) (append-nil w.closing)
row-behind w e x (y ∷ xs) =
    ap (λ (s : List ℕ). x ++ (s ++ (y ++ row (behind w xs)))) e
    ∙ sym (append_assoc x (utf8 ", ") (y ++ row (behind w xs)))
    ∙ ap (λ (s : List ℕ). x ++ utf8 ", " ++ s) (row-behind w e y xs)
    ∙ sym (append_assoc (x ++ utf8 ", ") (joined (y ∷ xs)) w.closing)

row-pieces : (w : Words) → w.between ≡ utf8 ", " → (xs : List (List ℕ)) → row (pieces w xs) ≡ w.opening ++ joined xs ++ w.closing
unfolding pieces texts_on row joined
row-pieces w e [] = sym (append_assoc w.opening w.closing []) ∙ append-nil (w.opening ++ w.closing) ∙ ap (λ (s : List ℕ). s ++ w.closing) (sym (append-nil w.opening))
row-pieces w e (x ∷ xs) = ap (λ (s : List ℕ). w.opening ++ s) (row-behind w e x xs) ∙ sym (append_assoc w.opening (joined (x ∷ xs)) w.closing)

-- a list is its pieces in a row
pub in_a_row : (style : Style) (xs : List (List ℕ)) → row (pieces (words style) xs) ≡ list_text style xs
unfolding list_text bracketed braced words
in_a_row Brackets xs = row-pieces (words Brackets) refl xs
in_a_row Braces xs = row-pieces (words Braces) refl xs

-- and no number
pub no_number : (style : Style) (xs : List (List ℕ)) → signed (list_text style xs) ≡ None
unfolding list_text bracketed braced utf8 encoded signed number digits all_digits within
no_number Brackets xs = refl
no_number Braces xs = refl
