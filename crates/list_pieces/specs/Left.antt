-- The pieces that are left of a list as it is shown. Assumes nothing.
use Rattle.std.specs.Prelude.{ℕ, List, [], map}
use Rattle.verdicts.specs.Held.{item_text}
use Rattle.list_pieces.specs.Pieces.{Words, words, behind, texts_on, pieces, row}
use Rattle.list_pieces.specs.declared.pieces.Next.{Next}
use Rattle.list_pieces.specs.declared.pieces.Next.TheVariants.{Opening, Text, Word, Done}
use Rattle.list_pieces.specs.declared.pieces.Pieces.{Pieces}

-- by what comes next
unfoldable pub left_at : Next → Words → List (List ℕ) → List (List ℕ)
left_at Opening w texts = pieces w texts
left_at Text w texts = texts_on w texts
left_at Word w texts = behind w texts
left_at Done w texts = []

unfoldable pub left : Pieces → List (List ℕ)
left p = left_at p.next (words p.style) (map (item_text p.bytes.now) p.items.now)

-- the list, as far as it is left, as it is shown
abbrev pub shown : Pieces → List ℕ
shown p = row (left p)
