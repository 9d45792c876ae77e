-- What the walks over the pieces of a piece have left to give. Assumes nothing.
use Rattle.std.specs.Prelude.{◌≡◌, ℕ, List, [], map, None, Option, Some}
use Rattle.std.specs.Iterator.{Drains}
use Rattle.text.specs.declared.parts.Span.{Span}
use Rattle.pieces.specs.declared.pieces.Piece.{Piece}
use Rattle.script.specs.Pieces.{words}
use Rattle.script.specs.Sets.{non_empty, trimmed_items}
use Rattle.written.specs.declared.Writer.{Writer}
use Rattle.written.specs.Writing.{wrote}
use Rattle.tables.specs.Items.{items_for}
use Rattle.tables.specs.declared.walks.FilledItems.{FilledItems}
use Rattle.tables.specs.declared.walks.TrimmedItems.{TrimmedItems}
use Rattle.tables.specs.declared.walks.Words.{Words}

-- where a piece stands
abbrev pub place_of : Piece → Span
place_of p = p.at

-- the items of a piece that is not cut yet, if there is one
unfoldable pub items_of_left : Option Piece → List Span
items_of_left None = []
items_of_left (Some p) = trimmed_items p.text.now p.at

abbrev pub items_left : TrimmedItems → List Span
items_left w = items_of_left w.left

abbrev pub filled_left : FilledItems → List Span
filled_left w = non_empty (items_left w.items)

abbrev pub words_left : Words → List Span
words_left w = words w.left.text.now w.left.at

-- the items of what a walk from s gave are written by w, which is `after` then
abbrev pub PutsPlaces : {S : Type 0} → (S → Option Piece → S → Type 0) → S → Writer (List ℕ) → (after : Writer (List ℕ)) → Type 0
PutsPlaces steps s w after = (ps : List Piece) × Drains steps s ps × (after ≡ wrote (items_for (map place_of ps)) w)
