-- What the code writes on its way to the items of a set. Assumes nothing.
use Rattle.std.specs.Prelude.{ℕ, List, [], None, Option, Some}
use Rattle.text.specs.declared.parts.Span.{Span}
use Rattle.script.specs.Sets.{PathSet, braced_set, plain_set}

unfoldable pub items_or : Option PathSet → List Span
items_or None = []
items_or (Some s) = s.items

-- the items of a path set behind its opening brace; none where it is not closed
unfoldable pub braced_items : (text : List ℕ) → Span → List Span
braced_items text p = items_or (braced_set text p)

-- the items of a path set, by what stands behind its opening brace, if it has one
unfoldable pub items_by : (text : List ℕ) → (q : Span) → Option Span → List Span
items_by text q None = (plain_set text q).items
items_by text q (Some r) = braced_items text r
