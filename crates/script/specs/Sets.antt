-- Document 01, "The script": path sets and feature sets. Assumes nothing.
use Rattle.std.specs.Prelude.{ℕ, List, [], ◌∷◌, map, if◌then◌else◌, None, Option, Some}
use Rattle.text.specs.Base.{◌&◌}
use Rattle.text.specs.Parts.{span}
use Rattle.text.specs.declared.parts.Span.{Span}
use Rattle.script.specs.Answers.{◌>>=◌}
use Rattle.script.specs.Pieces.{is_empty, begins, ends, behind, trim, inner, cut, split, words}

abbrev pub COMMA : ℕ
COMMA = 0x2C

abbrev pub CLOSING-BRACE : ℕ
CLOSING-BRACE = 0x7D

-- a path set: its items, and what stands behind it
pub record PathSet : Type 0 where
  pub items : List Span
  pub rest : Span

-- the items that are not empty
unfoldable pub non_empty : List Span → List Span
non_empty [] = []
non_empty (p ∷ ps) = let rest = non_empty ps in if is_empty p then rest else (p ∷ rest)

module _ (text : List ℕ) where
  -- the items between commas, trimmed
  unfoldable pub trimmed_items : Span → List Span
  trimmed_items p = map (trim text) (split text COMMA p)

  -- A path set keeps empty items; where nothing but White_Space stands between the braces it has none.
  unfoldable pub path_items : Span → List Span
  path_items p = let items = trimmed_items p in if is_empty p then [] else items

  -- in braces a path set ends at the first `}`; none where the brace is not closed
  unfoldable pub braced_set : Span → Option PathSet
  braced_set p = do
    c ← cut text CLOSING-BRACE p
    Some (record { items = path_items (trim text c.before); rest = c.after })

  -- without braces a path set is one item, blanks included, none if empty
  unfoldable pub plain_set : Span → PathSet
  plain_set p = record { items = if is_empty p then [] else (p ∷ []); rest = span p.end p.end }

  unfoldable pub path_set : Span → Option PathSet
  path_set p = let q = trim text p in elim (behind text "{" q) [ None ↦ Some (plain_set q) | Some r ↦ braced_set r ]

  -- A feature set in braces drops empty items; without braces it is split at white space.
  unfoldable pub features : Span → List Span
  features p =
      let q = trim text p in
      let in_braces = non_empty (trimmed_items (inner q)) in
      let apart = words text q in
      if begins text "{" q & ends text q CLOSING-BRACE then in_braces else apart
