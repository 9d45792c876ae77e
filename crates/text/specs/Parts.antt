-- What reading needs besides: how a text begins and ends, where a byte stands in it, its parts between separators, and whether two are the same.
-- Assumes nothing.
use Rattle.std.specs.Prelude.{ℕ, ◌+◌, Bool, true, false, List, [], ◌∷◌, eqb, drop, if◌then◌else◌, None, Option, Some}
use Rattle.text.specs.Base.{◌&◌}
use Rattle.text.specs.declared.parts.Part.{Part}
use Rattle.text.specs.declared.parts.Span.{Span}

-- a piece of a text: from start up to, not including, end
abbrev pub span : (start end : ℕ) → Span
span start end = record { start = start; end = end }

-- the bytes of prefix stand at the front of s
unfoldable pub starts_with : (prefix s : List ℕ) → Bool
starts_with [] s = true
starts_with (p ∷ prefix) [] = false
starts_with (p ∷ prefix) (x ∷ s) = eqb x p & starts_with prefix s

-- the last byte is b
unfoldable pub ends_with : List ℕ → (b : ℕ) → Bool
ends_with [] b = false
ends_with (x ∷ []) b = eqb x b
ends_with (x ∷ y ∷ s) b = ends_with (y ∷ s) b

-- the same bytes
unfoldable pub same_bytes : (a b : List ℕ) → Bool
same_bytes [] [] = true
same_bytes [] (y ∷ b) = false
same_bytes (x ∷ a) [] = false
same_bytes (x ∷ a) (y ∷ b) = eqb x y & same_bytes a b

-- ---- the first place of a byte, and of a pair of bytes, counted from `at`

unfoldable pub position_from : (b at : ℕ) → List ℕ → Option ℕ
position_from b at [] = None
position_from b at (x ∷ rest) = let later = position_from b (at + 1) rest in if eqb x b then Some at else later

unfoldable pub position : (b : ℕ) → List ℕ → Option ℕ
position b s = position_from b 0 s

unfoldable pub pair_position_from : (a b at : ℕ) → List ℕ → Option ℕ
pair_position_from a b at [] = None
pair_position_from a b at (x ∷ rest) =
    let later = pair_position_from a b (at + 1) rest in
    if starts_with (a ∷ b ∷ []) (x ∷ rest) then Some at else later

unfoldable pub pair_position : (a b : ℕ) → List ℕ → Option ℕ
pair_position a b s = pair_position_from a b 0 s

-- ---- the parts between separators

-- a part from start up to, not including, end; whether another follows, which then begins at end + 1
abbrev pub part_of : (start end : ℕ) → (more : Bool) → Part
part_of start end more = record { start = start; end = end; more = more }

-- The parts between the bytes b, one more than there are such bytes; some may be empty. The part at hand began at start.
unfoldable pub split_from : (b start at : ℕ) → List ℕ → List Part
split_from b start at [] = part_of start at false ∷ []
split_from b start at (x ∷ rest) =
    let ended = part_of start at true ∷ split_from b (at + 1) (at + 1) rest in
    let longer = split_from b start (at + 1) rest in
    if eqb x b then ended else longer

unfoldable pub split : (b : ℕ) → List ℕ → List Part
split b s = split_from b 0 0 s

-- the part that begins at `at`
unfoldable pub part_from : (b start at : ℕ) → List ℕ → Part
part_from b start at [] = part_of start at false
part_from b start at (x ∷ rest) = let longer = part_from b start (at + 1) rest in if eqb x b then part_of start at true else longer

unfoldable pub part_at : (b : ℕ) → List ℕ → (at : ℕ) → Part
part_at b s at = part_from b at at (drop at s)
