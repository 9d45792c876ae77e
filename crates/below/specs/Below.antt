-- The lines up to the next opening line, and what stands from there on. Assumes nothing.
use Rattle.std.specs.Prelude.{ℕ, ◌+◌, ◌≤◌, ◌<◌, Bool, true, false, List, [], ◌∷◌, length, drop, if◌then◌else◌, None, Option, Some}
use Rattle.text.specs.Lines.{lines_from}
use Rattle.script.specs.Values.{plain_rules}
use Rattle.script.specs.Roles.{Marked, marked, roles_from}
use Rattle.script.specs.Inside.{In}
use Rattle.script.specs.Contents.{is_opening, pairs}
use Rattle.script.specs.declared.roles.Where.{Where}
use Rattle.script.specs.declared.roles.Saying.{Saying}
use Rattle.script.specs.declared.roles.Role.TheVariants.{Opens}
use Rattle.tables.specs.Items.{items_for}
use Rattle.below.specs.declared.lines_below.Ahead.{Ahead}

-- what the lines from a place on are
unfoldable pub roles_at : (text : List ℕ) → Where → (at number : ℕ) → List Marked
roles_at text w at number = roles_from plain_rules text w (lines_from number at at at (drop at text))

-- the lines from the next opening line on
unfoldable pub ahead : List Marked → List Marked
ahead [] = []
ahead (m ∷ ms) = let here = m ∷ ms in let later = ahead ms in if is_opening m.role then here else later

-- the same, as the code says it
unfoldable pub ahead_of : (text : List ℕ) → Option Ahead → List Marked
ahead_of text None = []
ahead_of text (Some e) = marked e.line (Opens e.opening) ∷ roles_at text e.stands e.at (e.line + 1)

-- it is a place of the text behind `from`, the line's number is no larger, and what stands behind the operation's name lies in the text
unfoldable pub NextIn : (text : List ℕ) → (from : ℕ) → Option Ahead → Type 0
NextIn text from None = Unit {0}
NextIn text from (Some e) = (from < e.at) × (e.at ≤ length text) × (e.line ≤ e.at) × In text e.opening.args

-- the items of the pairs that are said, where the operation takes an override list
unfoldable pub pairs_items : (options : Bool) → List Saying → List (List ℕ)
pairs_items false ss = []
pairs_items true ss = items_for (pairs ss)
