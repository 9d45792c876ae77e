-- What is kept of the lines of a text, by their numbers. Assumes nothing.
use Rattle.std.specs.Prelude.{ℕ, ◌≡◌, List, get_or, None, Option, Some}
use Rattle.text.specs.Lines.{line_at}
use Rattle.script.specs.Values.{plain_rules}
use Rattle.script.specs.Roles.{step_of}
use Rattle.script.specs.declared.roles.Where.{Where}
use Rattle.script.specs.declared.roles.Step.{Step}
use Rattle.kept.specs.declared.Kept.{Kept}

-- a line that begins at a place and stands there, the next one's beginning, and what it is
abbrev pub kept_of : (at : ℕ) → Where → (next : ℕ) → Step → Kept
kept_of at w next step = record { at = at; stands = w; next = next; step = step }

-- what is kept under a number is right: of the line that begins and stands where it says, it has what that line is and where the next one begins
unfoldable pub Right : (text : List ℕ) → (number : ℕ) → Kept → Type 0
Right text number e = (e.step ≡ step_of plain_rules text e.stands (line_at text e.at number)) × (e.next ≡ (line_at text e.at number).next)

unfoldable pub Memo : (text : List ℕ) → List (Option Kept) → Type 0
Memo text kept = (number : ℕ) (e : Kept) → get_or kept number None ≡ Some e → Right text number e
