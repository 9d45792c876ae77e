-- How a definition answers: with something, or with a refusal; and how several attempts are put one after the other. Assumes nothing.
use Rattle.std.specs.Prelude.{List, [], ◌∷◌, None, Option, Result, Some}
use Rattle.script.specs.declared.refusals.Reason.{Reason}

-- something that is read, or refused for a reason
abbrev pub Answer : (A : Type 0) → Type 0
Answer A = Result A Reason

-- a reading that goes on only where something was found
infixl 20 ◌>>=◌
abbrev pub ◌>>=◌ : {A B : Type 0} → Option A → (A → Option B) → Option B
None >>= f = None
Some a >>= f = f a

-- the first of several attempts that fits decides; where none fits, the last word
unfoldable pub first_of : {A : Type 0} → List (Option A) → A → A
first_of [] last = last
first_of (Some a ∷ rest) last = a
first_of (None ∷ rest) last = first_of rest last
