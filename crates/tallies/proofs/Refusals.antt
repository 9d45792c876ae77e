-- The laws of the first refusal that applies. Assumes nothing.
use Rattle.std.specs.Prelude.{None, Option, Some}
use mathlib.Core.Path.{◌≡◌, refl}
use mathlib.Core.Bool.{Bool, true, false}
use mathlib.Core.List.{List, [], ◌∷◌}
use Rattle.script.specs.declared.records.Refusal.{Refusal}
use Rattle.script.specs.Refusals.{refusal}
use Rattle.script.specs.declared.refusals.Reason.{Reason}
use Rattle.tallies.specs.Answers.{refused_if, first_refusal}

pub no_test : first_refusal [] ≡ None
unfolding first_refusal
no_test = refl

-- a test that applies
pub hit : (r : Reason) (later : List (Option Refusal)) → first_refusal (refused_if r true ∷ later) ≡ Some (refusal r 0)
unfolding first_refusal refused_if
hit r later = refl

-- one that does not
pub pass : (r : Reason) (later : List (Option Refusal)) → first_refusal (refused_if r false ∷ later) ≡ first_refusal later
unfolding first_refusal refused_if
pass r later = refl

pub alone : (o : Option Refusal) → first_refusal (o ∷ []) ≡ o
unfolding first_refusal
alone None = refl
alone (Some r) = refl

-- none applies: not the first, and no later one
pub passed_by : (r : Reason) (b : Bool) (later : List (Option Refusal)) → first_refusal (refused_if r b ∷ later) ≡ None → (b ≡ false) × (first_refusal later ≡ None)
unfolding first_refusal refused_if
passed_by r true later e = (cc, cc)
passed_by r false later e = (refl, e)

-- two lists of tests that agree wherever a first test does not apply
pub agree : (r : Reason) (b : Bool) (xs ys : List (Option Refusal)) → (b ≡ false → first_refusal xs ≡ first_refusal ys) → first_refusal (refused_if r b ∷ xs) ≡ first_refusal (refused_if r b ∷ ys)
unfolding first_refusal refused_if
agree r true xs ys f = refl
agree r false xs ys f = f refl
