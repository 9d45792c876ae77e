-- What the code's answers about opening lines say. Assumes nothing.
use Rattle.std.specs.Prelude.{ℕ, List, Err, Ok}
use Rattle.text.specs.declared.parts.Span.{Span}
use Rattle.script.specs.Roles.{step, opening_role, after_opening}
use Rattle.script.specs.Inside.{In}
use Rattle.script.specs.declared.roles.Step.{Step}
use Rattle.script.specs.Answers.{Answer}
use Rattle.script.specs.declared.roles.Stamped.{Stamped}

-- what follows a timestamp that was read lies in the text
abbrev pub RestIn : List ℕ → Answer Stamped → Type 0
RestIn text (Ok s) = In text s.rest
RestIn text (Err n) = Unit {0}

-- a line that opens an entry, and where the next one stands
unfoldable pub opening_step : (text : List ℕ) → Span → Step
opening_step text t = let role = opening_role text t in step role (after_opening role)
