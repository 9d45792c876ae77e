-- How an indented line begins, the sorts of lines, and where the line below one that is nothing stands. Assumes nothing.
use Rattle.std.specs.Prelude.{ℕ, Bool, List, if◌then◌else◌}
use Rattle.text.specs.Base.{◌or◌}
use Rattle.text.specs.declared.parts.Span.{Span}
use Rattle.script.specs.Pieces.{is_empty, begins}
use Rattle.script.specs.Values.{plain_rules}
use Rattle.script.specs.Roles.{step, expect_role, preamble_step, argument_step}
use Rattle.script.specs.declared.roles.Role.TheVariants.{Nothing}
use Rattle.script.specs.declared.roles.Step.{Step}
use Rattle.script.specs.declared.roles.Where.{Where}
use Rattle.script.specs.declared.roles.Where.TheVariants.{InPreamble, Outside, InBlock, InEntry}
use Rattle.openings.specs.OpeningRead.{opening_step}
use Rattle.roles.specs.declared.steps.Sort.{Sort}
use Rattle.roles.specs.declared.steps.Sort.TheVariants as sort
use Rattle.roles.specs.declared.steps.Front.{Front}
use Rattle.roles.specs.declared.steps.Front.TheVariants.{Skipped, Expect, Other}

unfoldable pub front_of : (text : List ℕ) → Span → Front
front_of text t = if is_empty t or begins text "#" t then Skipped else if begins text "expect" t then Expect else Other

-- what a line of a sort is
unfoldable pub sorted_step : (text : List ℕ) → Sort → Span → Step
sorted_step text sort.Preamble t = preamble_step text t
sorted_step text sort.Skipped t = step Nothing Outside
sorted_step text sort.Passed t = step Nothing InEntry
sorted_step text sort.Expect t = step (expect_role text t) InEntry
sorted_step text (sort.Argument takes list_open) t = argument_step plain_rules text takes list_open t
sorted_step text sort.Opening t = opening_step text t

-- below a line that is nothing: it ends argument lines, and the entry too where it is not indented
unfoldable pub below_nothing : Where → (inward : Bool) → Where
below_nothing InPreamble inward = InPreamble
below_nothing Outside inward = Outside
below_nothing (InBlock takes list_open) inward = if inward then InEntry else Outside
below_nothing InEntry inward = if inward then InEntry else Outside
