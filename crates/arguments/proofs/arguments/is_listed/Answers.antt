-- `arguments::arguments::is_listed` meets its contract: a list is open, and the line begins with a quote. Assumes nothing.
use Prim.Native.Nat.{ℕ}
use mathlib.Core.Path.{◌≡◌, refl}
use mathlib.Core.Bool.{Bool, false}
use mathlib.Core.List.{List}
use Rattle.text.specs.declared.parts.Span.{Span}
use Rattle.script.specs.declared.roles.Takes.{Takes}
use Rattle.script.specs.declared.roles.Takes.TheVariants.{NoLines, Options, Garbage, Verify, Texts, Store, Multiple, FirstData, FirstRaw}
use Rattle.arguments.specs.ArgumentRead.{listed}
use Rattle.arguments.proofs.arguments.is_listed.Goals as goal

other : (text : List ℕ) (takes : Takes) (list_open : Bool) (t : Span) → (takes ≡ Options → ⊥) → false ≡ listed text takes list_open t
unfolding listed
other text NoLines list_open t _ = refl
other text Options list_open t h = absurd (h refl)
other text Garbage list_open t _ = refl
other text Verify list_open t _ = refl
other text Texts list_open t _ = refl
other text Store list_open t _ = refl
other text Multiple list_open t _ = refl
other text FirstData list_open t _ = refl
other text FirstRaw list_open t _ = refl

pub returns-in_default : goal.returns-in_default
returns-in_default c = other _ c.args.takes c.args.list_open _ c.in_default.not-Options
