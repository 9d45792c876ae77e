-- Demand 1: what it is to be total and in bounds, said of the machine and of no contract. Assumes nothing.
use Rattle.std.specs.Prelude.{ℕ, ◌≡◌}
use seplogic.Ra.Ura.{Ura}
use mir.Val.{Val}
use base.Logic.{SProp, sep}
use prog.Memory.{Memory}
use prog.Machine.{done}
use prog.Masks.{Masks}
use prog.Model.{Model}
use prog.Routine.{Callee, Env, Routine, step}
use prog.Wired.{Code, Wired}
use types.Logic.{Logic}
use contract.Adequate.{Satisfies}
use contract.Running.{Carries}
use denote.Signature.{Signature}
use denote.Triple.Entry.{on_entry}
use denote.Triple.Bound.{Bound, passed}

-- A run of the machine is `stuck` where it reads or writes outside, traps, or does anything else that has no meaning; it is a `timeout` where its fuel does
-- not last; else it is `done`. A function is total if from every memory in which its arguments are what its signature says, and nothing more is asked of
-- them, with some fuel it is done; and whatever else held of that memory holds still.
unfoldable pub Total : Signature → Routine → Type 2
Total signature routine =
    (M : Type 1) (𝓤 : Ura M) (𝓛 : Logic 𝓤) (𝓜 : Model 𝓤 𝓛.H) (𝓒 : Carries 𝓤 𝓛.H 𝓜 𝓛.H.turn) (𝓚 : Masks 𝓤 𝓛.H 𝓒.inner)
    (given : Bound 𝓛 signature) (memory : Memory) (else' : SProp 𝓤)
    → Satisfies 𝓤 𝓛.H 𝓜 memory (sep 𝓤 (on_entry 𝓛 signature given.0 given.1 given.3 given.4) else')
    → ∥ ((fuel : ℕ) × (value : Val) × (after : Memory) × (step routine fuel (passed 𝓛 signature given) memory ≡ done (value, after)) × Satisfies 𝓤 𝓛.H 𝓜 after else') ∥₁

-- In every environment that has the function's code, and that of all below it, what its name means there is total.
unfoldable pub TotalWherever : Signature → Code → Callee → Type 2
TotalWherever signature code name = (environment : Env) → Wired environment code → Total signature (environment name)
