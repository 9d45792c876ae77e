-- Demand 1: a function that is proved to meet a contract without `requires` is total. Assumes nothing.
use mathlib.Core.Path.{◌≡◌, sym, subst}
use mathlib.Core.Logic.{∥∥₁_map}
use seplogic.Ra.Ura.{Ura}
use base.Logic.{SProp, ent, sep, emp, id⊢, via, comm∗, mono_l, mono_r, emp∗, snd∗}
use types.Logic.{Logic}
use prog.Linked.{Has, Has-Wired, in_program, machine-Follows}
use prog.Machine.{Program}
use prog.Memory.{Memory}
use prog.Model.{Model}
use prog.Routine.{Callee, Routine, any_callee, machine}
use prog.Wired.{Code, Wired}
use contract.Adequate.{sat_weaken}
use contract.Lifetimes.{Lfts}
use contract.Monad.{Fun}
use contract.Running.{Running, real, real_at, within, alone}
use denote.Signature.{Signature}
use denote.Triple.Adequate.{adequate}
use denote.Triple.Entry.{Args, on_entry}
use denote.Triple.Spec.{Spec, triple_of, Meets}
use Rattle.claims.specs.Total.{Total, TotalWherever}

module _ (signature : Signature) (code : Code) (name : Callee)
    -- its contract
    (spec : (M : Type 1) (𝓤 : Ura M) (𝓛 : Logic 𝓤) → (Memory → SProp 𝓤) → (Routine → Fun 𝓤) → Spec 𝓤 signature) where
  -- its theorem
  abbrev pub Met : Type 2
  Met = (M : Type 1) (𝓤 : Ura M) (𝓛 : Logic 𝓤) (𝓜 : Model 𝓤 𝓛.H) (𝓡 : Running 𝓤 𝓛.H 𝓜) → Wired 𝓡.env code
      → Meets 𝓛 signature (𝓡.run (𝓡.env name)) (spec M 𝓤 𝓛 𝓜.mem 𝓡.returns)

  -- it asks nothing of a caller
  abbrev pub AsksNothing : Type 2
  AsksNothing = (M : Type 1) (𝓤 : Ura M) (𝓛 : Logic 𝓤) (mem : Memory → SProp 𝓤) (run : Routine → Fun 𝓤) (κs : Lfts signature.lifetimes)
      (a : Args signature κs) → (g : (spec M 𝓤 𝓛 mem run κs a).ghost) × ((spec M 𝓤 𝓛 mem run κs a).requires g ≡ emp 𝓤)

  pub total : Met → AsksNothing → TotalWherever signature code name
  unfolding Total TotalWherever alone real real_at
  total met asks γ wired M 𝓤 𝓛 𝓜 𝓒 𝓚 x σ F s =
      let 𝓡 = within 𝓤 𝓛.H 𝓜 (real 𝓤 𝓛.H 𝓜 𝓒 𝓚) γ in
      let c = spec M 𝓤 𝓛 𝓜.mem 𝓡.returns in
      let q = asks M 𝓤 𝓛 𝓜.mem 𝓡.returns x.0 x.3 in
      let own : SProp 𝓤 = on_entry 𝓛 signature x.0 x.1 x.3 x.4 in
      let none : ent 𝓤 (emp 𝓤) ((c x.0 x.3).requires q.0) = subst (λ (P : SProp 𝓤). ent 𝓤 (emp 𝓤) P) (sym q.1) (id⊢ 𝓤 (emp 𝓤)) in
      let pre : ent 𝓤 own (sep 𝓤 own ((c x.0 x.3).requires q.0)) =
      via 𝓤 (sep 𝓤 (emp 𝓤) own) (emp∗ 𝓤 own) (via 𝓤 (sep 𝓤 own (emp 𝓤)) (comm∗ 𝓤 (emp 𝓤) own) (mono_r 𝓤 own none)) in
      let k = triple_of 𝓛 signature c in
      ∥∥₁_map
      (adequate 𝓤 𝓛.H 𝓜 (alone 𝓤 𝓛.H 𝓜 𝓡 (γ name)) (λ s h. h, tt) any_callee k (met M 𝓤 𝓛 𝓜 𝓡 wired) (x, q.0) σ F (sat_weaken 𝓤 𝓛.H 𝓜 σ (mono_l 𝓤 F pre) s))
      (λ r. (r.0, r.1, r.2, r.3, sat_weaken 𝓤 𝓛.H 𝓜 r.2 (snd∗ 𝓤 (k.post (x, q.0) r.1) F) r.4))

-- such an environment is the machine that runs a program which has the function's code
pub in_programs : (signature : Signature) (code : Code) (name : Callee) → TotalWherever signature code name
    → (program : Program) → Has (in_program program) code → Total signature (machine program name)
unfolding TotalWherever
in_programs signature code name h program has = h (machine program) (Has-Wired (in_program program) (machine program) (machine-Follows program) code has)
