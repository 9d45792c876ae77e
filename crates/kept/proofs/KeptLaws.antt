-- Laws of what is kept. Assumes nothing.
use Prim.Native.Nat.{ℕ, zero, suc, ◌<◌}
use mathlib.Core.Path.{◌≡◌, refl, sym, ap}
use mathlib.Core.List.{List, [], ◌∷◌}
use native.Mathlib.Omega.{arith}
use lib.ListN.{length, get_or, set, replicate}
use denote.Struct.Props.{props}
use Rattle.std.specs.Prelude.{None, Option, Some}
use Rattle.text.specs.Lines.{line_at}
use Rattle.text.specs.declared.lines.Line.{Line}
use Rattle.text.proofs.LineLaws.{known}
use Rattle.script.specs.Values.{plain_rules}
use Rattle.script.specs.Inside.{In}
use Rattle.script.specs.Roles.{line_span, step_of}
use Rattle.script.specs.declared.roles.Where.{Where}
use Rattle.script.specs.declared.roles.Step.{Step}
use Rattle.kept.specs.declared.Kept.{Kept}
use Rattle.kept.specs.Kept.{kept_of, Right, Memo}

-- what is kept is right in one way at most, so that a struct may hold it as a fact
pub memo_prop : (text : List ℕ) (kept : List (Option Kept)) → IsProp (Memo text kept)
unfolding Memo Right
memo_prop text kept = hlevel props

-- where nothing is kept, nothing is wrong
abbrev nothing : Option Kept
nothing = None

blank_at : (n number : ℕ) → get_or (replicate n nothing) number nothing ≡ nothing
blank_at zero number = refl
blank_at (suc n) zero = refl
blank_at (suc n) (suc number) = blank_at n number

pub blank_memo : (text : List ℕ) (n : ℕ) → Memo text (replicate n None)
unfolding Memo
blank_memo text n number e q = let b = blank_at n number in let z : ⊥ = cc in absurd z

-- what holds of each element, and of a new one at its place, holds of each where the new one is stored
set_keeps : (P : ℕ → Option Kept → Type 0) (l : List (Option Kept)) (i : ℕ) (v d : Option Kept) → ((j : ℕ) → P j (get_or l j d)) → P i v → (j : ℕ) → P j (get_or (set l i v) j d)
set_keeps P [] i v d h p j = h j
set_keeps P (x ∷ xs) zero v d h p zero = p
set_keeps P (x ∷ xs) zero v d h p (suc j) = h (suc j)
set_keeps P (x ∷ xs) (suc i) v d h p zero = h zero
set_keeps P (x ∷ xs) (suc i) v d h p (suc j) = set_keeps (λ (k : ℕ). P (suc k)) xs i v d (λ (k : ℕ). h (suc k)) p j

module _ (text : List ℕ) (kept : List (Option Kept)) (number at : ℕ) (w : Where) (next : ℕ) (step : Step)
    (e : step ≡ step_of plain_rules text w (line_at text at number)) (f : next ≡ (line_at text at number).next) where
  new_right : (k : Kept) → Some (kept_of at w next step) ≡ Some k → Right text number k
  unfolding Right
  new_right k q = let r : kept_of at w next step ≡ k = cc in rw (← r) (e, f)

  -- a line that is kept leaves all right
  pub keep_memo : Memo text kept → Memo text (set kept number (Some (kept_of at w next step)))
  unfolding Memo
  keep_memo m = set_keeps (λ n o. (k : Kept) → o ≡ Some k → Right text n k) kept number (Some (kept_of at w next step)) None m new_right

-- ---- finding out

module _ (text : List ℕ) (at number : ℕ) (h : at < length text) (l : Line) (e : l ≡ line_at text at number) where
  pub line_in : In text (line_span l)
  line_in = let k = known text at number l h e in record { forward = k.forward; inside = k.inside }

  pub found_step : (w : Where) (s : Step) → s ≡ step_of plain_rules text w l → s ≡ step_of plain_rules text w (line_at text at number)
  found_step w s f = rw e at f

  pub found_next : l.next ≡ (line_at text at number).next
  found_next = ap (λ (m : Line). m.next) e

pub ruleset find_laws = (line_in, found_step, found_next)
