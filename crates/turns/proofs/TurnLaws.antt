-- Laws of what a line is, as it was kept. Assumes nothing.
use Prim.Native.Nat.{ℕ, zero, suc, ◌<◌}
use mathlib.Core.Path.{◌≡◌, sym, ◌∙◌}
use mathlib.Core.Bool.{true}
use mathlib.Core.List.{List, [], ◌∷◌}
use native.Mathlib.Omega.{arith}
use lib.Dec.{ltb}
use lib.ListN.{length, get_or}
use borrow.Author.Tests.{ltb-true}
use Rattle.std.specs.Prelude.{None, Option, Some}
use Rattle.text.specs.Lines.{line_at}
use Rattle.script.specs.Values.{plain_rules}
use Rattle.script.specs.Roles.{step_of}
use Rattle.script.specs.declared.roles.Where.{Where}
use Rattle.kept.specs.declared.Kept.{Kept}
use Rattle.kept.specs.Kept.{Right, Memo}
use Rattle.turns.specs.declared.Turn.{Turn}
use Rattle.turns.specs.Turns.{turn_of}

-- what stands in a table, whatever is said of what stands outside
found_at : (l : List (Option Kept)) (i : ℕ) (d v : Option Kept) → i < length l → v ≡ get_or l i v → get_or l i d ≡ v
found_at [] i d v h q = absurd (omega arith)
found_at (x ∷ l) zero d v h q = sym q
found_at (x ∷ l) (suc i) d v h q = found_at l i d v (omega arith) q

pub kept_at : (l : List (Option Kept)) (i : ℕ) (v : Option Kept) (e : Kept) → true ≡ ltb i (length l) → v ≡ get_or l i v → v ≡ Some e → get_or l i None ≡ Some e
kept_at l i v e h q f = found_at l i None v (ltb-true i (length l) (sym h)) q ∙ f

-- what is right and is of the line that begins and stands there says what that line is
pub told : (text : List ℕ) (kept : List (Option Kept)) (number at : ℕ) (w : Where) → Memo text kept → (e : Kept) → get_or kept number None ≡ Some e → (e.at ≡ at) × (e.stands ≡ w)
    → (t : Turn) → t ≡ turn_of e → (t.step ≡ step_of plain_rules text w (line_at text at number)) × (t.next ≡ (line_at text at number).next)
unfolding Memo Right
told text kept number at w m e q f t r =
    let z : Right text number e = m number e q in
    rw (r, ← f.0, ← f.1) z
