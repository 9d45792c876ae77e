-- `arguments::keys::is_named` meets its contract: the letters compared with are those of the name. Assumes nothing.
use Prim.Native.Nat.{ℕ, ◌+◌, ◌-◌, ◌≤◌, ◌<◌}
use mathlib.Core.Path.{◌≡◌, refl, ◌∙◌}
use mathlib.Core.Bool.{Bool, false}
use mathlib.Core.List.{List}
use native.Mathlib.Omega.{arith}
use lib.ListN.{get_or, length, drop, length-drop}
use lib.Seq.{length-take-le}
use Rattle.text.specs.Base.{part}
use Rattle.text.specs.Parts.{same_bytes}
use Rattle.text.proofs.LiteralLaws.{other_length}
use Rattle.script.specs.Operations.{key_row}
use Rattle.arguments.specs.KeyTables.{argument_keys, name_at, letters, Starts}
use borrow.Author.Rules.{rules}
use Rattle.arguments.proofs.keys.is_named.Goals as goal

letters-length : length (letters argument_keys) ≡ 257
unfolding letters key_row
letters-length = refl

module _ (n : ℕ) (small : n < 26) (table : List ℕ) (t : Starts table) where
  forward : get_or table n 0 ≤ get_or table (n + 1) 0
  forward = (t.rule n small).forward

  inside : (names : List ℕ) → names ≡ letters argument_keys → get_or table (n + 1) 0 ≤ length names
  inside names l = rw (l, letters-length) (t.rule n small).inside

  compared : (names s : List ℕ) (r : Bool) → names ≡ letters argument_keys
      → r ≡ same_bytes s (part names (get_or table n 0) (get_or table (n + 1) 0 - get_or table n 0)) → r ≡ same_bytes s (name_at n)
  compared names s r l e = rw (l, (t.rule n small).bytes) at e

  name-length : length (name_at n) ≡ get_or table (n + 1) 0 - get_or table n 0
  name-length = let k = t.rule n small in rw (← k.bytes) (length-take-le _ (drop (get_or table n 0) (letters argument_keys)) (omega (arith, length-drop (get_or table n 0) (letters argument_keys), k.inside, letters-length)))

  longer : (s : List ℕ) → (length s ≡ get_or table (n + 1) 0 - get_or table n 0 → ⊥) → false ≡ same_bytes s (name_at n)
  longer s h = other_length s (name_at n) (λ e. h (e ∙ name-length))

ruleset places = (forward, inside, compared, longer)

pub returns-then-bytes-end : goal.returns-then-bytes-end
returns-then-bytes-end c = search (rules, places)

pub slice_bounds-is_word-end : goal.slice_bounds-is_word-end
slice_bounds-is_word-end c = search (rules, places)
