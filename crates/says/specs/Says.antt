-- What one line says, as the code takes it. Assumes nothing.
use Rattle.std.specs.Prelude.{ℕ, ◌≤◌, Bool, true, false, List, []}
use Rattle.script.specs.Contents.{pair_of}
use Rattle.script.specs.declared.roles.Saying.{Saying}
use Rattle.script.specs.declared.roles.Saying.TheVariants.{Known, Pair, NoColon, Unknown, NoPair, NoRaw}
use Rattle.tables.specs.Items.{items_for}

-- the items of the pair that is said, where the operation takes an override list
unfoldable pub pair_items : (options : Bool) → Saying → List (List ℕ)
pair_items false s = []
pair_items true s = items_for (pair_of s)

-- what is said starts no later than it ends
unfoldable pub Forward : Saying → Type 0
Forward (Known k v) = v.start ≤ v.end
Forward (Pair a b) = (a.start ≤ a.end) × (b.start ≤ b.end)
Forward NoColon = Unit {0}
Forward (Unknown k v) = Unit {0}
Forward NoPair = Unit {0}
Forward NoRaw = Unit {0}
