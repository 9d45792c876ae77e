-- `exports::nwscript_ordering` meets its contract. Assumes nothing.
use Prim.Native.Nat.{ℕ}
use mathlib.Core.Path.{◌≡◌}
use mathlib.Core.List.{List}
use lib.IntN.{ℤ}
use mir.Syntax.{w64}
use mir.Val.{SFits}
use borrow.Author.Rules.{rules}
use Rattle.verdicts.specs.Decisions.{decides}
use Rattle.verdicts.specs.Verdicts.{code}
use Rattle.orders.specs.Orders.{matching, order_of}
use Rattle.orders.proofs.SignedLaws.{back, back_is}
use Rattle.exports.proofs.nwscript_ordering.Goals as goal

handed-on : (kind : ℕ) (n : ℤ) (value : List ℕ) (r : ℕ) → SFits w64 n → r ≡ code (decides (matching (order_of kind) (back n)) value) → r ≡ code (decides (matching (order_of kind) n) value)
handed-on kind n value r f e = rw (back_is n f) at e

pub returns : goal.returns
returns c = search (rules, handed-on)
