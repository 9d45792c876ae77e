-- `closing::front::put_front` meets its contract: so many items were written as the place went on. Assumes nothing.
use native.Mathlib.Omega.{arith}
use Rattle.stored.proofs.WriteLaws.{items_far}
use Rattle.closing.proofs.front.put_front.Goals as goal

pub overflow_sub-result : goal.overflow_sub-result
overflow_sub-result c = omega (arith, items_far _ _ _ c.put_features_of.ensures, c.position-start.ensures, c.position-middle.ensures)

pub overflow_sub-result-2 : goal.overflow_sub-result-2
overflow_sub-result-2 c = omega (arith, items_far _ _ _ c.put_features_of-2.ensures, c.position-middle.ensures, c.position.ensures)

pub returns-clause-features_value : goal.returns-clause-features_value
returns-clause-features_value c = omega (arith, items_far _ _ _ c.put_features_of.ensures, c.position-start.ensures, c.position-middle.ensures)

pub returns-clause-server_value : goal.returns-clause-server_value
returns-clause-server_value c = omega (arith, items_far _ _ _ c.put_features_of-2.ensures, c.position-middle.ensures, c.position.ensures)
