-- The four ordering matchers as the code tells them apart. Assumes nothing.
use Rattle.std.specs.Prelude.{ℕ, Bool, eqb, ℤ, if◌then◌else◌}
use Rattle.std.specs.Int.Signed.{lt_z, le_z}
use Rattle.verdicts.specs.Expected as expected
use Rattle.verdicts.specs.Expected.{Matching}
use Rattle.orders.specs.declared.Order.{Order}
use Rattle.orders.specs.declared.Order.TheVariants.{GreaterThan, LessThan, GreaterOrEqual, LessOrEqual}

-- the matcher with this order and the number n
unfoldable pub matching : Order → ℤ → Matching
matching GreaterThan n = expected.greater_than n
matching LessThan n = expected.less_than n
matching GreaterOrEqual n = expected.greater_or_equal n
matching LessOrEqual n = expected.less_or_equal n

-- whether the value v passes it
unfoldable pub holding : Order → (n v : ℤ) → Bool
holding GreaterThan n v = lt_z n v
holding LessThan n v = lt_z v n
holding GreaterOrEqual n v = le_z n v
holding LessOrEqual n v = le_z v n

-- as a host numbers them: 1 to 4 for `>`, `<`, `>=`, `<=`; any other number reads as `<=`
unfoldable pub order_of : (kind : ℕ) → Order
order_of kind =
    if eqb kind 1 then GreaterThan
    else if eqb kind 2 then LessThan
    else if eqb kind 3 then GreaterOrEqual
    else LessOrEqual
