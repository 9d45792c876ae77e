-- `stamps::timestamps::some_digits` meets its contract: something stands before the end of the digits, and nothing behind it. Assumes nothing.
use mathlib.Core.Path.{◌≡◌, ◌∙◌}
use mathlib.Core.Bool.{false, not}
use native.Mathlib.Omega.{arith}
use lib.Dec.{eqb}
use lib.ListN.{length}
use Rattle.std.proofs.lemmas.Bool.Decides.{nat_tests}
use Rattle.stamps.proofs.TimeLaws.{nothing_there, by_rest}
use Rattle.stamps.proofs.timestamps.some_digits.Goals as goal

pub returns-then-not-is_empty : goal.returns-then-not-is_empty
returns-then-not-is_empty c =
    let h : length c.digit_run.result.0.now ≡ 0 → ⊥ = λ z. grind (arith, nat_tests) in
    let e : c.is_empty-then-not-is_empty.result ≡ eqb (length c.digit_run.result.1.now) 0 = grind (arith, nat_tests) in
    e ∙ by_rest _ _ _ c.digit_run.ensures h

pub returns-else-not-is_empty : goal.returns-else-not-is_empty
returns-else-not-is_empty c =
    let h : length c.digit_run.result.0.now ≡ 0 = grind (arith, nat_tests) in
    let e : not c.is_empty.result ≡ false = grind (arith, nat_tests) in
    e ∙ nothing_there _ _ _ c.digit_run.ensures h
