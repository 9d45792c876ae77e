-- `values::number::parse_i64` meets its contract: by the first byte, if there is one, and by what the unsigned reading answers. Assumes nothing.
-- with a `-` in front, and without
use Rattle.std.proofs.lemmas.List.{take_rest}
use mathlib.Core.Path.{sym, ◌∙◌}
use native.Mathlib.Omega.{arith}
use lib.ListN.{drop}
use Rattle.values.proofs.ParseI64Laws.{below, taken}
use Rattle.values.proofs.number.parse_i64.Goals as goal

pub returns-in_ok-digits_up_to-in-45 : goal.returns-in_ok-digits_up_to-in-45
returns-in_ok-digits_up_to-in-45 c =
    let q = rw take_rest at c.in_ok-digits_up_to-in-45.ensures in
    taken (drop 1 c.args.s.now) _ _ q c.checked_sub_unsigned.ensures ∙ sym (below c.args.s.now c.in-45.len_at_least (omega arith))
