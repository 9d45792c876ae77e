-- `printed::lines::put_entry_line` meets its contract. Assumes nothing.
use mathlib.Core.Path.{ap, ◌∙◌}
use native.Mathlib.Omega.{arith}
use Rattle.wire.specs.Operations.{operation}
use Rattle.wire.specs.declared.ops.Op.{Op}
use Rattle.writing.proofs.DecimalLaws.{decimal-length}
use Rattle.printed.proofs.PutLaws.{entry_put}
use Rattle.printed.proofs.lines.put_entry_line.Goals as goal

pub put_decimal-requires : goal.put_decimal-requires
put_decimal-requires c = omega (arith, decimal-length c.args.e.line (omega arith))

pub returns : goal.returns
returns c =
    let done =
    entry_put c.args.e _ (c.code.ensures ∙ ap (λ (o : Op). (operation o).code) c.op_of.ensures) c.args.w.now _ c.requires (c.put_decimal.ensures.written, c.put_decimal.ensures.upper_bound)
    _ (c.put_after.ensures.written, c.put_after.ensures.upper_bound)
    _ (c.put_after-2.ensures.written, c.put_after-2.ensures.upper_bound)
    _ c.put_one.ensures in
    record { written = done.0; upper_bound = done.1 }
