-- `subjects::one::judge_one` meets its contract. Assumes nothing.
use mathlib.Core.Path.{ap, ◌∙◌}
use mathlib.Core.List.{List}
use Prim.Native.Nat.{ℕ}
use native.Mathlib.Omega.{arith}
use lib.ListN.{length}
use Rattle.text.specs.Base.{overlaid}
use Rattle.sought.proofs.ValueLaws.{text-is}
use Rattle.subjects.proofs.one.judge_one.Goals as goal

pub write_value-requires : goal.write_value-requires
write_value-requires c =
    let h = c.args.s.held in
    let l = c.looked_value-value in
    omega (arith, c.requires, ap (λ (v : List ℕ). length v) (text-is h.bytes.now h.lists.now l.result _ (l.ensures h.bytes.now h.lists.now)))

pub returns-clause-scratch_after : goal.returns-clause-scratch_after
returns-clause-scratch_after c =
    let h = c.args.s.held in
    let l = c.looked_value-value in
    c.write_value.ensures.scratch_after ∙ ap (λ (v : List ℕ). overlaid v c.args.scratch.now) (text-is h.bytes.now h.lists.now l.result _ (l.ensures h.bytes.now h.lists.now))
