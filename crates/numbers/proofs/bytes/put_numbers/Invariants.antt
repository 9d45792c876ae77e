use mathlib.Core.Path.{◌≡◌}
use lib.ListN.{take}
use Rattle.written.specs.Writing.{wrote}
use Rattle.numbers.specs.Numbers.{in_bytes}
use Rattle.numbers.proofs.bytes.put_numbers.Given as goal

abbrev pub invariant-loop-n : goal.invariant-loop-n
invariant-loop-n l = l.w ≡ wrote (in_bytes (take l.n-index l.numbers)) l.fn.w
