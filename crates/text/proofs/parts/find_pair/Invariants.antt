use Rattle.std.proofs.Common.{◌≡◌}
use Rattle.std.specs.Iterator.Adapters.{enumerate_source, enumerate_count}
use Rattle.std.specs.Slice.Iter.{windows_rest, windows_size}
use Rattle.text.specs.Parts.{pair_position_from, pair_position}
use Rattle.text.proofs.parts.find_pair.Given as goal

abbrev pub invariant-loop-i : goal.invariant-loop-i
invariant-loop-i l = record {
  size : windows_size (enumerate_source l.i-iterator) ≡ 2;
  search : pair_position_from l.a l.b (enumerate_count l.i-iterator) (windows_rest (enumerate_source l.i-iterator)) ≡ pair_position l.a l.b l.s;
}
