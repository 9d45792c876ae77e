use Rattle.std.specs.Iterator.Adapters.{enumerate_source, enumerate_count}
use Rattle.values.specs.Unquote.{unescaped}
use Rattle.text.proofs.Front.{Written}
use Rattle.unquote.specs.UnquoteWalk.{unescaped_left}
use Rattle.unquote.proofs.unescape.Given as goal

abbrev pub invariant-loop-o : goal.invariant-loop-o
invariant-loop-o l = Written l.out (enumerate_count l.o-iterator) (unescaped_left (enumerate_source l.o-iterator)) (unescaped l.s)
