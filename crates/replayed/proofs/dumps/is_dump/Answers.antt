-- `replayed::dumps::is_dump` meets its contract. The loop's invariant: the words and the bytes that are left are a dump just where all of them are. Assumes
-- nothing.
use Prim.Native.Nat.{◌-◌, ◌<◌}
use lib.ListN.{length}
use Rattle.replayed.proofs.DumpLaws.{word_less, no_word, other, goes_on}
use borrow.Author.Rules.{rules}
use Rattle.replayed.proofs.dumps.is_dump.Goals as goal

pub returns-then-is_empty : goal.returns-then-is_empty
returns-then-is_empty c = no_word _ _ _ _ c.word.ensures.bytes c.word.ensures.at c.loop-word.left.inside _ _ _ c.loop-word.invariant (search rules) _ c.same.ensures

pub returns-then-not-is_in_front : goal.returns-then-not-is_in_front
returns-then-not-is_in_front c = other _ _ _ _ c.word.ensures.bytes c.word.ensures.at c.loop-word.left.inside _ _ _ c.loop-word.invariant (search rules) _ c.is_in_front.ensures (search rules)

pub loop-word-smaller : goal.loop-word-smaller
loop-word-smaller c =
    let n : length c.word.result.1.line.now - c.word.result.1.at < length c.loop-word.left.line.now - c.loop-word.left.at =
    rw c.word.ensures.line (word_less _ _ _ _ c.word.ensures.bytes c.word.ensures.at c.loop-word.left.inside (search rules)) in
    n

pub loop-word-preserved : goal.loop-word-preserved
loop-word-preserved c =
    rw c.word.ensures.line (goes_on _ _ _ _ c.word.ensures.bytes c.word.ensures.at c.loop-word.left.inside _ _ _ c.loop-word.invariant (search rules) _ c.is_in_front.ensures (search rules))
