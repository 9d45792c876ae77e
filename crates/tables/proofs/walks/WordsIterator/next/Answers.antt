-- `tables::walks::Words` gives the words, one after the other. Assumes nothing.
use Rattle.tables.proofs.WalkLaws.{word_fits, word_forward}
use Rattle.tables.proofs.walks.WordsIterator.next.Goals as goal

pub front-requires : goal.front-requires
front-requires c = word_fits _ _ _ _ c.args.self.now.left.inside c.bytes.ensures c.word_at-w.ensures

pub behind-word-requires : goal.behind-word-requires
behind-word-requires c = rw (c.front.ensures.at) (word_forward _ _ _ _ c.args.self.now.left.inside c.bytes.ensures c.word_at-w.ensures)

pub behind-self-requires : goal.behind-self-requires
behind-self-requires c = word_fits _ _ _ _ c.args.self.now.left.inside c.bytes.ensures c.word_at-w.ensures
