-- `pieces::pieces::Piece::split_once` meets its contract: its parts are those of the definition. Assumes nothing.
use Rattle.pieces.proofs.CutLaws.{uncut, cut_there}
use Rattle.pieces.proofs.pieces.Piece.split_once.Goals as goal

pub returns-in-None-clause-value : goal.returns-in-None-clause-value
returns-in-None-clause-value c = uncut _ _ _ _ c.find.ensures.value c.in-None.is

pub returns-in-Some-clause-value : goal.returns-in-Some-clause-value
returns-in-Some-clause-value c = cut_there _ _ _ _ c.find.ensures.value _ c.in-Some.is _ _ c.front.ensures.at c.behind.ensures.at
