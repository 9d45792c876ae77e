-- `pieces::pieces::Piece::find` meets its contract: what is found stands inside the piece. Assumes nothing.
use Rattle.pieces.proofs.PieceLaws.{found_inside}
use Rattle.pieces.proofs.pieces.Piece.find.Goals as goal

pub returns-clause-inside : goal.returns-clause-inside
returns-clause-inside c = found_inside _ _ _ _ _ c.args.self.inside c.bytes.ensures c.find.ensures
