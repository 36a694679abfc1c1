-- The end that takes it, takes it as a piece.
use Rattle.rina_data.specs.Hops.{hop_of}
use Rattle.rina_dif.proofs.OnLinks.{own_taken}
use Rattle.rina_dif.proofs.dif.Dif.piece_taker.Goals as goal

pub returns-in-Piece : goal.returns-in-Piece
returns-in-Piece c = own_taken c.args.self.now c.args.came.now.since c.args.port (hop_of c.args.came.now.hop) c.taker.result (c.is_for_link.ensures.0 c.if-is_for_link.true) c.in-Piece.is c.taker.ensures
