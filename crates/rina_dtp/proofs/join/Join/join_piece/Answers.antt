use Rattle.rina_delim.specs.Joining.{piece}
use Rattle.rina_dtp.proofs.Growing.{grows_taken}
use Rattle.rina_dtp.proofs.join.Join.join_piece.Goals as goal

pub returns-then-has_room-clause-grows : goal.returns-then-has_room-clause-grows
returns-then-has_room-clause-grows c = rw c.push_piece.ensures.taken (grows_taken (piece c.args.number c.args.first c.args.last c.args.body.now) c.args.self.now)
