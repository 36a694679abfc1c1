use Rattle.rina_dtcp.proofs.Standing.{room_row}
use Rattle.rina_dtcp.proofs.tx.Tx.room.Goals as goal

pub returns : goal.returns
returns c = room_row c.args.now c.args.self.now c.room_left.result c.room_left.ensures
