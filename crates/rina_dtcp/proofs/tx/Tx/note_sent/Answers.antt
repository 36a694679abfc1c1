use Rattle.rina_dtcp.proofs.Standing.{note_row, on_ok}
use Rattle.rina_dtcp.proofs.tx.Tx.note_sent.Goals as goal

pub returns-clause-ok : goal.returns-clause-ok
returns-clause-ok c = on_ok c.note_piece.result (note_row c.args.now c.args.seq c.args.pdu.now c.args.self.now c.note_piece.new.self) c.note_piece.ensures.ok
