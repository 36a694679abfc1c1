use Rattle.rina_dtcp.proofs.Standing.{all_row, on_ok}
use Rattle.rina_dtcp.proofs.tx.Tx.note_all.Goals as goal

pub returns-clause-ok : goal.returns-clause-ok
returns-clause-ok c = on_ok c.note_pieces.result (all_row c.args.now c.args.seq c.args.pdus.now c.args.self.now c.note_pieces.new.self c.requires.some) c.note_pieces.ensures.ok
