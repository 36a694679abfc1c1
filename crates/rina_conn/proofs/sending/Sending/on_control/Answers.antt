use Rattle.rina_conn.proofs.Offering.{told_row}
use Rattle.rina_conn.proofs.sending.Sending.on_control.Goals as goal

pub returns-clause-told : goal.returns-clause-told
returns-clause-told c = told_row c.args.ack c.args.right c.args.self.now c.on_control.new.self c.on_control.ensures
