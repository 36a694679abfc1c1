use Rattle.rina_dtcp.proofs.Standing.{again_none, again_some}
use Rattle.rina_dtcp.proofs.tx.Tx.next_due.Goals as goal

pub returns-in-Some : goal.returns-in-Some
returns-in-Some c = again_some c.args.now c.in-Some.at c.args.self.now c.pdu_at.result.now c.in-Some.ensures.place c.pdu_at.ensures

pub returns-in-None : goal.returns-in-None
returns-in-None c = again_none c.args.now c.args.self.now c.in-None.ensures.place
