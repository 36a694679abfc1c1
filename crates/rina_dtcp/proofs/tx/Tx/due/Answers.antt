use Rattle.std.proofs.Common.{refl}
use Rattle.rina_dtcp.proofs.Standing.{lends_some, lends_none}
use Rattle.rina_dtcp.proofs.tx.Tx.due.Goals as goal

pub returns-in-Some : goal.returns-in-Some
returns-in-Some c = ((refl, λ last. tt, lends_some c.args.now c.in-Some.at c.args.self.now c.mark_first_due.new.self c.pdu_at.result.now c.in-Some.ensures.place c.in-Some.ensures.marks c.pdu_at.ensures), tt)

pub returns-in-None : goal.returns-in-None
returns-in-None c = ((refl, λ last. tt, lends_none c.args.now c.args.self.now c.mark_first_due.new.self c.in-None.ensures.place c.in-None.ensures.marks), tt)
