use Rattle.rina_dtcp.proofs.Still.{sender_due, sender_still}
use Rattle.rina_dtcp.proofs.tx.Tx.still_until.Goals as goal

pub returns-clause-before : goal.returns-clause-before
returns-clause-before c = rw (← c.self.view_is) (sender_still c.still_until.result _ c.still_until.ensures.before)

pub returns-clause-from : goal.returns-clause-from
returns-clause-from c = rw (← c.self.view_is) (sender_due c.still_until.result _ c.still_until.ensures.from)
