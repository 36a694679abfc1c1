use Rattle.rina_dtcp.proofs.tx.Tx.count_sent.Goals.{then-begins, else-begins}
use Rattle.rina_dtcp.proofs.tx.Tx.count_sent.Goals as goal

pub invariant_of-self : goal.invariant_of-self
invariant_of-self c = elim c.if-begins.branch [ then-begins w ↦ rw w.self-inside-is c.self.invariant | else-begins w ↦ rw w.self-inside-is c.self.invariant ]
