use Rattle.std.proofs.Common.{arith}
use Rattle.rina_dtcp.proofs.Rising.{rise_touched}
use Rattle.rina_dtcp.proofs.Touching.{length-touched}
use Rattle.rina_dtcp.proofs.tx.Tx.mark_first_due.Goals as goal

pub returns-in-Some-clause-within : goal.returns-in-Some-clause-within
returns-in-Some-clause-within c = rw c.mark_resent.ensures (let same = length-touched c.self.inside.unacked.items c.in-Some.at c.args.now in let within = c.in-Some.ensures.within in omega arith)

pub invariant_of-self : goal.invariant_of-self
invariant_of-self c = rw c.mark_resent.ensures (rise_touched c.self.inside.cube c.self.inside.mixed c.max-self-inside.result c.in-Some.at c.args.now c.self.inside.unacked.items c.self.invariant (omega arith) (omega arith))
