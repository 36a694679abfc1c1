use Rattle.std.proofs.Common.{arith, ◌+◌, ◌-◌}
use Rattle.rina_dtcp.proofs.Rising.{rise_dropped}
use Rattle.rina_dtcp.proofs.tx.Tx.drop_acknowledged.Goals as goal

pub invariant_of-self : goal.invariant_of-self
invariant_of-self c = rw c.forget.ensures (rise_dropped c.self.inside.cube c.self.inside.mixed c.saturating_sub.result (c.from-acked.result + 1 - c.self.inside.acked) c.self.inside.unacked.items c.self.invariant (omega arith))
