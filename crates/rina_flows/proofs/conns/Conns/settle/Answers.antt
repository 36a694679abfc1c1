use Rattle.std.proofs.Common.{List, subst}
use Rattle.rina_conn.specs.declared.conn.Conn.{Conn}
use Rattle.rina_flows.specs.Quiet.{AreTimed}
use Rattle.rina_flows.proofs.conns.Conns.settle.Goals as goal

pub settle-requires : goal.settle-requires
settle-requires c = rw c.as_slice.ensures.value c.self.invariant

pub invariant_of-self : goal.invariant_of-self
invariant_of-self c = subst (λ (ks : List Conn). AreTimed c.settle.new.self.places.items c.settle.new.self.until c.settle.new.self.alarms ks) c.as_slice.ensures.value c.settle.ensures
