use Rattle.std.proofs.Common.{List, sym, subst}
use Rattle.rina_conn.specs.declared.conn.Conn.{Conn}
use Rattle.rina_flows.specs.Quiet.{AreTimed}
use Rattle.rina_flows.proofs.Watched.{none_timed}
use Rattle.rina_flows.proofs.conns.Conns.new.Goals as goal

pub invariant_of-result : goal.invariant_of-result
invariant_of-result c =
    let watch = c.new-2.result in
    subst (λ (ks : List Conn). AreTimed watch.places.items watch.until watch.alarms ks) (sym c.new.ensures.items) (none_timed watch.places.items watch.until watch.alarms c.new-2.ensures.until c.new-2.ensures.alarms)
