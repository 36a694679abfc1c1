use Rattle.rina_flows.proofs.Watched.{timed_beside}
use Rattle.rina_flows.proofs.conns.Conns.quiet_until.Goals as goal

pub quiet_until-requires : goal.quiet_until-requires
quiet_until-requires c =
    let watch = c.self.inside.watch in
    rw c.as_slice.ensures.value (timed_beside watch.places.items watch.until watch.alarms c.self.inside.items.items c.self.invariant)

pub returns : goal.returns
returns c = rw (← c.self.view_is, ← c.as_slice.ensures.value) c.quiet_until.ensures
