use Rattle.rina_flows.proofs.Watched.{idle_beside, timed_beside}
use Rattle.rina_flows.proofs.conns.Conns.watched.Goals as goal

pub returns : goal.returns
returns c =
    let watch = c.self.inside.watch in
    rw (← c.self.view_is) (idle_beside c.args.now c.self.inside.items.items watch c.places_at.result (timed_beside watch.places.items watch.until watch.alarms c.self.inside.items.items c.self.invariant) c.places_at.ensures)
