use Rattle.rina_flows.proofs.Watched.{shifted, timed_until}
use Rattle.rina_flows.proofs.watch.Watch.settle.Goals as goal

pub loop-preserved : goal.loop-preserved
loop-preserved c = shifted c.loop.self c.ring.new.self c.args.conns.now c.ring.ensures.shifts c.loop.invariant

pub returns : goal.returns
returns c =
    let rang = c.ring.new.self in
    timed_until rang.places.items rang.until c.quiet_until-until.result rang.alarms c.quiet_until-until.new.self c.args.conns.now (shifted c.loop.self rang c.args.conns.now c.ring.ensures.shifts c.loop.invariant) c.quiet_until-until.ensures.same c.quiet_until-until.ensures.least
