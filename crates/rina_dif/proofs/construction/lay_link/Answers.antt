use Rattle.rina_dif.proofs.Wiring.{lays_link, still_aligned}
use Rattle.rina_dif.proofs.construction.lay_link.Goals as goal

pub lay_port-requires-2 : goal.lay_port-requires-2
lay_port-requires-2 g c = still_aligned c.args.settings.now c.in-Ok.a c.args.processes.now c.lay_port.new.processes c.requires.aligned c.in_ok-lay_port.ensures

pub returns-clause-ok : goal.returns-clause-ok
returns-clause-ok g c = lays_link c.args.settings.now c.args.fixed.now (g.F.Facility.seen c.args.below.now) (g.F.Facility.seen c.bind.new.self) c.in-Ok.a c.in-Ok.b c.args.processes.now c.lay_port.new.processes c.lay_port-2.new.processes c.in-Ok.ensures.does c.in_ok-lay_port.ensures c.in_ok-lay_port-2.ensures
