-- The first IPC processes have their next hops.
use Rattle.rina_dif.specs.Routing.{AreRouted}
use Rattle.rina_dif.proofs.managements.route_all.Given as goal

abbrev pub invariant-loop-at : goal.invariant-loop-at
invariant-loop-at l = AreRouted l.members l.managements l.at l.fn.processes l.processes
