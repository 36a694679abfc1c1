-- The next hops of each DIF go by its plan.
use Rattle.rina_laws.proofs.PlannedRun.{routes_as_planned}
use Rattle.rina_laws.proofs.next_hops_go_by_the_plan.Goals as goal

pub returns : goal.returns
returns c = routes_as_planned
