use Rattle.std.proofs.Common.{◌≡◌, drop}
use Rattle.std.specs.List.{list_any}
use Rattle.rina_plan.specs.Walks.{is_unfit_flow}
use Rattle.rina_plan.proofs.joined.any_unfit_flow.Given as goal

abbrev pub invariant-flows : goal.invariant-flows
invariant-flows l = list_any (is_unfit_flow l.net.dif.now) (drop l.flow-index l.flows) ≡ list_any (is_unfit_flow l.net.dif.now) l.flows
