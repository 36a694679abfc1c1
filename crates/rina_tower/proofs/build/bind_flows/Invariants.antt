-- So far each flow is bound.
use Rattle.std.proofs.Common.{map, take}
use Rattle.rina_dif.specs.Planned.{flow_fixed}
use Rattle.rina_tower.specs.BuildSteps.{HasBound}
use Rattle.rina_tower.proofs.build.bind_flows.Given as goal

abbrev pub invariant-loop-flow : goal.invariant-loop-flow
invariant-loop-flow l = HasBound l.fn.tower (map (flow_fixed l.plan l.place) (take l.flow-index l.dif.flows)) l.tower
