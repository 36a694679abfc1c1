use Rattle.std.proofs.Common.{◌≡◌, drop}
use Rattle.rina_chart.specs.Lanes.{longest}
use Rattle.rina_chart.proofs.lane.longest.Given as goal

abbrev pub invariant-nodes : goal.invariant-nodes
invariant-nodes l = longest l.most (drop l.node-index l.nodes) ≡ longest 0 l.nodes
