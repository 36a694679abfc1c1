use Rattle.std.proofs.Common.{◌≡◌, drop}
use Rattle.rina_chart.specs.Sdus.{nodes_from, nodes_of}
use Rattle.rina_chart.proofs.sdu.nodes_of.Given as goal

abbrev pub invariant-ends : goal.invariant-ends
invariant-ends l = nodes_from l.fac l.nodes (drop l.end-index l.ends) ≡ nodes_of l.fac l.ends
