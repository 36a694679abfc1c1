use Rattle.std.proofs.Common.{◌≡◌, drop}
use Rattle.rina_chart.specs.Sdus.{least_sent}
use Rattle.rina_chart.proofs.sdu.least_sent.Given as goal

abbrev pub invariant-sdus : goal.invariant-sdus
invariant-sdus l = least_sent l.least (drop l.sdu-index l.sdus) ≡ least_sent l.first l.sdus
