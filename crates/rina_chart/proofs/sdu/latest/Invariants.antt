use Rattle.std.proofs.Common.{◌≡◌, drop}
use Rattle.rina_chart.specs.Sdus.{latest}
use Rattle.rina_chart.proofs.sdu.latest.Given as goal

abbrev pub invariant-sdus : goal.invariant-sdus
invariant-sdus l = latest l.last (drop l.sdu-index l.sdus) ≡ latest l.first l.sdus
