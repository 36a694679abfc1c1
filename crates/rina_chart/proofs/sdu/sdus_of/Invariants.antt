use Rattle.std.proofs.Common.{◌≡◌, ◌++◌, drop}
use Rattle.std.specs.List.{flat_map}
use Rattle.rina_chart.specs.Sdus.{end_sdus}
use Rattle.rina_chart.proofs.sdu.sdus_of.Given as goal

abbrev pub invariant-ends : goal.invariant-ends
invariant-ends l = l.sdus ++ flat_map (end_sdus l.fac l.nodes l.ends l.offs) (drop l.end-index l.ends) ≡ flat_map (end_sdus l.fac l.nodes l.ends l.offs) l.ends
