use Rattle.std.proofs.Common.{◌≡◌, ◌++◌, drop, map}
use Rattle.rina_chart.specs.Sdus.{sdu_of}
use Rattle.rina_chart.proofs.sdu.add_rows.Given as goal

abbrev pub invariant-rows : goal.invariant-rows
invariant-rows l = l.sdus ++ map (sdu_of l.nodes l.ends l.end) (drop l.row-index l.rows) ≡ l.initial.sdus ++ map (sdu_of l.nodes l.ends l.end) l.rows
