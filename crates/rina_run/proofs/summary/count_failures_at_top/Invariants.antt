-- So far these facilities are counted, and they are there.
use Rattle.std.proofs.Common.{◌≡◌, ◌≤◌, length, take}
use Rattle.std.specs.List.{sum_by}
use Rattle.rina_tower.specs.Ranks.{seen_of}
use Rattle.rina_run.specs.Drawn.{fac_failures}
use Rattle.rina_run.proofs.summary.count_failures_at_top.Given as goal

abbrev pub invariant-facilities : goal.invariant-facilities
invariant-facilities l = (l.count ≡ sum_by fac_failures (take l.fac (seen_of l.tower).facs)) × (l.fac ≤ length (seen_of l.tower).facs)
