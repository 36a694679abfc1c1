-- So far the links of these DIFs are counted.
use Rattle.std.proofs.Common.{◌≡◌, ◌==◌}
use Rattle.std.specs.Prelude.{count_by, flat_map}
use Rattle.std.specs.List.{range_with_len}
use Rattle.rina_iface.specs.declared.ask.Fixed.{Fixed}
use Rattle.rina_run.specs.Opening.{links_of_rank}
use Rattle.rina_run.proofs.opening.links_at.Given as goal

abbrev pub invariant-difs : goal.invariant-difs
invariant-difs l = l.count ≡ count_by (λ (f : Fixed). f.fac == l.fac) (flat_map (links_of_rank l.plan l.rank) (range_with_len 0 l.at))
