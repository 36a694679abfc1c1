-- So far these links are on the facility.
use Rattle.std.proofs.Common.{◌≡◌, ◌==◌, map, take}
use Rattle.std.specs.Prelude.{count_by, ◌≤◌}
use Rattle.rina_iface.specs.declared.ask.Fixed.{Fixed}
use Rattle.rina_dif.specs.Planned.{link_fixed}
use Rattle.rina_run.proofs.opening.links_with.Given as goal

abbrev pub invariant-links : goal.invariant-links
invariant-links l = record {
  count : l.count ≡ count_by (λ (f : Fixed). f.fac == l.fac) (map (link_fixed l.plan l.dif) (take l.link-index l.dif.links));
  few : l.count ≤ l.link-index;
}
