use Rattle.std.proofs.Common.{◌≡◌, ◌≤◌, take}
use Rattle.std.specs.Prelude.{count_by}
use Rattle.rina_plan.specs.Counts.{has_link_end}
use Rattle.rina_plan.proofs.counts.links_at.Given as goal

abbrev pub invariant-links : goal.invariant-links
invariant-links l = record {
  counted : l.count ≡ count_by (has_link_end l.node) (take l.link-index l.links);
  most : l.count ≤ l.link-index;
}
