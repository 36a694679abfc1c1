use Rattle.std.proofs.Common.{◌≡◌, ◌≤◌, take, ◌&&◌}
use Rattle.std.specs.Prelude.{count_by}
use Rattle.rina_plan.specs.declared.dif.LinkPlan.{LinkPlan}
use Rattle.rina_plan.specs.Counts.{has_link_end, is_on_dif}
use Rattle.rina_plan.proofs.counts.links_above.Given as goal

abbrev pub invariant-links : goal.invariant-links
invariant-links l = record {
  counted : l.count ≡ count_by (λ (x : LinkPlan). is_on_dif l.at x.on && has_link_end l.node x) (take l.link-index l.links);
  most : l.count ≤ l.link-index;
}
