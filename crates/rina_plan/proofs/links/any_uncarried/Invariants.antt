use Rattle.std.proofs.Common.{◌≡◌, drop, not}
use Rattle.std.specs.List.{list_any}
use Rattle.rina_plan.specs.declared.dif.LinkPlan.{LinkPlan}
use Rattle.rina_plan.specs.Links.{carries}
use Rattle.rina_plan.proofs.links.any_uncarried.Given as goal

abbrev pub invariant-links : goal.invariant-links
invariant-links l = list_any (λ (x : LinkPlan). not (carries l.wires l.difs l.pdu x.cube x.on)) (drop l.link-index l.links) ≡ list_any (λ (x : LinkPlan). not (carries l.wires l.difs l.pdu x.cube x.on)) l.links
