use Rattle.std.proofs.Common.{◌≡◌, drop}
use Rattle.std.specs.List.{list_any}
use Rattle.rina_plan.specs.declared.dif.LinkPlan.{LinkPlan}
use Rattle.rina_plan.specs.Links.{is_dynamic}
use Rattle.rina_plan.proofs.links.any_on_dynamic.Given as goal

abbrev pub invariant-links : goal.invariant-links
invariant-links l = list_any (λ (x : LinkPlan). is_dynamic l.difs x.on) (drop l.link-index l.links) ≡ list_any (λ (x : LinkPlan). is_dynamic l.difs x.on) l.links
