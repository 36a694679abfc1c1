use Rattle.std.proofs.Common.{◌≡◌, drop, ◌==◌}
use Rattle.std.specs.List.{list_any}
use Rattle.rina_plan.specs.declared.dif.MemberPlan.{MemberPlan}
use Rattle.rina_plan.proofs.links.has_node.Given as goal

abbrev pub invariant-members : goal.invariant-members
invariant-members l = list_any (λ (m : MemberPlan). m.node == l.node) (drop l.member-index l.members) ≡ list_any (λ (m : MemberPlan). m.node == l.node) l.members
