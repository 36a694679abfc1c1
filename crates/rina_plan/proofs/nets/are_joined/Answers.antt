use Rattle.std.proofs.Common.{ap, ◌∙◌}
use Rattle.rina_plan.specs.declared.dif.DifPlan.{DifPlan}
use Rattle.rina_plan.specs.Walks.{is_joined}
use Rattle.rina_plan.proofs.Walking.{joined_exactly}
use Rattle.rina_plan.proofs.nets.are_joined.Goals as goal

pub returns : goal.returns
returns c = joined_exactly c.joins.result c.args.dif.now.links c.args.one c.args.other (c.joins.ensures ∙ ap (λ (d : DifPlan). is_joined d.links c.args.one c.args.other) c.in_ok-net.ensures)
