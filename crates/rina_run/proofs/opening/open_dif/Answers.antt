use Rattle.std.proofs.Common.{◌∙◌, ap}
use Rattle.rina_plan.specs.Numbers.{number_in_rank}
use Rattle.rina_run.proofs.Opens.{open_there}
use Rattle.rina_run.proofs.opening.open_dif.Goals as goal

pub open_flows-requires : goal.open_flows-requires
open_flows-requires c =
    rw c.as_slice-2.ensures (open_there c.args.plan.now c.args.tower.now c.args.at c.in-Some.dif.now c.from-rank.result c.number_in_rank-fac.result c.in-Some-first_end.first c.ends_at-ends.result.now c.requires.plan c.requires.built c.requires.height c.in-Some.ensures c.from-rank.ensures (c.number_in_rank-fac.ensures ∙ ap (λ ds. number_in_rank ds c.args.at) c.as_slice.ensures) c.in-Some-first_end.ensures.some c.ends_at-ends.ensures)
