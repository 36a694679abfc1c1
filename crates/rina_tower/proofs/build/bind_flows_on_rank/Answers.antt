use Rattle.rina_tower.proofs.FitBound.{has_skipped}
use Rattle.rina_tower.proofs.build.bind_flows_on_rank.Goals as goal

pub returns-then-dif-rank : goal.returns-then-dif-rank
returns-then-dif-rank c = has_skipped c.args.plan.now c.args.rank c.args.place c.in-Some.dif.now c.args.tower.now c.in-Some.ensures c.if-dif-rank.true c.requires.valid
