use Rattle.rina_tower.proofs.FitRank.{raised, raised_ground}
use Rattle.rina_tower.proofs.build.add_rank.Goals as goal

pub make_rank-requires-clause-ground : goal.make_rank-requires-clause-ground
make_rank-requires-clause-ground c = raised_ground c.args.plan.now c.args.rank c.args.below c.requires.plan c.requires.raised

pub returns-in-Ok : goal.returns-in-Ok
returns-in-Ok c = rw c.in-Ok.ensures.ok (raised c.args.plan.now c.args.rank _ c.args.below c.make_rank.new.below c.bind_rank.new.tower c.in_ok-difs.difs c.requires.rank c.requires.raised c.in_ok-difs.ensures c.in_ok-bind_rank.ensures)
