use Rattle.rina_tower.proofs.FitRank.{all_laid, laid_more}
use Rattle.rina_tower.proofs.build.make_rank.Goals as goal

pub returns : goal.returns
returns c = all_laid c.args.plan.now c.args.rank c.loop-place.place c.len-place-end.result c.args.below.now c.loop-place.below c.loop-place.difs c.loop-place.auto.place-end c.loop-place-test.false c.len-place-end.ensures c.loop-place.invariant

pub loop-place-preserved : goal.loop-place-preserved
loop-place-preserved c = laid_more c.args.plan.now c.args.rank c.loop-place.place c.args.below.now c.loop-place.below c.make_next_dif.new.below c.loop-place.difs c.make_next_dif.new.difs c.requires.ground c.loop-place.invariant c.in_ok-make_next_dif.ensures
