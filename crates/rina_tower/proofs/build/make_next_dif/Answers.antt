use Rattle.rina_tower.proofs.FitRank.{laid_next, laid_over, may_lay}
use Rattle.rina_tower.proofs.build.make_next_dif.Goals as goal

pub returns-then-dif-rank : goal.returns-then-dif-rank
returns-then-dif-rank c = laid_over c.args.plan.now c.args.rank c.args.place c.in-Some.dif.now c.args.difs.now c.args.below.now c.in-Some.ensures c.if-dif-rank.true c.requires.place c.requires.valid

pub of_plan-requires-clause-can : goal.of_plan-requires-clause-can
of_plan-requires-clause-can c = may_lay c.args.plan.now c.args.rank c.args.place c.in-Some.dif.now c.args.difs.now c.args.below.now c.in-Some.ensures c.if-dif-rank.false c.requires.place c.requires.plan c.requires.laying

pub returns : goal.returns
returns c = laid_next c.args.plan.now c.args.rank c.args.place c.in-Some.dif.now c.args.difs.now c.push.new.self c.in_ok-made.made c.args.below.now c.of_plan.new.below c.in-Some.ensures c.if-dif-rank.false c.requires.place c.requires.plan c.requires.valid c.in_ok-made.ensures.valid c.in_ok-made.ensures.below c.in_ok-made.ensures.laid c.in_ok-made.ensures.stands c.in_ok-made.ensures.exact c.in_ok-made.ensures.connected c.in_ok-made.ensures.whole (c.in_ok-made.ensures.laid_so c.in-Some.dif.now c.in-Some.ensures) c.in_ok-push.ensures.ok
