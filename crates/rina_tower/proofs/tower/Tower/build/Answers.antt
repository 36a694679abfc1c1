use Rattle.std.proofs.Common.{List, subst}
use Rattle.rina_plan.specs.declared.dif.DifPlan.{DifPlan}
use Rattle.rina_tower.specs.BuildSteps.{IsHighest}
use Rattle.rina_tower.proofs.FitRank.{at_top, last_built, last_can, last_planned, last_whole}
use Rattle.rina_tower.proofs.tower.Tower.build.Goals as goal

pub bind_rank-requires-clause-can : goal.bind_rank-requires-clause-can
bind_rank-requires-clause-can c =
    let high = subst (λ (ds : List DifPlan). IsHighest ds c.highest-top.result) c.as_slice.ensures c.highest-top.ensures in
    let top = at_top c.args.plan.now c.loop-rank.rank c.highest-top.result c.loop-rank.tower c.loop-rank.auto.rank-end c.loop-rank-test.false c.loop-rank.invariant in
    last_can c.args.plan.now c.highest-top.result c.loop-rank.tower c.requires.plan top high.most

pub returns-clause-built : goal.returns-clause-built
returns-clause-built c =
    let high = subst (λ (ds : List DifPlan). IsHighest ds c.highest-top.result) c.as_slice.ensures c.highest-top.ensures in
    let top = at_top c.args.plan.now c.loop-rank.rank c.highest-top.result c.loop-rank.tower c.loop-rank.auto.rank-end c.loop-rank-test.false c.loop-rank.invariant in
    last_built c.args.plan.now c.highest-top.result c.loop-rank.tower c.bind_rank.new.tower top high.most c.in_ok-bind_rank.ensures

pub returns-clause-whole : goal.returns-clause-whole
returns-clause-whole c =
    let top = at_top c.args.plan.now c.loop-rank.rank c.highest-top.result c.loop-rank.tower c.loop-rank.auto.rank-end c.loop-rank-test.false c.loop-rank.invariant in
    last_whole c.args.plan.now c.highest-top.result c.loop-rank.tower c.bind_rank.new.tower top c.in_ok-bind_rank.ensures

pub returns-clause-planned : goal.returns-clause-planned
returns-clause-planned c =
    let top = at_top c.args.plan.now c.loop-rank.rank c.highest-top.result c.loop-rank.tower c.loop-rank.auto.rank-end c.loop-rank-test.false c.loop-rank.invariant in
    last_planned c.args.plan.now c.highest-top.result c.loop-rank.tower c.bind_rank.new.tower top c.in_ok-bind_rank.ensures
