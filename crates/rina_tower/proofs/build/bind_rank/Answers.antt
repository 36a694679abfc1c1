use Rattle.std.proofs.Common.{◌<◌, arith, length}
use Rattle.rina_tower.specs.Ranks.{seen_of}
use Rattle.rina_tower.proofs.FitBound.{can_there, has_none, has_there}
use Rattle.rina_tower.proofs.build.bind_rank.Goals as goal

pub loop-place-init : goal.loop-place-init
loop-place-init c = has_none c.args.tower.now c.requires.valid

pub bind_flows_on_rank-requires-clause-can : goal.bind_flows_on_rank-requires-clause-can
bind_flows_on_rank-requires-clause-can c =
    let within : c.loop-place.place < length c.args.plan.now.difs = omega (arith, c.loop-place-test.true, c.len-place-end.ensures) in
    can_there c.args.plan.now c.args.rank c.loop-place.place (seen_of c.args.tower.now) (seen_of c.loop-place.tower) within c.requires.can c.loop-place.invariant.bound

pub loop-place-preserved : goal.loop-place-preserved
loop-place-preserved c = has_there c.args.plan.now c.args.rank c.loop-place.place c.args.tower.now c.loop-place.tower c.bind_flows_on_rank.new.tower c.loop-place.invariant c.in_ok-bind_flows_on_rank.ensures
