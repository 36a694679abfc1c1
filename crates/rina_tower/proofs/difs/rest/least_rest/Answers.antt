use Rattle.std.proofs.Common.{arith}
use Rattle.rina_tower.proofs.Rested.{all_rest, next_rests}
use Rattle.rina_tower.proofs.difs.rest.least_rest.Goals as goal

pub loop-at-preserved : goal.loop-at-preserved
loop-at-preserved g c =
    let least = c.min-until.ensures in
    next_rests c.args.difs.now c.loop-at.at c.loop-at.until c.rests_until.result c.min-until.result c.index-difs-at.result (g.F.Facility.seen c.args.below.now) c.requires.stand c.loop-at-test.true c.index-difs-at.is (omega (arith, least)) (omega (arith, least)) c.rests_until.ensures c.loop-at.invariant

pub returns : goal.returns
returns g c = λ after.
    let end = c.loop-at-test.false in
    all_rest c.args.difs.now c.loop-at.at c.loop-at.until (g.F.Facility.seen c.args.below.now) (omega (arith, end)) c.loop-at.invariant after
