use Rattle.std.proofs.Common.{◌<◌, ◌≤◌, arith, length}
use Rattle.rina_tower.proofs.Timing.{all_clocked, at_index, half_on, is_clocked}
use Rattle.rina_tower.proofs.difs.clock.clock_all.Goals as goal

pub loop-at-preserved : goal.loop-at-preserved
loop-at-preserved c =
    let within : c.loop-at.at < length c.loop-at.difs.items = omega (arith, c.loop-at-test.true, c.loop-at.invariant.size, c.len-at-end.ensures) in
    let one = c.index_mut-dif.result.now in
    half_on c.loop-at.at c.args.now c.args.difs.now.items c.loop-at.difs.items one c.clock_to.new.self c.loop-at.invariant (at_index c.loop-at.difs.items c.loop-at.at _ one within c.index_mut-dif.ensures.value) (is_clocked one c.clock_to.new.self c.args.now c.clock_to.ensures.whole c.clock_to.ensures.keeps)

pub returns : goal.returns
returns c =
    let past : length c.loop-at.difs.items ≤ c.loop-at.at = omega (arith, c.loop-at-test.false, c.loop-at.invariant.size, c.len-at-end.ensures) in
    all_clocked c.loop-at.at c.args.now c.args.difs.now.items c.loop-at.difs.items past c.loop-at.invariant
