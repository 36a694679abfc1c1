use Rattle.rina_tower.proofs.Timing.{clocks_before, rank_ticked, ticked_alone}
use Rattle.rina_tower.proofs.Wiring.{ticks_alone}
use Rattle.std.proofs.Common.{refl, subst}
use Rattle.rina_wire.specs.Tick.{TicksOn}
use Rattle.rina_tower.proofs.Failed.{below_failed, torn_failed}
use Rattle.rina_tower.proofs.tower.Tower.+tick_ranks.Goals as goal

pub returns-in-Wires-clause-quiet : goal.returns-in-Wires-clause-quiet
returns-in-Wires-clause-quiet t c = rw c.in-Wires.is (ticks_alone c.in-Wires.wires c.tick.result c.tick.new.self c.tick.ensures.exact)

pub clock_to-requires : goal.clock_to-requires
clock_to-requires t c = λ n d at.
    let v = rw c.in-Rank.is at c.requires in
    let old = c.in-Rank.rank.value in
    let quiet = rw c.deref_mut-rank.ensures.value at c.tick_ranks-result.ensures.quiet in
    rw c.clock-now.ensures (clocks_before old.difs old.below c.tick_ranks-result.new.self v.0 quiet n d (rw c.deref_mut-rank.ensures.value at at))

pub returns-in-Rank-clause-valid : goal.returns-in-Rank-clause-valid
returns-in-Rank-clause-valid t c =
    let v = rw c.in-Rank.is at c.requires in
    let old = c.in-Rank.rank.value in
    let k = c.tick_ranks-result.ensures in
    let height = rw c.deref_mut-rank.ensures.value at k.height in
    let quiet = rw c.deref_mut-rank.ensures.value at k.quiet in
    let clocked = rw (c.deref_mut-rank.ensures.value, c.clock-now.ensures) at c.clock_to.ensures in
    (rank_ticked old.difs c.clock_to.new.self old.below c.tick_ranks-result.new.self v.0 v.1 k.valid height quiet clocked, k.valid)

pub returns-in-Rank-clause-quiet : goal.returns-in-Rank-clause-quiet
returns-in-Rank-clause-quiet t c =
    let old = c.in-Rank.rank.value in
    let quiet = rw c.deref_mut-rank.ensures.value at c.tick_ranks-result.ensures.quiet in
    let clocked = rw (c.deref_mut-rank.ensures.value, c.clock-now.ensures) at c.clock_to.ensures in
    rw c.in-Rank.is (ticked_alone old.difs c.clock_to.new.self old.below c.tick_ranks-result.new.self quiet clocked)

pub returns-in-Wires-clause-fails : goal.returns-in-Wires-clause-fails
returns-in-Wires-clause-fails t c = λ h. torn_failed c.in-Wires.wires c.tick.new.self c.in-Wires.wires.failed refl (subst (λ z. TicksOn c.in-Wires.wires z c.tick.new.self) h c.tick.ensures.exact)

pub returns-in-Rank-clause-fails : goal.returns-in-Rank-clause-fails
returns-in-Rank-clause-fails t c = λ h. below_failed c.clock_to.new.self c.tick_ranks-result.new.self (c.tick_ranks-result.ensures.fails h)
