use Rattle.std.proofs.Common.{arith}
use Rattle.rina_tower.proofs.Rested.{rank_rests}
use Rattle.rina_tower.proofs.tower.Tower.+rests_until.Goals as goal

pub returns-else-not-none_waits : goal.returns-else-not-none_waits
returns-else-not-none_waits t c = λ after.
    let old = c.in-Rank.rank.value in
    let least = c.min.ensures in
    let rest = rw c.deref-in-Rank.ensures at c.rests_until-until.ensures in
    let none = rw c.deref-in-Rank-2.ensures at (c.none_waits.ensures c.if-not-none_waits.false) in
    let own = rw (c.deref-in-Rank-3.ensures, c.deref-in-Rank-4.ensures) at c.rests_until-in-Rank.ensures in
    let late = rw c.in-Rank.is at after in
    rw c.in-Rank.is (rank_rests old.difs old.below c.rests_until-until.result c.rests_until-in-Rank.result c.min.result (omega (arith, least)) (omega (arith, least)) rest own none late)
