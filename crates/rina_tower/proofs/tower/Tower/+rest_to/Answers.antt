use Rattle.rina_tower.proofs.Rested.{rank_at}
use Rattle.rina_tower.proofs.tower.Tower.+rest_to.Goals as goal

pub returns-in-Rank-clause-valid : goal.returns-in-Rank-clause-valid
returns-in-Rank-clause-valid t c =
    let v = rw c.in-Rank.is at c.requires.valid in
    let later = rw c.in-Rank.is at c.requires.later in
    let old = c.in-Rank.rank.value in
    let exact = rw c.deref_mut-rank.ensures.value at c.rest_to-in-Rank.ensures.exact in
    let clocked = rw c.deref_mut-rank.ensures.value at c.clock_to.ensures in
    (rank_at c.args.now old.difs c.clock_to.new.self old.below c.rest_to-in-Rank.new.self v later clocked c.rest_to-in-Rank.ensures.valid exact).0

pub returns-in-Rank-clause-exact : goal.returns-in-Rank-clause-exact
returns-in-Rank-clause-exact t c =
    let v = rw c.in-Rank.is at c.requires.valid in
    let later = rw c.in-Rank.is at c.requires.later in
    let old = c.in-Rank.rank.value in
    let exact = rw c.deref_mut-rank.ensures.value at c.rest_to-in-Rank.ensures.exact in
    let clocked = rw c.deref_mut-rank.ensures.value at c.clock_to.ensures in
    rw c.in-Rank.is (rank_at c.args.now old.difs c.clock_to.new.self old.below c.rest_to-in-Rank.new.self v later clocked c.rest_to-in-Rank.ensures.valid exact).1
