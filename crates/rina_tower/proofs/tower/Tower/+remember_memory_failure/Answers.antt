use Rattle.std.proofs.Common.{refl}
use Rattle.rina_tower.specs.Bystanders.{Anyone}
use Rattle.rina_tower.proofs.Alone.{same_alone}
use Rattle.rina_tower.proofs.Failed.{below_failed, rank_follows}
use Rattle.rina_tower.proofs.tower.Tower.+remember_memory_failure.Goals as goal

pub returns-in-Wires-clause-follows : goal.returns-in-Wires-clause-follows
returns-in-Wires-clause-follows t c = rw c.in-Wires.is (record { valid = c.remember_memory_failure.ensures.valid; quiet = same_alone Anyone _ _ c.remember_memory_failure.ensures.journals; height = refl })

pub returns-in-Rank-clause-follows : goal.returns-in-Rank-clause-follows
returns-in-Rank-clause-follows t c =
    let v = rw c.in-Rank.is at c.requires in
    let old = c.in-Rank.rank.value in
    let follows = rw c.deref_mut.ensures.value at c.remember_memory_failure-in-Rank.ensures.follows in
    rw (c.in-Rank.is, c.deref_mut.ensures.value) (rank_follows _ _ old.difs old.below c.remember_memory_failure-in-Rank.new.self v.0 v.1 follows)

pub returns-in-Rank-clause-failed : goal.returns-in-Rank-clause-failed
returns-in-Rank-clause-failed t c = rw c.deref_mut.ensures.value (below_failed c.in-Rank.rank.value.difs c.remember_memory_failure-in-Rank.new.self c.remember_memory_failure-in-Rank.ensures.failed)
