use Rattle.rina_tower.proofs.Alone.{same_alone}
use Rattle.rina_tower.specs.Bystanders.{Anyone}
use Rattle.rina_tower.proofs.Serving.{beside_alone, rank_quiet}
use Rattle.rina_tower.proofs.tower.Tower.+lose.Goals as goal

pub returns-in-Wires-clause-quiet : goal.returns-in-Wires-clause-quiet
returns-in-Wires-clause-quiet t c = rw c.in-Wires.is (same_alone Anyone _ _ c.lose.ensures.journals)

pub returns-in-Rank-clause-valid : goal.returns-in-Rank-clause-valid
returns-in-Rank-clause-valid t c =
    let v = rw c.in-Rank.is at c.requires in
    let old = c.in-Rank.rank.value in
    let new = c.lose-in-Rank.new.self in
    let height = rw c.deref_mut.ensures.value at c.lose-in-Rank.ensures.height in
    let quiet = rw c.deref_mut.ensures.value at c.lose-in-Rank.ensures.quiet in
    rw c.deref_mut.ensures.value (rank_quiet old.difs old.below new v.0 v.1 c.lose-in-Rank.ensures.valid height quiet, c.lose-in-Rank.ensures.valid)

pub returns-in-Rank-clause-quiet : goal.returns-in-Rank-clause-quiet
returns-in-Rank-clause-quiet t c =
    let old = c.in-Rank.rank.value in
    let new = c.lose-in-Rank.new.self in
    let quiet = rw c.deref_mut.ensures.value at c.lose-in-Rank.ensures.quiet in
    rw (c.in-Rank.is, c.deref_mut.ensures.value) (beside_alone Anyone old.difs old.below new quiet)
