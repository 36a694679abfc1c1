use Rattle.rina_tower.specs.Ranks.{now_of}
use Rattle.rina_tower.proofs.facility.TowerFacility.none_waits.Goals as goal

pub returns-in-Wires : goal.returns-in-Wires
returns-in-Wires c = λ e. rw c.in-Wires.is (c.none_waits.ensures e)

pub returns-in-Rank : goal.returns-in-Rank
returns-in-Rank c = λ e.
    let none = rw c.deref.ensures at c.none_waits-in-Rank.ensures in
    rw c.in-Rank.is (none e (now_of c.in-Rank.rank.value.below))
