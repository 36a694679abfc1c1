use Rattle.std.proofs.Common.{◌+◌, ◌∙◌, ℕ, ap, inl}
use Rattle.rina_tower.specs.Bystanders.{Anyone}
use Rattle.rina_tower.proofs.Alone.{all_alone}
use Rattle.rina_tower.proofs.Serving.{beside_alone, rank_quiet, rank_stepped, same_height, stepped_alone}
use Rattle.rina_tower.proofs.Failed.{below_failed, rank_failed}
use Rattle.rina_tower.proofs.tower.Tower.+enrol_at_rank.Goals as goal

pub returns-in-Wires-clause-quiet : goal.returns-in-Wires-clause-quiet
returns-in-Wires-clause-quiet t c = all_alone Anyone _

pub returns-then-r-height-clause-valid : goal.returns-then-r-height-clause-valid
returns-then-r-height-clause-valid t c =
    let v = rw c.in-Rank.is at c.requires in
    let old = c.in-Rank.rank.value in
    let k = c.enrol.ensures in
    let same = rw c.deref_mut-rank.ensures.value at k.below in
    (rank_stepped c.enrol.new.self old.below c.enrol.new.below v.0.low k.valid same k.stand, k.valid)

pub returns-then-r-height-clause-quiet : goal.returns-then-r-height-clause-quiet
returns-then-r-height-clause-quiet t c =
    let old = c.in-Rank.rank.value in
    let clock = rw c.deref_mut-rank.ensures.value at c.enrol.ensures.clock in
    let quiet = rw c.deref_mut-rank.ensures.value at c.enrol.ensures.quiet in
    rw c.in-Rank.is (stepped_alone Anyone old.difs c.enrol.new.self old.below c.enrol.new.below clock quiet)

pub returns-then-r-height-clause-height : goal.returns-then-r-height-clause-height
returns-then-r-height-clause-height t c =
    let old = c.in-Rank.rank.value in
    let same = rw c.deref_mut-rank.ensures.value at c.enrol.ensures.below in
    rw c.in-Rank.is (ap (λ (n : ℕ). n + 1) (same_height old.below c.enrol.new.below same))

pub returns-then-r-height-clause-does : goal.returns-then-r-height-clause-does
returns-then-r-height-clause-does t c =
    let height = rw c.deref_mut-rank.ensures.value at c.height.ensures in
    let same = rw c.deref_mut-rank.ensures.value at c.enrol.ensures.below in
    let does = rw c.deref_mut-rank.ensures.value at c.enrol.ensures.does in
    let lower = rw c.deref_mut-rank.ensures.value at c.enrol.ensures.lower in
    rw c.in-Rank.is (inl (c.if-r-height.true ∙ ap (λ (n : ℕ). n + 1) height, (does, same, lower)))

pub returns-else-r-height-clause-valid : goal.returns-else-r-height-clause-valid
returns-else-r-height-clause-valid t c =
    let v = rw c.in-Rank.is at c.requires in
    let old = c.in-Rank.rank.value in
    let k = c.enrol_at_rank.ensures in
    let height = rw c.deref_mut-rank.ensures.value at k.height in
    let quiet = rw c.deref_mut-rank.ensures.value at k.quiet in
    rw c.deref_mut-rank.ensures.value (rank_quiet old.difs old.below c.enrol_at_rank.new.self v.0 v.1 k.valid height quiet, k.valid)

pub returns-else-r-height-clause-quiet : goal.returns-else-r-height-clause-quiet
returns-else-r-height-clause-quiet t c =
    let old = c.in-Rank.rank.value in
    let quiet = rw c.deref_mut-rank.ensures.value at c.enrol_at_rank.ensures.quiet in
    rw (c.in-Rank.is, c.deref_mut-rank.ensures.value) (beside_alone Anyone old.difs old.below c.enrol_at_rank.new.self quiet)

pub returns-then-r-height-clause-fails : goal.returns-then-r-height-clause-fails
returns-then-r-height-clause-fails t c = λ h. rank_failed c.enrol.new.self c.enrol.new.below (c.enrol.ensures.fails h)

pub returns-else-r-height-clause-fails : goal.returns-else-r-height-clause-fails
returns-else-r-height-clause-fails t c = λ h. rw c.deref_mut-rank.ensures.value (below_failed c.in-Rank.rank.value.difs c.enrol_at_rank.new.self (c.enrol_at_rank.ensures.fails h))
