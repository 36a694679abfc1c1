use Rattle.rina_tower.proofs.Alone.{same_alone}
use Rattle.rina_tower.specs.Bystanders.{Anyone}
use Rattle.rina_tower.proofs.Serving.{beside_alone, rank_quiet}
use Rattle.std.proofs.Common.{Err}
use Rattle.rina_wire.specs.declared.event.WireError.TheVariants.{Memory}
use Rattle.rina_wire.specs.Disturb.{RepeatsOn}
use Rattle.rina_tower.proofs.Failed.{below_failed, wires_failed}
use Rattle.rina_tower.proofs.tower.Tower.+repeat_on_wires.Goals as goal

pub returns-in-Wires-clause-quiet : goal.returns-in-Wires-clause-quiet
returns-in-Wires-clause-quiet t c = rw c.in-Wires.is (same_alone Anyone _ _ c.repeat.ensures.journals)

pub returns-in-Rank-clause-valid : goal.returns-in-Rank-clause-valid
returns-in-Rank-clause-valid t c =
    let v = rw c.in-Rank.is at c.requires in
    let old = c.in-Rank.rank.value in
    let new = c.repeat_on_wires.new.self in
    let height = rw c.deref_mut.ensures.value at c.repeat_on_wires.ensures.height in
    let quiet = rw c.deref_mut.ensures.value at c.repeat_on_wires.ensures.quiet in
    rw c.deref_mut.ensures.value (rank_quiet old.difs old.below new v.0 v.1 c.repeat_on_wires.ensures.valid height quiet, c.repeat_on_wires.ensures.valid)

pub returns-in-Rank-clause-quiet : goal.returns-in-Rank-clause-quiet
returns-in-Rank-clause-quiet t c =
    let old = c.in-Rank.rank.value in
    let new = c.repeat_on_wires.new.self in
    let quiet = rw c.deref_mut.ensures.value at c.repeat_on_wires.ensures.quiet in
    rw (c.in-Rank.is, c.deref_mut.ensures.value) (beside_alone Anyone old.difs old.below new quiet)

pub returns-in-Wires-clause-fails : goal.returns-in-Wires-clause-fails
returns-in-Wires-clause-fails t c = λ h. wires_failed (λ z. RepeatsOn c.in-Wires.wires c.args.wire c.args.k c.args.at z c.repeat.new.self) c.repeat.result (Err Memory) c.in-Wires.wires c.repeat.new.self c.repeat.ensures.exact h (λ x. x)

pub returns-in-Rank-clause-fails : goal.returns-in-Rank-clause-fails
returns-in-Rank-clause-fails t c = λ h. rw c.deref_mut.ensures.value (below_failed c.in-Rank.rank.value.difs c.repeat_on_wires.new.self (c.repeat_on_wires.ensures.fails h))
