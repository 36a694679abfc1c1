use Rattle.rina_iface.proofs.LaterCalls.{later_binds}
use Rattle.rina_tower.specs.Ranks.{now_of, seen_of_difs}
use Rattle.rina_tower.proofs.Failed.{rank_failed, wires_failed}
use Rattle.rina_tower.proofs.Serving.{binds_seen, may_bind, rank_binds}
use Rattle.std.proofs.Common.{Err, refl}
use Rattle.rina_iface.specs.declared.error.AllocateError.TheVariants as allocate
use Rattle.rina_wire.specs.Bind.{BindsOn}
use Rattle.rina_tower.proofs.Staying.{one_stays, serves_stays}
use Rattle.rina_tower.proofs.tower.Tower.bind_at_top.Goals as goal

pub returns-in-Rank-clause-valid : goal.returns-in-Rank-clause-valid
returns-in-Rank-clause-valid c =
    let v = rw c.in-Rank.is at c.requires.valid in
    let h = rw c.deref_mut.ensures.value at c.bind-in-Rank.ensures.does in
    let old = c.in-Rank.rank.value in
    let new = c.bind-in-Rank.new.self in
    let r = c.bind-in-Rank.result in
    rw c.deref_mut.ensures.value (rank_binds c.args.fixed.now r old.difs new old.below v.0 v.1 h, v.1)

pub returns-in-Rank-clause-later : goal.returns-in-Rank-clause-later
returns-in-Rank-clause-later c =
    let v = rw c.in-Rank.is at c.requires.valid in
    let h = rw c.deref_mut.ensures.value at c.bind-in-Rank.ensures.does in
    let old = c.in-Rank.rank.value in
    let new = c.bind-in-Rank.new.self in
    let r = c.bind-in-Rank.result in
    let d = binds_seen c.args.fixed.now r old.difs new old.below v.0 h in
    rw (c.in-Rank.is, c.deref_mut.ensures.value) (later_binds (seen_of_difs (now_of old.below) old.difs) c.args.fixed.now r (seen_of_difs (now_of old.below) new) d)

pub returns-in-Rank-clause-does : goal.returns-in-Rank-clause-does
returns-in-Rank-clause-does c =
    let v = rw c.in-Rank.is at c.requires.valid in
    let h = rw c.deref_mut.ensures.value at c.bind-in-Rank.ensures.does in
    let old = c.in-Rank.rank.value in
    let new = c.bind-in-Rank.new.self in
    let r = c.bind-in-Rank.result in
    rw (c.in-Rank.is, c.deref_mut.ensures.value) (binds_seen c.args.fixed.now r old.difs new old.below v.0 h)

pub bind-requires-in-Rank-clause-may : goal.bind-requires-in-Rank-clause-may
bind-requires-in-Rank-clause-may c =
    let v = rw c.in-Rank.is at c.requires.valid in
    let old = c.in-Rank.rank.value in
    let can = rw c.in-Rank.is at c.requires.room in
    rw c.deref_mut.ensures.value (may_bind old.difs old.below c.args.fixed.now v.0 can)

pub returns-in-Rank-clause-fails : goal.returns-in-Rank-clause-fails
returns-in-Rank-clause-fails c = λ h. rw c.deref_mut.ensures.value (rank_failed c.bind-in-Rank.new.self c.in-Rank.rank.value.below (c.bind-in-Rank.ensures.fails h))

pub returns-in-Wires-clause-fails : goal.returns-in-Wires-clause-fails
returns-in-Wires-clause-fails c = λ h. wires_failed (λ z. BindsOn c.in-Wires.wires c.args.fixed.now z c.bind.new.self) c.bind.result (Err allocate.Memory) c.in-Wires.wires c.bind.new.self c.bind.ensures.exact h (λ x. x)

pub returns-in-Rank-clause-below : goal.returns-in-Rank-clause-below
returns-in-Rank-clause-below c =
    let h = rw c.deref_mut.ensures.value at c.bind-in-Rank.ensures.does in
    let old = c.in-Rank.rank.value in
    let new = c.bind-in-Rank.new.self in
    rw (c.in-Rank.is, c.deref_mut.ensures.value) (one_stays _ _ old.difs new (λ d d' x. serves_stays _ _ d d' x.serves) h, refl)
