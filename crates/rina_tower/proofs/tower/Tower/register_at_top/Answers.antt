use Rattle.std.proofs.Common.{◌≡◌, Err, refl}
use Rattle.rina_iface.proofs.LaterCalls.{later_registers}
use Rattle.rina_tower.specs.Ranks.{now_of, seen_of_difs}
use Rattle.rina_tower.proofs.Failed.{rank_failed, wires_failed}
use Rattle.rina_tower.proofs.Serving.{rank_registers, registers_seen}
use Rattle.rina_tower.specs.Refusals.{own_register}
use Rattle.rina_iface.specs.declared.error.RegisterError.TheVariants.{NoMember}
use Rattle.rina_iface.specs.declared.error.RegisterError.TheVariants as register
use Rattle.rina_wire.specs.Register.{RegistersOn}
use Rattle.rina_tower.proofs.Staying.{any_stays, serves_stays}
use Rattle.rina_tower.proofs.tower.Tower.register_at_top.Goals as goal

pub returns-in-Rank-clause-valid : goal.returns-in-Rank-clause-valid
returns-in-Rank-clause-valid c =
    let v = rw c.in-Rank.is at c.requires in
    let h = rw c.deref_mut.ensures.value at c.register-in-Rank.ensures.does in
    let old = c.in-Rank.rank.value in
    let new = c.register-in-Rank.new.self in
    let r = c.register-in-Rank.result in
    rw c.deref_mut.ensures.value (rank_registers c.args.fac c.args.node c.args.app.now r (r ≡ Err NoMember) old.difs new old.below v.0 v.1 h, v.1)

pub returns-in-Rank-clause-later : goal.returns-in-Rank-clause-later
returns-in-Rank-clause-later c =
    let v = rw c.in-Rank.is at c.requires in
    let h = rw c.deref_mut.ensures.value at c.register-in-Rank.ensures.does in
    let old = c.in-Rank.rank.value in
    let new = c.register-in-Rank.new.self in
    let r = c.register-in-Rank.result in
    let d = registers_seen c.args.fac c.args.node c.args.app.now r old.difs new old.below v.0 h in
    rw (c.in-Rank.is, c.deref_mut.ensures.value) (later_registers (own_register old.difs c.args.fac c.args.node) (seen_of_difs (now_of old.below) old.difs) c.args.fac c.args.node c.args.app.now r (seen_of_difs (now_of old.below) new) d)

pub returns-in-Rank-clause-does : goal.returns-in-Rank-clause-does
returns-in-Rank-clause-does c =
    let v = rw c.in-Rank.is at c.requires in
    let h = rw c.deref_mut.ensures.value at c.register-in-Rank.ensures.does in
    let old = c.in-Rank.rank.value in
    let new = c.register-in-Rank.new.self in
    let r = c.register-in-Rank.result in
    rw (c.in-Rank.is, c.deref_mut.ensures.value) (registers_seen c.args.fac c.args.node c.args.app.now r old.difs new old.below v.0 h)

pub returns-in-Rank-clause-fails : goal.returns-in-Rank-clause-fails
returns-in-Rank-clause-fails c = λ h. rw c.deref_mut.ensures.value (rank_failed c.register-in-Rank.new.self c.in-Rank.rank.value.below (c.register-in-Rank.ensures.fails h))

pub returns-in-Wires-clause-fails : goal.returns-in-Wires-clause-fails
returns-in-Wires-clause-fails c = λ h. wires_failed (λ z. RegistersOn c.in-Wires.wires c.args.fac c.args.node c.args.app.now z c.register.new.self) c.register.result (Err register.Memory) c.in-Wires.wires c.register.new.self c.register.ensures.exact h (λ x. x)

pub returns-in-Rank-clause-below : goal.returns-in-Rank-clause-below
returns-in-Rank-clause-below c =
    let h = rw c.deref_mut.ensures.value at c.register-in-Rank.ensures.does in
    let old = c.in-Rank.rank.value in
    let new = c.register-in-Rank.new.self in
    rw (c.in-Rank.is, c.deref_mut.ensures.value) (any_stays _ _ _ old.difs new (λ d d' x. serves_stays _ _ d d' x.serves) h, refl)

pub returns-in-Rank-clause-exact : goal.returns-in-Rank-clause-exact
returns-in-Rank-clause-exact c =
    let h = rw c.deref_mut.ensures.value at c.register-in-Rank.ensures.does in
    rw (c.in-Rank.is, c.deref_mut.ensures.value) (h, refl)
