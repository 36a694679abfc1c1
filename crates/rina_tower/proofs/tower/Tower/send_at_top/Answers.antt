use Rattle.std.proofs.Common.{◌≡◌, Err, None, refl}
use Rattle.rina_iface.proofs.LaterCalls.{later_sends}
use Rattle.rina_tower.specs.Ranks.{now_of, seen_of_difs}
use Rattle.rina_tower.proofs.Failed.{rank_failed, wires_failed}
use Rattle.rina_tower.proofs.Serving.{rank_sends, sends_seen}
use Rattle.rina_iface.specs.declared.error.SendError.TheVariants.{NotAllocated}
use Rattle.rina_iface.specs.declared.error.SendError.TheVariants as send
use Rattle.rina_wire.specs.Send.{SendsOn}
use Rattle.rina_tower.proofs.Staying.{any_stays, serves_stays}
use Rattle.rina_tower.proofs.tower.Tower.send_at_top.Goals as goal

pub returns-in-Rank-clause-valid : goal.returns-in-Rank-clause-valid
returns-in-Rank-clause-valid c =
    let v = rw c.in-Rank.is at c.requires in
    let h = rw c.deref_mut.ensures.value at c.send-in-Rank.ensures.does in
    let old = c.in-Rank.rank.value in
    let new = c.send-in-Rank.new.self in
    let r = c.send-in-Rank.result in
    rw c.deref_mut.ensures.value (rank_sends c.args.port c.args.sdu.now r (r ≡ Err (NotAllocated None)) old.difs new old.below v.0 v.1 h, v.1)

pub returns-in-Rank-clause-later : goal.returns-in-Rank-clause-later
returns-in-Rank-clause-later c =
    let v = rw c.in-Rank.is at c.requires in
    let h = rw c.deref_mut.ensures.value at c.send-in-Rank.ensures.does in
    let old = c.in-Rank.rank.value in
    let new = c.send-in-Rank.new.self in
    let r = c.send-in-Rank.result in
    let d = sends_seen c.args.port c.args.sdu.now r old.difs new old.below v.0 h in
    rw (c.in-Rank.is, c.deref_mut.ensures.value) (later_sends _ (seen_of_difs (now_of old.below) old.difs) c.args.port c.args.sdu.now r (seen_of_difs (now_of old.below) new) d)

pub returns-in-Rank-clause-does : goal.returns-in-Rank-clause-does
returns-in-Rank-clause-does c =
    let v = rw c.in-Rank.is at c.requires in
    let h = rw c.deref_mut.ensures.value at c.send-in-Rank.ensures.does in
    let old = c.in-Rank.rank.value in
    let new = c.send-in-Rank.new.self in
    let r = c.send-in-Rank.result in
    rw (c.in-Rank.is, c.deref_mut.ensures.value) (sends_seen c.args.port c.args.sdu.now r old.difs new old.below v.0 h)

pub returns-in-Rank-clause-fails : goal.returns-in-Rank-clause-fails
returns-in-Rank-clause-fails c = λ h. rw c.deref_mut.ensures.value (rank_failed c.send-in-Rank.new.self c.in-Rank.rank.value.below (c.send-in-Rank.ensures.fails h))

pub returns-in-Wires-clause-fails : goal.returns-in-Wires-clause-fails
returns-in-Wires-clause-fails c = λ h. wires_failed (λ z. SendsOn c.in-Wires.wires c.args.port c.args.sdu.now z c.send.new.self) c.send.result (Err send.Memory) c.in-Wires.wires c.send.new.self c.send.ensures.exact h (λ x. x)

pub returns-in-Rank-clause-below : goal.returns-in-Rank-clause-below
returns-in-Rank-clause-below c =
    let h = rw c.deref_mut.ensures.value at c.send-in-Rank.ensures.does in
    let old = c.in-Rank.rank.value in
    let new = c.send-in-Rank.new.self in
    rw (c.in-Rank.is, c.deref_mut.ensures.value) (any_stays _ _ _ old.difs new (λ d d' x. serves_stays _ _ d d' x.serves) h, refl)
