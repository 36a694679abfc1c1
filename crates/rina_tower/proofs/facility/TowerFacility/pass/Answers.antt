use Rattle.std.proofs.Common.{refl}
use Rattle.rina_iface.proofs.LaterCalls.{later_passes}
use Rattle.rina_tower.specs.Ranks.{now_of, seen_of_difs}
use Rattle.rina_tower.proofs.Serving.{rank_passes, passes_seen, waits_there}
use Rattle.rina_tower.proofs.Staying.{one_stays, serves_stays}
use Rattle.rina_tower.proofs.facility.TowerFacility.pass.Goals as goal

pub returns-in-Rank-clause-valid : goal.returns-in-Rank-clause-valid
returns-in-Rank-clause-valid c =
    let v = rw c.in-Rank.is at c.requires.valid in
    let h = rw c.deref_mut.ensures.value at c.pass-in-Rank.ensures in
    let old = c.in-Rank.rank.value in
    let new = c.pass-in-Rank.new.self in
    let r = c.pass-in-Rank.result in
    rw c.deref_mut.ensures.value (rank_passes c.args.port old.difs new old.below v.0 v.1 h, v.1)

pub returns-in-Rank-clause-later : goal.returns-in-Rank-clause-later
returns-in-Rank-clause-later c =
    let v = rw c.in-Rank.is at c.requires.valid in
    let h = rw c.deref_mut.ensures.value at c.pass-in-Rank.ensures in
    let old = c.in-Rank.rank.value in
    let new = c.pass-in-Rank.new.self in
    let r = c.pass-in-Rank.result in
    let d = passes_seen c.args.port old.difs new old.below v.0 h in
    rw (c.in-Rank.is, c.deref_mut.ensures.value) (later_passes (seen_of_difs (now_of old.below) old.difs) c.args.port (seen_of_difs (now_of old.below) new) d)

pub returns-in-Rank-clause-does : goal.returns-in-Rank-clause-does
returns-in-Rank-clause-does c =
    let v = rw c.in-Rank.is at c.requires.valid in
    let h = rw c.deref_mut.ensures.value at c.pass-in-Rank.ensures in
    let old = c.in-Rank.rank.value in
    let new = c.pass-in-Rank.new.self in
    let r = c.pass-in-Rank.result in
    rw (c.in-Rank.is, c.deref_mut.ensures.value) (passes_seen c.args.port old.difs new old.below v.0 h)

pub pass-requires-in-Rank-clause-waits : goal.pass-requires-in-Rank-clause-waits
pass-requires-in-Rank-clause-waits c =
    let old = c.in-Rank.rank.value in
    let waits = rw c.in-Rank.is at c.requires.waits in
    rw c.deref_mut.ensures.value (waits_there old.difs (now_of old.below) c.args.port waits)

pub returns-in-Rank-clause-below : goal.returns-in-Rank-clause-below
returns-in-Rank-clause-below c =
    let h = rw c.deref_mut.ensures.value at c.pass-in-Rank.ensures in
    let old = c.in-Rank.rank.value in
    let new = c.pass-in-Rank.new.self in
    rw (c.in-Rank.is, c.deref_mut.ensures.value) (one_stays _ _ old.difs new (λ d d' x. serves_stays _ _ d d' x.serves) h, refl)
