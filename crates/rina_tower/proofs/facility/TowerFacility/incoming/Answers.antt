use Rattle.std.proofs.Common.{◌≡◌, None, refl}
use Rattle.rina_iface.proofs.LaterCalls.{later_claims}
use Rattle.rina_tower.specs.Ranks.{now_of, seen_of_difs}
use Rattle.rina_tower.proofs.Serving.{rank_serves, claims_seen}
use Rattle.rina_iface.specs.Claim.{Claims}
use Rattle.rina_tower.proofs.Staying.{any_stays, serves_stays}
use Rattle.rina_tower.proofs.facility.TowerFacility.incoming.Goals as goal

pub returns-in-Rank-clause-valid : goal.returns-in-Rank-clause-valid
returns-in-Rank-clause-valid c =
    let v = rw c.in-Rank.is at c.requires in
    let h = rw c.deref_mut.ensures.value at c.incoming-in-Rank.ensures in
    let old = c.in-Rank.rank.value in
    let new = c.incoming-in-Rank.new.self in
    let r = c.incoming-in-Rank.result in
    rw c.deref_mut.ensures.value (rank_serves (λ s s'. Claims s c.args.fac c.args.node c.args.app.now r s') c.args.fac (r ≡ None) old.difs new old.below v.0 v.1 h, v.1)

pub returns-in-Rank-clause-later : goal.returns-in-Rank-clause-later
returns-in-Rank-clause-later c =
    let v = rw c.in-Rank.is at c.requires in
    let h = rw c.deref_mut.ensures.value at c.incoming-in-Rank.ensures in
    let old = c.in-Rank.rank.value in
    let new = c.incoming-in-Rank.new.self in
    let r = c.incoming-in-Rank.result in
    let d = claims_seen c.args.fac c.args.node c.args.app.now r old.difs new old.below v.0 h in
    rw (c.in-Rank.is, c.deref_mut.ensures.value) (later_claims (seen_of_difs (now_of old.below) old.difs) c.args.fac c.args.node c.args.app.now r (seen_of_difs (now_of old.below) new) d)

pub returns-in-Rank-clause-does : goal.returns-in-Rank-clause-does
returns-in-Rank-clause-does c =
    let v = rw c.in-Rank.is at c.requires in
    let h = rw c.deref_mut.ensures.value at c.incoming-in-Rank.ensures in
    let old = c.in-Rank.rank.value in
    let new = c.incoming-in-Rank.new.self in
    let r = c.incoming-in-Rank.result in
    rw (c.in-Rank.is, c.deref_mut.ensures.value) (claims_seen c.args.fac c.args.node c.args.app.now r old.difs new old.below v.0 h)

pub returns-in-Rank-clause-below : goal.returns-in-Rank-clause-below
returns-in-Rank-clause-below c =
    let h = rw c.deref_mut.ensures.value at c.incoming-in-Rank.ensures in
    let old = c.in-Rank.rank.value in
    let new = c.incoming-in-Rank.new.self in
    rw (c.in-Rank.is, c.deref_mut.ensures.value) (any_stays _ _ _ old.difs new (λ d d' x. serves_stays _ _ d d' x) h, refl)

pub returns-in-Rank-clause-exact : goal.returns-in-Rank-clause-exact
returns-in-Rank-clause-exact c =
    let h = rw c.deref_mut.ensures.value at c.incoming-in-Rank.ensures in
    rw (c.in-Rank.is, c.deref_mut.ensures.value) (h, refl)
