use Rattle.std.proofs.Common.{◌≤◌, length, refl, subst}
use Rattle.rina_iface.specs.Seen.{Seen}
use Rattle.rina_dif.proofs.AskedInTurn.{all_claimed, later_same, none_anywhere, none_of}
use Rattle.rina_dif.proofs.claims.claim_first.Goals as goal

pub returns-then-none_waits-clause-claims : goal.returns-then-none_waits-clause-claims
returns-then-none_waits-clause-claims g c = ((λ n lt. all_claimed (g.F.Facility.seen c.args.below.now) c.args.node c.args.app.now (c.none_waits.ensures c.if-none_waits.true) n), refl)

pub returns-then-is_none-clause-later : goal.returns-then-is_none-clause-later
returns-then-is_none-clause-later g c = later_same (g.F.Facility.seen c.args.below.now) (g.F.Facility.seen c.loop-fac.below) c.loop-fac.invariant.shown

pub returns-then-is_none-clause-claims : goal.returns-then-is_none-clause-claims
returns-then-is_none-clause-claims g c =
    let few = none_of c.journal.result _ _ c.if-is_none.ensures c.journal.ensures in
    let here = subst (λ (s : Seen). length s.facs ≤ c.loop-fac.fac) c.loop-fac.invariant.shown few in
    ((λ n lt. none_anywhere (g.F.Facility.seen c.args.below.now) c.loop-fac.fac c.args.node c.args.app.now here c.loop-fac.invariant.none n), c.loop-fac.invariant.shown)

pub returns-clause-later : goal.returns-clause-later
returns-clause-later g c = later_same (g.F.Facility.seen c.args.below.now) (g.F.Facility.seen c.loop-fac.below) c.loop-fac.invariant.shown
