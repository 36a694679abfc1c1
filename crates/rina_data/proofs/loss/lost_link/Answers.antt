use Rattle.std.proofs.Common.{arith}
use Rattle.rina_data.proofs.Downed.{lost_all, lost_here, lost_not_here}
use Rattle.rina_data.proofs.loss.lost_link.Goals as goal
use Rattle.rina_data.proofs.loss.lost_link.Goals.{else-is_lost, then-is_lost}

pub loop-place-preserved : goal.loop-place-preserved
loop-place-preserved g c =
    let links = c.args.links.now in
    let below = g.F.Facility.seen c.args.below.now in
    elim c.if-is_lost.branch [
      | then-is_lost w ↦ lost_here links below c.loop-place.place c.loop-place.first c.if-is_lost.first w.lesser.result c.is_lost.result c.loop-place.invariant c.loop-place-test.true c.is_lost.ensures w.if-is_lost.true w.first-is w.lesser.ensures
      | else-is_lost w ↦ lost_not_here links below c.loop-place.place c.loop-place.first c.if-is_lost.first c.is_lost.result c.loop-place.invariant c.loop-place-test.true c.is_lost.ensures w.if-is_lost.false w.first-is
    ]

pub returns : goal.returns
returns g c =
    let after = c.loop-place-test.false in
    lost_all c.args.links.now (g.F.Facility.seen c.args.below.now) c.loop-place.place c.loop-place.first (omega (arith, after)) c.loop-place.invariant
