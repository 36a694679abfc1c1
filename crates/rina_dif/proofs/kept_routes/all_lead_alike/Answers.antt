-- One link more leads alike.
use Rattle.std.proofs.Common.{◌<◌, arith, length}
use Rattle.rina_member.specs.Knowing.{hop_of}
use Rattle.rina_dif.proofs.KeptRoutes.{made_next}
use Rattle.rina_dif.proofs.kept_routes.all_lead_alike.Goals as goal

pub loop-at-preserved : goal.loop-at-preserved
loop-at-preserved c =
    let lt = c.loop-at-test.true in
    let same = c.if-links-others.false in
    let lt' : c.loop-at.at < length c.args.others.now = omega (arith, lt, same) in
    made_next hop_of c.args.links.now c.args.others.now c.loop-at.at c.index-links-at.result c.index-others-at.result lt lt' c.index-links-at.is c.index-others-at.is (c.leads_alike.ensures c.if-not-leads_alike.false) c.loop-at.invariant
