-- One item more claims alike.
use Rattle.std.proofs.Common.{◌<◌, arith, length}
use Rattle.rina_route.specs.Routes.{claims_of}
use Rattle.rina_dif.proofs.KeptRoutes.{flats_next}
use Rattle.rina_dif.proofs.kept_routes.all_claim_alike.Goals as goal

pub loop-at-preserved : goal.loop-at-preserved
loop-at-preserved c =
    let lt = c.loop-at-test.true in
    let same = c.if-items-others.false in
    let lt' : c.loop-at.at < length c.args.others.now = omega (arith, lt, same) in
    flats_next (λ x. claims_of x.now) c.args.items.now c.args.others.now c.loop-at.at c.index-items-at.result c.index-others-at.result lt lt' c.index-items-at.is c.index-others-at.is (c.claim_alike.ensures c.if-not-claim_alike.false) c.loop-at.invariant
