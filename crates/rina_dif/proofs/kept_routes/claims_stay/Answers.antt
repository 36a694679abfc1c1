-- All else claims nothing.
use Rattle.std.proofs.Common.{◌∙◌, ap, map}
use Rattle.rina_dif.proofs.KeptRoutes.{claims_same}
use Rattle.rina_dif.proofs.kept_routes.claims_stay.Goals as goal

pub returns : goal.returns
returns c = λ e. claims_same (λ x. x.now) c.deref.result.now c.deref-2.result.now c.args.items.now c.args.others.now (ap (map (λ x. x.now)) c.deref.ensures.value ∙ c.in_ok-states.ensures) (ap (map (λ x. x.now)) c.deref-2.ensures.value ∙ c.in_ok-others.ensures) (c.all_claim_alike.ensures e)
