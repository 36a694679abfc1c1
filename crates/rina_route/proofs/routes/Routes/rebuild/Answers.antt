-- The edges that link states claim have weights.
use Rattle.std.proofs.Common.{◌∙◌, Contains, subst}
use Rattle.rina_route.proofs.Texts.{have_weights}
use Rattle.rina_route.proofs.routes.Routes.rebuild.Goals as goal

pub rebuild_of-requires : goal.rebuild_of-requires
rebuild_of-requires c = record { weights = λ e among. have_weights c.args.states.now e (subst (λ es. Contains es e) (c.deref.ensures.value ∙ c.in_ok-claimed.ensures) among) }
