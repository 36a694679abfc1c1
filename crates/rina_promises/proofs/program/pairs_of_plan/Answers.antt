use Rattle.std.proofs.Common.{◌∙◌, ap, sym}
use Rattle.rina_promises.specs.Looking.{dif_named}
use Rattle.rina_promises.proofs.Told.{pairs_there}
use Rattle.rina_promises.proofs.program.pairs_of_plan.Goals as goal

pub returns-in-Some : goal.returns-in-Some
returns-in-Some g c = pairs_there c.args.plan.now (dif_named c.args.name.now c.args.plan.now.difs) c.in-Some.at _ _ c.pairs_at.result
    (sym (c.dif_named.ensures.place ∙ ap (λ ds. dif_named c.args.name.now ds) c.as_slice.ensures) ∙ c.in-Some.is) c.pairs_at.ensures
