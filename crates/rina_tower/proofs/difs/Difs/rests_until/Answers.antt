use Rattle.std.proofs.Common.{◌∙◌, List, subst}
use Rattle.rina_dif.specs.declared.dif.Dif.{Dif}
use Rattle.rina_tower.specs.Resting.{AreResting}
use Rattle.rina_tower.proofs.difs.Difs.rests_until.Goals as goal

pub returns : goal.returns
returns g c = λ after. subst (λ (ds : List Dif). AreResting c.least_rest.result ds (g.F.Facility.seen c.args.below.now)) (c.as_slice.ensures.value ∙ c.self.view_is) (c.least_rest.ensures after)
