use Rattle.std.proofs.Common.{◌∙◌, ap, refl}
use Rattle.rina_dif.specs.declared.dif.Dif.{Dif}
use Rattle.rina_dif.proofs.Facing.{same_goes_on, unchanged}
use Rattle.rina_dif.proofs.Registered.{noted_stays}
use Rattle.rina_dif.proofs.dif.Dif.unregister.Goals as goal

pub returns-then-self-clause-shown : goal.returns-then-self-clause-shown
returns-then-self-clause-shown c = λ s n h. unchanged s n c.args.self.now c.args.self.now h refl

pub returns-then-self-clause-goes_on : goal.returns-then-self-clause-goes_on
returns-then-self-clause-goes_on c = same_goes_on c.args.self.now c.args.self.now c.requires refl

pub returns-clause-stands : goal.returns-clause-stands
returns-clause-stands c = noted_stays c.args.self.now c.remove_name-removed.new.self _ (ap (λ (z : Dif). z.failed) c.remove_name-removed.ensures.whole ∙ c.if-self.false) c.remove_name-removed.ensures.stands
