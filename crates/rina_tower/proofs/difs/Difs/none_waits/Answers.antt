use Rattle.std.proofs.Common.{◌∙◌, subst}
use Rattle.rina_tower.specs.Resting.{AreDifsClaimed}
use Rattle.rina_tower.proofs.Rested.{difs_claimed}
use Rattle.rina_tower.proofs.difs.Difs.none_waits.Goals as goal

pub returns : goal.returns
returns c = λ e now. difs_claimed now c.args.self.now (subst AreDifsClaimed (c.as_slice.ensures.value ∙ c.self.view_is) (c.none_waits.ensures e))
