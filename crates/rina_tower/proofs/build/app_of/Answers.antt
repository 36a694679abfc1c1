use Rattle.std.proofs.Common.{◌∙◌, sym}
use Rattle.rina_tower.proofs.FitNames.{app_is}
use Rattle.rina_tower.proofs.build.app_of.Goals as goal

pub returns-in-Ok : goal.returns-in-Ok
returns-in-Ok c = sym (app_is c.as_bytes.result.now c.in-Ok.app c.in-Ok.ensures) ∙ c.as_bytes.ensures
