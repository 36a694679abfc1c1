use Rattle.rina_tower.proofs.FitBound.{has_one}
use Rattle.rina_tower.proofs.build.bind_flow.Goals as goal

pub returns-in-Ok : goal.returns-in-Ok
returns-in-Ok c = has_one c.args.tower.now c.bind.new.self c.args.fixed.now c.in-Ok.field-0 c.in-Ok.ensures.valid c.in-Ok.ensures.below c.requires.plain c.in-Ok.ensures.does (c.in-Ok.ensures.exact, c.in-Ok.ensures.failed)
