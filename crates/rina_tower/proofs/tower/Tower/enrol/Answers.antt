use Rattle.rina_tower.specs.Bystanders.{Anyone}
use Rattle.rina_tower.proofs.Alone.{all_alone}
use Rattle.rina_tower.proofs.tower.Tower.enrol.Goals as goal

pub returns-then-has_failed-clause-quiet : goal.returns-then-has_failed-clause-quiet
returns-then-has_failed-clause-quiet c = all_alone Anyone _
