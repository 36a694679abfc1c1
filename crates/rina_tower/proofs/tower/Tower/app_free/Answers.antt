use Rattle.rina_tower.specs.Bystanders.{IsIpc}
use Rattle.rina_tower.proofs.Alone.{all_alone}
use Rattle.rina_tower.proofs.tower.Tower.app_free.Goals as goal

pub returns-then-has_failed-clause-beside : goal.returns-then-has_failed-clause-beside
returns-then-has_failed-clause-beside c = all_alone IsIpc _
