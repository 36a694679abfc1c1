use Rattle.rina_tower.specs.Refusals.{frees_both}
use Rattle.rina_tower.proofs.Calling.{frees_alone}
use Rattle.rina_tower.specs.Bystanders.{IsIpc}
use Rattle.rina_tower.specs.Ranks.{seen_of}
use Rattle.rina_tower.proofs.Alone.{all_alone}
use Rattle.rina_tower.proofs.tower.Tower.free_app_at_top.Goals as goal

pub returns-then-is_ipc_port-clause-beside : goal.returns-then-is_ipc_port-clause-beside
returns-then-is_ipc_port-clause-beside c = all_alone IsIpc _

pub returns-in-Ok-clause-beside : goal.returns-in-Ok-clause-beside
returns-in-Ok-clause-beside c = frees_alone IsIpc (frees_both c.args.self.now) (seen_of c.args.self.now) c.args.port c.free_at_top.result (seen_of c.free_at_top.new.self) c.free_at_top.ensures.does

pub returns-in-Err-clause-beside : goal.returns-in-Err-clause-beside
returns-in-Err-clause-beside c = frees_alone IsIpc (frees_both c.args.self.now) (seen_of c.args.self.now) c.args.port c.free_at_top.result (seen_of c.free_at_top.new.self) c.free_at_top.ensures.does
