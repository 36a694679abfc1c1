use Rattle.rina_tower.specs.Refusals.{refuses_unregister}
use Rattle.rina_tower.proofs.Calling.{unregisters_alone}
use Rattle.rina_tower.specs.Bystanders.{IsIpc}
use Rattle.rina_tower.specs.Ranks.{seen_of}
use Rattle.rina_tower.proofs.Alone.{all_alone}
use Rattle.rina_tower.proofs.tower.Tower.unregister_app_at_top.Goals as goal

pub returns-then-is_ipc-clause-beside : goal.returns-then-is_ipc-clause-beside
returns-then-is_ipc-clause-beside c = all_alone IsIpc _

pub returns-in-Ok-clause-beside : goal.returns-in-Ok-clause-beside
returns-in-Ok-clause-beside c = unregisters_alone IsIpc (refuses_unregister c.args.self.now c.args.fac c.args.node c.args.app.now) (seen_of c.args.self.now) c.args.fac c.args.node c.args.app.now c.unregister_at_top.result (seen_of c.unregister_at_top.new.self) c.unregister_at_top.ensures.does

pub returns-in-Err-clause-beside : goal.returns-in-Err-clause-beside
returns-in-Err-clause-beside c = unregisters_alone IsIpc (refuses_unregister c.args.self.now c.args.fac c.args.node c.args.app.now) (seen_of c.args.self.now) c.args.fac c.args.node c.args.app.now c.unregister_at_top.result (seen_of c.unregister_at_top.new.self) c.unregister_at_top.ensures.does
