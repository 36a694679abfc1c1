use Rattle.rina_tower.proofs.Calling.{claims_alone}
use Rattle.rina_tower.specs.Bystanders.{IsIpc}
use Rattle.rina_tower.specs.Ranks.{seen_of}
use Rattle.rina_tower.proofs.Alone.{all_alone}
use Rattle.rina_tower.proofs.tower.Tower.incoming_app_at_top.Goals as goal

pub returns-then-is_ipc-clause-beside : goal.returns-then-is_ipc-clause-beside
returns-then-is_ipc-clause-beside c = all_alone IsIpc _

pub returns-clause-beside : goal.returns-clause-beside
returns-clause-beside c = claims_alone IsIpc (seen_of c.args.self.now) c.args.fac c.args.node c.args.app.now c.incoming.result (seen_of c.incoming.new.self) c.incoming.ensures.does
