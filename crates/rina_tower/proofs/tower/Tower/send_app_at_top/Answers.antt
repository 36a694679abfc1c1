use Rattle.std.proofs.Common.{◌∙◌, length, sym}
use Rattle.rina_tower.specs.Refusals.{refuses_send}
use Rattle.rina_tower.proofs.Walks.{sent_beside}
use Rattle.rina_tower.specs.Bystanders.{IsIpc}
use Rattle.rina_tower.specs.Ranks.{seen_of}
use Rattle.rina_tower.proofs.Alone.{all_alone}
use Rattle.rina_tower.proofs.tower.Tower.send_app_at_top.Goals as goal

pub returns-then-is_ipc_port-clause-beside : goal.returns-then-is_ipc_port-clause-beside
returns-then-is_ipc_port-clause-beside c = all_alone IsIpc _

pub returns-in-Ok-clause-beside : goal.returns-in-Ok-clause-beside
returns-in-Ok-clause-beside c = sent_beside (refuses_send c.args.self.now c.args.port (length c.args.sdu.now)) (seen_of c.args.self.now) c.args.port c.args.sdu.now c.send_at_top.result (seen_of c.send_at_top.new.self) (sym c.is_ipc_port.ensures ∙ c.if-is_ipc_port.false) c.send_at_top.ensures.does

pub returns-in-Err-clause-beside : goal.returns-in-Err-clause-beside
returns-in-Err-clause-beside c = sent_beside (refuses_send c.args.self.now c.args.port (length c.args.sdu.now)) (seen_of c.args.self.now) c.args.port c.args.sdu.now c.send_at_top.result (seen_of c.send_at_top.new.self) (sym c.is_ipc_port.ensures ∙ c.if-is_ipc_port.false) c.send_at_top.ensures.does
