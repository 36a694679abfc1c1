use Rattle.std.proofs.Common.{◌∙◌, sym}
use Rattle.rina_tower.specs.Refusals.{refuses_allocate}
use Rattle.rina_tower.proofs.Walks.{asked_beside}
use Rattle.rina_tower.specs.Bystanders.{IsIpc}
use Rattle.rina_tower.specs.Ranks.{seen_of}
use Rattle.rina_tower.proofs.Alone.{all_alone}
use Rattle.rina_tower.proofs.tower.Tower.allocate_app_at_top.Goals as goal

pub returns-then-is_for_ipc-clause-beside : goal.returns-then-is_for_ipc-clause-beside
returns-then-is_for_ipc-clause-beside c = all_alone IsIpc _

pub returns-in-Ok-clause-beside : goal.returns-in-Ok-clause-beside
returns-in-Ok-clause-beside c = asked_beside (refuses_allocate c.args.self.now c.args.ask.now) (seen_of c.args.self.now) c.args.ask.now c.allocate_at_top.result (seen_of c.allocate_at_top.new.self) (sym c.is_for_ipc.ensures ∙ c.if-is_for_ipc.false) c.allocate_at_top.ensures.does

pub returns-in-Err-clause-beside : goal.returns-in-Err-clause-beside
returns-in-Err-clause-beside c = asked_beside (refuses_allocate c.args.self.now c.args.ask.now) (seen_of c.args.self.now) c.args.ask.now c.allocate_at_top.result (seen_of c.allocate_at_top.new.self) (sym c.is_for_ipc.ensures ∙ c.if-is_for_ipc.false) c.allocate_at_top.ensures.does
