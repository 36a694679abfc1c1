use Rattle.rina_tower.specs.Bystanders.{Anyone}
use Rattle.rina_tower.specs.Ranks.{seen_of}
use Rattle.rina_tower.specs.Refusals.{refuses_register}
use Rattle.rina_tower.proofs.Alone.{all_alone}
use Rattle.rina_tower.proofs.Calling.{registers_alone}
use Rattle.rina_tower.proofs.tower.Tower.register_ipc_at_top.Goals as goal

pub returns-in_default-clause-quiet : goal.returns-in_default-clause-quiet
returns-in_default-clause-quiet c = all_alone Anyone _

pub returns-in-Ok-clause-quiet : goal.returns-in-Ok-clause-quiet
returns-in-Ok-clause-quiet c = registers_alone Anyone (refuses_register c.args.self.now c.args.fac c.args.node c.in-Some.name.now) (seen_of c.args.self.now) c.args.fac c.args.node c.in-Some.name.now c.register_at_top.result (seen_of c.register_at_top.new.self) c.register_at_top.ensures.does

pub returns-in-Err-clause-quiet : goal.returns-in-Err-clause-quiet
returns-in-Err-clause-quiet c = registers_alone Anyone (refuses_register c.args.self.now c.args.fac c.args.node c.in-Some.name.now) (seen_of c.args.self.now) c.args.fac c.args.node c.in-Some.name.now c.register_at_top.result (seen_of c.register_at_top.new.self) c.register_at_top.ensures.does
