use Rattle.rina_stack.proofs.Sound.{read_plan}
use Rattle.rina_stack.proofs.read.read_stack.Goals as goal

pub returns-in-Ok-clause-plan : goal.returns-in-Ok-clause-plan
returns-in-Ok-clause-plan g c = read_plan _ c.stack_of.result _ c.stack_of.ensures.read
