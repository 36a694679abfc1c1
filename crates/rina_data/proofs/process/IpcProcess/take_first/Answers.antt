use Rattle.rina_data.proofs.Leaves.{taken}
use Rattle.rina_data.proofs.process.IpcProcess.take_first.Goals as goal

pub returns-clause-taken : goal.returns-clause-taken
returns-clause-taken c = taken c.args.self.now c.args.first.qos c.args.first.link c.take.new.self.queues.items c.take.ensures.rest
