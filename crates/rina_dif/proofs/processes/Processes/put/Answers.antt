use Rattle.rina_dif.specs.Sending.{queued}
use Rattle.rina_dif.proofs.Putting.{puts_one}
use Rattle.rina_dif.proofs.processes.Processes.put.Goals as goal

pub returns : goal.returns
returns c =
    let x = c.index_mut-process.result.now in
    rw (← c.self.view_is) (puts_one c.args.qos c.args.link (queued c.args.left c.args.since c.args.pdus.items) c.args.at c.self.inside.items.items x c.put_all.new.queues (rw (← c.self.view_is) at c.requires.at) c.index_mut-process.ensures.value c.put_all.ensures.put c.put_all.ensures.same)
