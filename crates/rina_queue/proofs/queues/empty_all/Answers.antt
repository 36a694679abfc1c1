use Rattle.std.proofs.Common.{◌∙◌, ap, arith, sym}
use Rattle.std.proofs.lemmas.List.Edits.{map_over_more}
use Rattle.rina_queue.specs.Queues.{emptied}
use Rattle.rina_queue.proofs.queues.empty_all.Goals as goal

pub loop-queue-preserved : goal.loop-queue-preserved
loop-queue-preserved c =
    rw (c.empty.ensures ∙ ap (emptied c.args.link) (sym c.queue-item.is))
    (map_over_more (emptied c.args.link) c.deref_mut-queue-items.result.now c.loop-queue.queue-items c.loop-queue.queue-index c.queue-item.result (omega arith) c.loop-queue.invariant c.queue-item.is)
