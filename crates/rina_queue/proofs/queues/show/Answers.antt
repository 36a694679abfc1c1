-- A queue in which a PDU waits is shown, and no other.
use Rattle.std.proofs.Common.{sym, ◌∙◌}
use Rattle.rina_queue.specs.Queues.{waits, head_of}
use Rattle.rina_queue.proofs.Shown.{put_more, put_none, put_full}
use Rattle.rina_queue.proofs.queues.show.Goals.{then-count-most+then-waits, else-count-most, else-count-most-via-then-count-most+else-waits, else-count-most-via-else-count-most}
use Rattle.rina_queue.proofs.queues.show.Goals as goal

pub loop-queue-preserved : goal.loop-queue-preserved
loop-queue-preserved c =
    let test = waits c.args.link in let xs = c.args.queues.now in let old = c.loop-queue.heads in let new = c.if-count-most.heads in
    let count = c.loop-queue.count in let many = c.if-count-most.count in let i = c.loop-queue.queue-index in let x = c.queue-item.result in
    elim c.if-count-most.branch [
      | then-count-most+then-waits w ↦ put_more test head_of xs old new _ count many i x w.head.result c.loop-queue-test.true c.queue-item.is (sym w.waits.ensures.waits ∙ w.if-waits.true) w.if-count-most.true w.head.ensures w.heads-is w.count-is c.loop-queue.invariant
      | else-count-most w ↦ elim w.else-count-most.branch [
        | else-count-most-via-then-count-most+else-waits v ↦ put_none test head_of xs old new _ count many i x c.loop-queue-test.true c.queue-item.is (sym v.waits.ensures.waits ∙ v.if-waits.false) w.heads-is w.count-is c.loop-queue.invariant
        | else-count-most-via-else-count-most v ↦ put_full test head_of xs old new _ count many i x c.loop-queue-test.true v.if-count-most.false w.heads-is w.count-is c.loop-queue.invariant
      ]
    ]
