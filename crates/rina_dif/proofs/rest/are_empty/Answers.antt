use Rattle.std.proofs.Common.{◌≡◌, [], ap, arith, length}
use Rattle.std.proofs.lemmas.List.{nil_from_length}
use Rattle.rina_queue.specs.declared.queue.Queue.{Queue}
use Rattle.rina_dif.proofs.Rested.{all_so_far, so_far_next}
use Rattle.rina_dif.proofs.rest.are_empty.Goals as goal

pub loop-place-preserved : goal.loop-place-preserved
loop-place-preserved c =
    let none = c.if-len-gt0.false in
    let count = c.len.ensures.len in
    let same = ap (λ (q : Queue). length q.ring.items) c.index-queues-place.is in
    so_far_next (λ (q : Queue). q.ring.items ≡ []) c.args.queues.now c.loop-place.place c.index-queues-place.result c.index-queues-place.is (nil_from_length c.index-queues-place.result.ring.items (omega (arith, none, count, same))) c.loop-place.invariant

pub returns : goal.returns
returns c = λ e.
    let after = c.loop-place-test.false in
    all_so_far (λ (q : Queue). q.ring.items ≡ []) c.args.queues.now c.loop-place.place (omega (arith, after)) c.loop-place.invariant
