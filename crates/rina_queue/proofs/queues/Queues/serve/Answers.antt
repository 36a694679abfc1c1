-- What is served stands first in the queue of its cube.
use Rattle.std.proofs.Common.{◌≡◌, ◌∙◌, filter, Some, sym, ap}
use Rattle.rina_queue.specs.Queues.{first_in, waits, head_at}
use Rattle.rina_queue.proofs.Served.{served, served_first}
use Rattle.rina_queue.proofs.queues.Queues.serve.Goals as goal

pub returns-clause-first : goal.returns-clause-first
returns-clause-first g c = λ item e.
    let queues = c.args.self.now.queues.items in
    let lent : Some item ≡ head_at c.in_ok-place.place (filter (waits c.args.link) queues) = sym e ∙ c.lend.ensures.first ∙ ap first_in (rw c.as_slice-queues.ensures.value at c.nth_waiting.ensures.nth) in
    served_first c.args.link queues c.in_ok-place.place item (served c.args.link queues c.in_ok-place.place item c.args.self.now.rising c.args.self.now.own lent)
