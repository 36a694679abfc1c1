-- The PDU that is served is the first of the queue that its cube and the link name.
use Rattle.std.proofs.Common.{◌≡◌, ◌∙◌, ℕ, ◌<◌, true, false, List, filter, Option, Some, None, slice_get, refl, sym, ap, arith}
use Rattle.std.proofs.lemmas.Bool.Decides.{nat_tests}
use Rattle.rina_queue.specs.declared.queue.Queue.{Queue}
use Rattle.rina_queue.specs.declared.queue.Queued.{Queued}
use Rattle.rina_queue.specs.Queues.{AllOfCubes, IdsRise, IsServed, first_in, head_at, is_queue, waiting, waits}
use Rattle.rina_queue.proofs.Places.{first_at, kept_at}

link_waits : (link : ℕ) (q : Queue) → waits link q ≡ true → q.link ≡ link
unfolding waits
link_waits link q w = grind (arith, nat_tests, w)

is_that : (qos link : ℕ) (q : Queue) → q.link ≡ link → q.qos ≡ qos → is_queue qos link q ≡ true
unfolding is_queue
is_that qos link q l c = grind (arith, nat_tests, l, c)

is_not : (qos link : ℕ) (q : Queue) → (q.link ≡ link → q.qos < qos) → is_queue qos link q ≡ false
unfolding is_queue
is_not qos link q less =
    elim (is_queue qos link q) as (λ b. is_queue qos link q ≡ b → b ≡ false) [
      | true ↦ λ t.
          let l : q.link ≡ link = grind (arith, nat_tests, t) in
          let c : q.qos ≡ qos = grind (arith, nat_tests, t) in
          absurd (omega (arith, less l, c))
      | false ↦ λ f. refl
    ] refl

first_there : (o : Option Queue) (item : Queued) → Some item ≡ first_in o → (q : Queue) × (o ≡ Some q)
first_there None item e = absurd cc
first_there (Some q) item e = (q, refl)

-- the PDU at a head of the queues in which one waits
pub served : (link : ℕ) (queues : List Queue) (pick : ℕ) (item : Queued) → IdsRise queues → AllOfCubes queues → Some item ≡ head_at pick (filter (waits link) queues) → IsServed queues link pick item
served link queues pick item rise own is =
    let there = first_there (slice_get (filter (waits link) queues) pick) item is in
    let queue : Queue = there.0 in
    let first : Some item ≡ slice_get queue.ring.items 0 = is ∙ ap first_in there.1 in
    let found = kept_at (waits link) queues pick queue there.1 in
    let place : ℕ = found.0 in
    let of_link : queue.link ≡ link = link_waits link queue found.1.passes in
    let cube : item.pdu.qos ≡ queue.qos = own place queue found.1.stands 0 item (sym first) in
    let before : (j : ℕ) (y : Queue) → j < place → slice_get queues j ≡ Some y → is_queue item.pdu.qos link y ≡ false =
    λ j y less at. is_not item.pdu.qos link y (λ l. let below : y.qos < queue.qos = rise j place y queue less at found.1.stands (l ∙ sym of_link) in omega (arith, below, cube)) in
    record {
      place = place;
      queue = queue;
      picked = there.1;
      found = first_at (is_queue item.pdu.qos link) queues place queue found.1.stands (is_that item.pdu.qos link queue of_link (sym cube)) before;
      is_queue = found.1.stands;
      of_link = of_link;
      first = sym first;
    }

-- it stands first in the queue of its cube
pub served_first : (link : ℕ) (queues : List Queue) (pick : ℕ) (item : Queued) → IsServed queues link pick item → slice_get (waiting item.pdu.qos link queues) 0 ≡ Some item
served_first link queues pick item s = rw (s.found, s.is_queue) s.first
