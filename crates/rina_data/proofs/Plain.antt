-- Queues as a DIF sees them.
use Rattle.std.proofs.Common.{◌≡◌, ℕ, ◌+◌, ◌-◌, ◌<◌, ◌≤◌, List, [], ◌∷◌, ◌++◌, length, map, slice_get, slice_set, Some, None, Option, Bool, true, false, cond, ltb, option_map, refl, sym, ◌∙◌, ap, subst, arith}
use Rattle.std.specs.Prelude.{IsSome, position, not}
use Rattle.std.proofs.lemmas.Bool.{false≢true, ltb-true}
use Rattle.std.specs.List.{position_or_len}
use Rattle.std.proofs.lemmas.List.{length-map, map-set}
use Rattle.std.proofs.lemmas.Option.{same_Some, slice_get-map}
use Rattle.rina_queue.specs.declared.queue.Queue.{Queue as Waiting}
use Rattle.rina_queue.specs.declared.queue.Queued.{Queued}
use Rattle.rina_queue.specs.Queues.{Changes, is_queue, items_at, items_in, queue_place as place_there, waiting, with_items}
use Rattle.rina_data.specs.declared.process.IpcProcess.{IpcProcess}
use Rattle.rina_data.specs.Hops.{Hop}
use Rattle.rina_data.specs.Deciding.{plain, process_of}
use Rattle.rina_data.specs.Queueing.{IsFull, IsPassedOn}
use Rattle.rina_base.specs.declared.pdu.Pdu.{Pdu}
use Rattle.rina_data.specs.Process.{IsQueue, Queue, next_hop, queue_place, with_put}
use Rattle.rina_data.proofs.Finding.{there}

place_map : {X Y : Type 0} → (h : X → Y) (p : Y → Bool) (xs : List X) → position_or_len p (map h xs) ≡ position_or_len (λ x. p (h x)) xs
place_map h p [] = refl
place_map h p (x ∷ xs) = ap (λ (n : ℕ). cond (not (p (h x))) (1 + n) 0) (place_map h p xs)

position_map : {X Y : Type 0} → (h : X → Y) (p : Y → Bool) (xs : List X) → position p (map h xs) ≡ position (λ x. p (h x)) xs
position_map h p xs = rw (place_map h p xs, length-map xs h) refl

pub same_place : (qos link : ℕ) (qs : List Waiting) → queue_place qos link (map plain qs) ≡ place_there qos link qs
unfolding is_queue
same_place qos link qs = position_map plain _ qs

within : (n len k : ℕ) → cond (ltb n len) (Some n) None ≡ Some k → k < len
within n len k h = go (ltb n len) refl h
  where
    go : (b : Bool) → ltb n len ≡ b → cond b (Some n) None ≡ Some k → k < len
    go true t e = (let lt = ltb-true n len t in let is : n ≡ k = same_Some n k e in omega arith)
    go false t e = cc

some_there : (o : Option ℕ) → IsSome o → (k : ℕ) × (o ≡ Some k)
some_there None h = absurd (false≢true h)
some_there (Some k) h = (k, refl)

-- the queue of a cube and link
record IsThere (qos link : ℕ) (qs : List Waiting) (k : ℕ) (q : Waiting) : Type 0 where
  is : slice_get qs k ≡ Some q
  items : waiting qos link qs ≡ q.ring.items

at_place : (qos link : ℕ) (qs : List Waiting) (k : ℕ) (q : Waiting) → place_there qos link qs ≡ Some k → slice_get qs k ≡ Some q → IsThere qos link qs k q
at_place qos link qs k q found is = record { is = is; items = ap (λ (o : Option ℕ). items_at o qs) found ∙ ap items_in is }

is_plain : (p : IpcProcess) (qos link k : ℕ) (q : Waiting) → place_there qos link p.queues.queues.items ≡ Some k → slice_get p.queues.queues.items k ≡ Some q → IsQueue (process_of p) qos link k (plain q)
is_plain p qos link k q found is = record { found = same_place qos link p.queues.queues.items ∙ found; is_queue = slice_get-map plain p.queues.queues.items k ∙ ap (option_map plain) is }

-- a queue without room is full
pub full_at : (p : IpcProcess) (hop : Hop) (link room : ℕ) → next_hop hop.pdu.dst p.routes ≡ Some link → IsSome (place_there hop.pdu.qos link p.queues.queues.items) → room ≡ p.queues.cap - length (waiting hop.pdu.qos link p.queues.queues.items) → length (waiting hop.pdu.qos link p.queues.queues.items) ≤ p.queues.cap → room ≡ 0 → IsFull p.queues.cap (process_of p) hop.pdu
full_at p hop link room next some is most none =
    let k = some_there (place_there hop.pdu.qos link p.queues.queues.items) some in
    let q = there p.queues.queues.items k.0 (within _ _ k.0 k.1) in
    let at = at_place hop.pdu.qos link p.queues.queues.items k.0 q.0 k.1 q.1 in
    let count : length (waiting hop.pdu.qos link p.queues.queues.items) ≡ length q.0.ring.items = ap (λ (xs : List Queued). length xs) at.items in
    record { link = link; next = next; place = k.0; queue = plain q.0; is_queue = is_plain p hop.pdu.qos link k.0 q.0 k.1 q.1; full = omega arith }

-- what was put is passed on
pub passed_on : (p : IpcProcess) (hop : Hop) (link room at : ℕ) (pdu : Pdu) (items : List Waiting) → next_hop hop.pdu.dst p.routes ≡ Some link → room ≡ p.queues.cap - length (waiting hop.pdu.qos link p.queues.queues.items) → 0 < room → pdu ≡ hop.pdu
    → Changes hop.pdu.qos link (λ q. with_items (q.ring.items ++ record { pdu = pdu; left = hop.left; since = at } ∷ []) q) p.queues.queues.items items
    → IsPassedOn p.queues.cap (process_of p) at hop (record { links = p.links; routes = p.routes; queues = map plain items; ledger = p.ledger })
passed_on p hop link room at pdu items next is some same c =
    let k = c.0 in
    let q = c.1 in
    let found = sym c.2 in
    let there = at_place hop.pdu.qos link p.queues.queues.items k q found c.3 in
    let count : length (waiting hop.pdu.qos link p.queues.queues.items) ≡ length q.ring.items = ap (λ (xs : List Queued). length xs) there.items in
    let new : Waiting = with_items (q.ring.items ++ record { pdu = pdu; left = hop.left; since = at } ∷ []) q in
    let queues : map plain items ≡ slice_set (map plain p.queues.queues.items) k (plain new) = ap (map plain) c.4 ∙ map-set plain p.queues.queues.items k new in
    let P : Pdu → Type 0 = λ z. record { links = p.links; routes = p.routes; queues = map plain items; ledger = p.ledger } ≡ with_put (process_of p) k (plain q) (record { pdu = z; left = hop.left; since = at } ∷ []) in
    record {
      link = link;
      next = next;
      place = k;
      queue = plain q;
      is_queue = is_plain p hop.pdu.qos link k q found c.3;
      room = omega arith;
      new_is = subst P same (ap (λ (qs : List Queue). record { links = p.links; routes = p.routes; queues = qs; ledger = p.ledger }) queues);
    }
