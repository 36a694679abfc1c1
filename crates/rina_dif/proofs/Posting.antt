-- A PDU that a management connection made goes into the queue of its link, or into the ledger.
use Rattle.std.proofs.Common.{◌≡◌, ◌∙◌, ℕ, ◌-◌, ◌<◌, ◌≤◌, Bool, true, false, cond, ltb, List, [], ◌∷◌, ◌++◌, length, map, get_or, slice_get, slice_set, Option, option_map, Some, None, Result, refl, sym, ap, subst, arith}
use Rattle.std.specs.Prelude.{IsSome}
use Rattle.std.proofs.lemmas.Bool.{false≢true, ltb-true}
use Rattle.std.proofs.lemmas.List.{map-set}
use Rattle.std.proofs.lemmas.Option.{same_Some, slice_get-map, slice_get_read}
use Rattle.rina_base.specs.declared.cause.Cause.{Cause}
use Rattle.rina_base.specs.declared.cause.Cause.TheVariants as causes
use Rattle.rina_base.specs.declared.memory.Memory.{Memory}
use Rattle.rina_base.specs.declared.pdu.Pdu.{Pdu}
use Rattle.rina_queue.specs.declared.queue.Queue.{Queue as Waiting}
use Rattle.rina_queue.specs.declared.queue.Queued.{Queued}
use Rattle.rina_queue.specs.Queues.{Changes, items_at, items_in, queue_place as place_there, waiting, with_items}
use Rattle.rina_data.specs.declared.process.IpcProcess.{IpcProcess}
use Rattle.rina_data.specs.Deciding.{plain, process_of, queue_settings}
use Rattle.rina_data.specs.Hops.{Hop}
use Rattle.rina_data.specs.Process.{IsQueue, Process, Queue, with_put}
use Rattle.rina_data.specs.Queueing.{Notes}
use Rattle.rina_data.proofs.Finding.{there}
use Rattle.rina_data.proofs.Plain.{same_place}
use Rattle.rina_dif.specs.LinkSteps.{IsFullFor, IsPutFor, PostsAt, PostsFor}

same_some : {X : Type 0} (o : Option X) (a b : X) → o ≡ Some a → o ≡ Some b → a ≡ b
same_some o a b h g = cc

-- The queue of a link

within : (n len k : ℕ) → cond (ltb n len) (Some n) None ≡ Some k → k < len
within n len k h = go (ltb n len) refl h
  where
    go : (b : Bool) → ltb n len ≡ b → cond b (Some n) None ≡ Some k → k < len
    go true t e = (let lt = ltb-true n len t in let is : n ≡ k = same_Some n k e in omega arith)
    go false t e = cc

some_there : (o : Option ℕ) → IsSome o → (k : ℕ) × (o ≡ Some k)
some_there None h = absurd (false≢true h)
some_there (Some k) h = (k, refl)

is_plain : (p : IpcProcess) (qos link k : ℕ) (q : Waiting) → place_there qos link p.queues.queues.items ≡ Some k → slice_get p.queues.queues.items k ≡ Some q → IsQueue (process_of p) qos link k (plain q)
is_plain p qos link k q found is = record { found = same_place qos link p.queues.queues.items ∙ found; is_queue = slice_get-map plain p.queues.queues.items k ∙ ap (option_map plain) is }

items_there : (link : ℕ) (qs : List Waiting) (k : ℕ) (q : Waiting) → place_there 0 link qs ≡ Some k → slice_get qs k ≡ Some q → waiting 0 link qs ≡ q.ring.items
items_there link qs k q found is = ap (λ (o : Option ℕ). items_at o qs) found ∙ ap items_in is

-- it has no room
pub full_for : (p : IpcProcess) (link room : ℕ) (pdu : Pdu) (p' : Process) → IsSome (place_there 0 link p.queues.queues.items) → room ≡ p.queues.cap - length (waiting 0 link p.queues.queues.items) → length (waiting 0 link p.queues.queues.items) ≤ p.queues.cap → room ≡ 0 → Notes (process_of p) pdu (causes.QueueFull p.queues.cap) p' → IsFullFor p.queues.cap link pdu (process_of p) p'
full_for p link room pdu p' some is most none notes =
    let k = some_there (place_there 0 link p.queues.queues.items) some in
    let q = there p.queues.queues.items k.0 (within _ _ k.0 k.1) in
    let count : length (waiting 0 link p.queues.queues.items) ≡ length q.0.ring.items = ap (λ (xs : List Queued). length xs) (items_there link p.queues.queues.items k.0 q.0 k.1 q.1) in
    record { place = k.0; queue = plain q.0; is_queue = is_plain p 0 link k.0 q.0 k.1 q.1; full = omega arith; new_is = notes }

-- it has
pub put_for : (p : IpcProcess) (hop : Hop) (link room now : ℕ) (pdu : Pdu) (items : List Waiting) → room ≡ p.queues.cap - length (waiting 0 link p.queues.queues.items) → 0 < room → pdu ≡ hop.pdu
    → Changes 0 link (λ q. with_items (q.ring.items ++ record { pdu = pdu; left = hop.left; since = now } ∷ []) q) p.queues.queues.items items
    → IsPutFor p.queues.cap now link hop (process_of p) (record { links = p.links; routes = p.routes; queues = map plain items; ledger = p.ledger })
put_for p hop link room now pdu items is some same c =
    let k = c.0 in
    let q = c.1 in
    let found = sym c.2 in
    let count : length (waiting 0 link p.queues.queues.items) ≡ length q.ring.items = ap (λ (xs : List Queued). length xs) (items_there link p.queues.queues.items k q found c.3) in
    let new : Waiting = with_items (q.ring.items ++ record { pdu = pdu; left = hop.left; since = now } ∷ []) q in
    let queues : map plain items ≡ slice_set (map plain p.queues.queues.items) k (plain new) = ap (map plain) c.4 ∙ map-set plain p.queues.queues.items k new in
    let P : Pdu → Type 0 = λ z. record { links = p.links; routes = p.routes; queues = map plain items; ledger = p.ledger } ≡ with_put (process_of p) k (plain q) (record { pdu = z; left = hop.left; since = now } ∷ []) in
    record {
      place = k;
      queue = plain q;
      is_queue = is_plain p 0 link k q found c.3;
      room = omega arith;
      new_is = subst P same (ap (λ (qs : List Queue). record { links = p.links; routes = p.routes; queues = qs; ledger = p.ledger }) queues);
    }

-- One IPC process of those that are kept

pub posts_one : (now number : ℕ) (hop : Hop) (r : Result (Option Cause) Memory) (at : ℕ) (ps : List IpcProcess) (x x' : IpcProcess) → at < length ps → x ≡ get_or ps at x → PostsFor x.queues.cap now number hop r (process_of x) (process_of x') → queue_settings x' ≡ queue_settings x → PostsAt now number hop r at ps (slice_set ps at x')
posts_one now number hop r at ps x x' lt read posts room p is =
    let here : slice_get ps at ≡ Some x = slice_get_read ps (length ps) at x refl lt read in
    let same : x ≡ p = same_some (slice_get ps at) x p here is in
    (x', subst (λ (z : IpcProcess). PostsFor z.queues.cap now number hop r (process_of z) (process_of x')) same posts, subst (λ (z : IpcProcess). queue_settings x' ≡ queue_settings z) same room, refl)

pub queue_one : (number at : ℕ) (ps : List IpcProcess) (x : IpcProcess) → at < length ps → x ≡ get_or ps at x → ((p : IpcProcess) → slice_get ps at ≡ Some p → IsSome (place_there 0 number p.queues.queues.items)) → IsSome (place_there 0 number x.queues.queues.items)
queue_one number at ps x lt read has = has x (slice_get_read ps (length ps) at x refl lt read)
