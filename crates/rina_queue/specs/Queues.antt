-- Queues, one for each link and cube: each is its link, the id of its cube, and its PDUs, the first that came first.
use Rattle.std.specs.Prelude.{◌≡◌, ℕ, ◌-◌, ◌^◌, min, Bool, ◌&&◌, ◌==◌, not, List, [], ◌++◌, Option, Some, None, length, map, position, filter, take, slice_get, slice_set, Contains, ◌<◌, if◌then◌else◌}
use Rattle.std.specs.List.{list_any}
use Rattle.std.specs.List.Sorted.{IsStrictlyIncreasing}
use Rattle.circular_buffer.specs.Buffer.{buffer}
use Rattle.rina_policy.specs.declared.policy.Head.{Head}
use Rattle.rina_queue.specs.declared.queue.Queue.{Queue}
use Rattle.rina_queue.specs.declared.queue.Queued.{Queued}

-- the same queue with other PDUs
abbrev pub with_items : List Queued → Queue → Queue
with_items items q = record { link = q.link; qos = q.qos; ring = buffer items q.ring.capacity }

-- the queue without PDUs, where it is one for the link
unfoldable pub emptied : ℕ → Queue → Queue
emptied link q = if q.link == link then with_items [] q else q

-- an empty queue
abbrev pub no_items : ℕ → ℕ → ℕ → Queue
no_items cap link qos = record { link = link; qos = qos; ring = buffer [] cap }

-- the ids of cubes that are given, each once and in rising order
pub record AreIds (given ids : List ℕ) : Type 0 where
  pub rise : IsStrictlyIncreasing ids
  pub all : (id : ℕ) → Contains given id → Contains ids id
  pub only : (id : ℕ) → Contains ids id → Contains given id

-- the empty queues of a link, one for each cube
abbrev pub no_queues : ℕ → ℕ → List ℕ → List Queue
no_queues cap link cubes = map (λ qos. no_items cap link qos) cubes

-- the queues of a link are there
unfoldable pub has_link : ℕ → List Queue → Bool
has_link link queues = list_any (λ q. q.link == link) queues

-- with the queues of a link, where they were not there before
unfoldable pub added : ℕ → ℕ → List ℕ → List Queue → List Queue
added cap link cubes queues = if has_link link queues then queues else queues ++ no_queues cap link cubes

-- the queue of a cube and link
unfoldable pub is_queue : ℕ → ℕ → Queue → Bool
is_queue qos link q = (q.link == link) && (q.qos == qos)

-- where the queue of a cube and link stands
abbrev pub queue_place : ℕ → ℕ → List Queue → Option ℕ
queue_place qos link queues = position (is_queue qos link) queues

abbrev pub items_in : Option Queue → List Queued
items_in (Some q) = q.ring.items
items_in None = []

abbrev pub items_at : Option ℕ → List Queue → List Queued
items_at (Some k) queues = items_in (slice_get queues k)
items_at None queues = []

-- the PDUs of a cube that wait for a link, the first that came first
abbrev pub waiting : ℕ → ℕ → List Queue → List Queued
waiting qos link queues = items_at (queue_place qos link queues) queues

-- a PDU waits in this queue for a link
unfoldable pub waits : ℕ → Queue → Bool
waits link q = (q.link == link) && not (length q.ring.items == 0)

abbrev pub head_by : Queue → Option Queued → Head
head_by q (Some first) = record { qos = q.qos; waiting = min (length q.ring.items) (2 ^ 32 - 1); len = min (length first.pdu.body) (2 ^ 32 - 1); since = first.since }
head_by q None = record { qos = q.qos; waiting = 0; len = 0; since = 0 }

-- what is shown of a queue's first PDU
unfoldable pub head_of : Queue → Head
head_of q = head_by q (slice_get q.ring.items 0)

-- what is shown for a link: in the order of the queues, the heads of those in which a PDU waits for it; 256 at most, as many as there are ids
abbrev pub heads_of : ℕ → List Queue → List Head
heads_of link queues = take 256 (map head_of (filter (waits link) queues))

abbrev pub first_in : Option Queue → Option Queued
first_in (Some q) = slice_get q.ring.items 0
first_in None = None

-- the first PDU of the queue at a place
abbrev pub head_at : ℕ → List Queue → Option Queued
head_at place queues = first_in (slice_get queues place)

-- a queue stands at the place of a cube and link, and after the change another stands there, and no other changes
abbrev pub Changes : ℕ → ℕ → (Queue → Queue) → List Queue → List Queue → Type 0
Changes qos link change old new =
    (k : ℕ) × (q : Queue) × (Some k ≡ queue_place qos link old) × (slice_get old k ≡ Some q) × (new ≡ slice_set old k (change q))

-- each of these queues has room for so many PDUs
abbrev pub HaveRoom : ℕ → List Queue → Type 0
HaveRoom cap queues = (k : ℕ) (q : Queue) → slice_get queues k ≡ Some q → q.ring.capacity ≡ cap

-- of two queues of one link, the earlier has the lower id
abbrev pub IdsRise : List Queue → Type 0
IdsRise queues = (j k : ℕ) (p q : Queue) → j < k → slice_get queues j ≡ Some p → slice_get queues k ≡ Some q → p.link ≡ q.link → p.qos < q.qos

-- the PDUs of a queue are all of its cube
abbrev pub AreOfCube : Queue → Type 0
AreOfCube q = (k : ℕ) (item : Queued) → slice_get q.ring.items k ≡ Some item → item.pdu.qos ≡ q.qos

-- and so in each of these queues
abbrev pub AllOfCubes : List Queue → Type 0
AllOfCubes queues = (k : ℕ) (q : Queue) → slice_get queues k ≡ Some q → AreOfCube q

-- of the queues in which a PDU waits for a link, the one at this place among them has this PDU first, and is the one that
-- its cube and the link name
pub record IsServed (queues : List Queue) (link pick : ℕ) (item : Queued) : Type 0 where
  pub place : ℕ
  pub queue : Queue
  pub picked : slice_get (filter (waits link) queues) pick ≡ Some queue
  pub found : queue_place item.pdu.qos link queues ≡ Some place
  pub is_queue : slice_get queues place ≡ Some queue
  pub of_link : queue.link ≡ link
  pub first : slice_get queue.ring.items 0 ≡ Some item
