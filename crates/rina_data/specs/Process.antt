-- What a contract sees of an IPC process.
use Rattle.std.specs.Prelude.{◌≡◌, ℕ, ◌==◌, ◌&&◌, Bool, List, ◌++◌, drop, find, position, slice_get, slice_set, Option, Some, option_and_then, option_map}
use Rattle.rina_account.specs.declared.ledger.Off.{Off}
use Rattle.rina_queue.specs.declared.queue.Queued.{Queued}
use Rattle.rina_data.specs.declared.link.Link.{Link}
use Rattle.rina_data.specs.declared.link.Route.{Route}

-- the PDUs of a cube that wait for a link, the first that came first
pub record Queue : Type 0 where
  pub link : ℕ
  pub qos : ℕ
  pub items : List Queued

-- what changes of an IPC process
pub record Process : Type 0 where
  pub links : List Link
  pub routes : List Route
  pub queues : List Queue
  pub ledger : List Off

-- a live link has this number
unfoldable pub is_link : ℕ → Link → Bool
is_link number l = l.live && (l.number == number)

-- the live link of a number
abbrev pub link_by : ℕ → List Link → Option Link
link_by number links = option_and_then (λ i. slice_get links i) (position (is_link number) links)

-- the link that is the next hop to an address
abbrev pub next_hop : ℕ → List Route → Option ℕ
next_hop dst routes = option_map (λ (r : Route). r.link) (find (λ (r : Route). r.dst == dst) routes)

-- where the queue of a cube and link stands
abbrev pub queue_place : ℕ → ℕ → List Queue → Option ℕ
queue_place qos link queues = position (λ (q : Queue). (q.link == link) && (q.qos == qos)) queues

pub record IsQueue (process : Process) (qos link place : ℕ) (queue : Queue) : Type 0 where
  pub found : queue_place qos link process.queues ≡ Some place
  pub is_queue : slice_get process.queues place ≡ Some queue

-- the process with this queue in the place of another
abbrev pub with_queue : Process → ℕ → Queue → Process
with_queue p k q = record p { queues = slice_set p.queues k q }

-- with more PDUs at the end of a queue
abbrev pub with_put : Process → ℕ → Queue → List Queued → Process
with_put p k q items = with_queue p k (record q { items = q.items ++ items })

-- without the first PDU of a queue
abbrev pub with_taken : Process → ℕ → Queue → Process
with_taken p k q = with_queue p k (record q { items = drop 1 q.items })

-- with more lines in its ledger
abbrev pub with_offs : Process → List Off → Process
with_offs p offs = record p { ledger = p.ledger ++ offs }
