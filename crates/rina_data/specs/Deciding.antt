-- What an IPC process decides on a PDU that came, by what it knows itself.
use Rattle.std.specs.Prelude.{◌≡◌, ◌≢◌, ℕ, ◌-◌, ◌<◌, ◌≤◌, List, map, Some, None, IsSome, Result, Ok, Err}
use Rattle.rina_base.specs.declared.cause.Cause.TheVariants as causes
use Rattle.rina_base.specs.declared.memory.Memory.{Memory}
use Rattle.rina_queue.specs.declared.queue.Queue.{Queue as Waiting}
use Rattle.rina_queue.specs.Queues.{queue_place as place_there}
use Rattle.rina_data.specs.declared.process.IpcProcess.{IpcProcess}
use Rattle.rina_data.specs.declared.step.Decision.{Decision}
use Rattle.rina_data.specs.declared.step.Decision.TheVariants as decision
use Rattle.rina_data.specs.Hops.{Hop}
use Rattle.rina_data.specs.Process.{Queue, Process, next_hop}
use Rattle.rina_data.specs.Queueing.{IsFull, IsPassedOn, Notes}

-- a queue as a DIF sees it, without the room that it takes
abbrev pub plain : Waiting → Queue
plain q = record { link = q.link; qos = q.qos; items = q.ring.items }

-- an IPC process as a DIF sees it
abbrev pub process_of : IpcProcess → Process
process_of p = record { links = p.links; routes = p.routes; queues = map plain p.queues.queues.items; ledger = p.ledger }

-- how many PDUs each of its queues holds, and the ids of the cubes for which it makes queues when a link is added
pub record QueueSettings : Type 0 where
  pub cap : ℕ
  pub cubes : List ℕ

abbrev pub queue_settings : IpcProcess → QueueSettings
queue_settings p = record { cap = p.queues.cap; cubes = p.queues.cubes }

-- the queue of the next hop of a PDU is there
abbrev pub IsRouted : IpcProcess → Hop → Type 0
IsRouted p hop = (link : ℕ) → next_hop hop.pdu.dst p.routes ≡ Some link → IsSome (place_there hop.pdu.qos link p.queues.queues.items)

-- a PDU that was not expired, for another address
abbrev pub Forwards : ℕ → Process → ℕ → Hop → Result Decision Memory → Process → Type 0
Forwards cap process at hop (Ok decision.Relayed) process' = IsPassedOn cap process at hop process'
Forwards cap process at hop (Ok (decision.Off (causes.NoRoute dst))) process' = (dst ≡ hop.pdu.dst) × (next_hop dst process.routes ≡ None) × Notes process hop.pdu (causes.NoRoute dst) process'
Forwards cap process at hop (Ok (decision.Off (causes.QueueFull n))) process' = (n ≡ cap) × IsFull cap process hop.pdu × Notes process hop.pdu (causes.QueueFull n) process'
Forwards cap process at hop (Err e) process' = process' ≡ process
Forwards cap process at hop other process' = ⊥

-- a PDU that came at tick `at` to the IPC process of this address
abbrev pub Decides : ℕ → ℕ → ℕ → Process → ℕ → Hop → Result Decision Memory → Process → Type 0
Decides cap now addr process at hop (Ok decision.Here) process' = (now - at ≤ hop.left) × (hop.pdu.dst ≡ addr) × (process' ≡ process)
Decides cap now addr process at hop (Ok (decision.Off (causes.Expired left charge))) process' = (left ≡ hop.left) × (charge ≡ now - at) × (left < charge) × Notes process hop.pdu (causes.Expired left charge) process'
Decides cap now addr process at hop (Err e) process' = process' ≡ process
Decides cap now addr process at hop result process' = (now - at ≤ hop.left) × (hop.pdu.dst ≢ addr) × Forwards cap process at hop result process'
