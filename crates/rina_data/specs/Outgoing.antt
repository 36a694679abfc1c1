-- What an IPC process does with the PDUs that wait for a link.
use Rattle.std.specs.Prelude.{◌≡◌, ℕ, ◌+◌, ◌-◌, ◌<◌, ◌≤◌, List, [], ◌∷◌, length, slice_get, Option, Some, None, Result, Ok, Err}
use Rattle.rina_base.specs.declared.cause.Cause.{Cause}
use Rattle.rina_base.specs.declared.cause.Cause.TheVariants.{Expired, LinkDown}
use Rattle.rina_base.specs.declared.number.Key.{Key}
use Rattle.rina_base.specs.declared.number.Num.{Num}
use Rattle.rina_base.specs.declared.number.Port.{Port}
use Rattle.rina_base.specs.Pdus.{key_of}
use Rattle.rina_iface.specs.declared.error.SendError.{SendError}
use Rattle.rina_iface.specs.declared.error.SendError.TheVariants.{NotAllocated, Failed}
use Rattle.rina_iface.specs.Seen.{Seen, promise_at}
use Rattle.rina_iface.specs.Send.{Sends, refused}
use Rattle.rina_pci.specs.Life.{protected}
use Rattle.rina_pci.specs.Spelling.{spelling}
use Rattle.rina_queue.specs.declared.queue.Queued.{Queued}
use Rattle.rina_data.specs.declared.step.OutStep.{OutStep}
use Rattle.rina_data.specs.declared.step.OutStep.TheVariants as out
use Rattle.rina_data.specs.declared.step.StepError.{StepError}
use Rattle.rina_data.specs.declared.step.StepError.TheVariants.{CountSpent, Memory, NoIpc, NoLink}
use Rattle.rina_data.specs.declared.link.Link.{Link}
use Rattle.rina_data.specs.Configs.{Config}
use Rattle.rina_data.specs.Process.{Queue, Process, link_by, with_offs, with_taken}

-- the lifetime that this hop takes from a PDU: the ticks since it came into this system, and what the flow below may
-- take
abbrev pub charge_of : ℕ → Queued → ℕ → ℕ
charge_of now item promise = (now - item.since) + promise

-- the PDU that goes below, behind the lifetime that it has left
abbrev pub sent_bytes : Config → ℕ → Queued → ℕ → List ℕ
sent_bytes g now item promise = protected (item.left - charge_of now item promise) (spelling g.widths item.pdu)

-- What an IPC process does at a link

-- a PDU stands first in a queue of live link n
pub record IsHead (process : Process) (n : ℕ) (link : Link) (place : ℕ) (queue : Queue) (item : Queued) : Type 0 where
  pub is_link : link_by n process.links ≡ Some link
  pub is_queue : slice_get process.queues place ≡ Some queue
  pub of_link : queue.link ≡ n
  pub first : slice_get queue.items 0 ≡ Some item

-- no PDU waits for a link
abbrev pub NoneWait : Process → ℕ → Type 0
NoneWait process n = (k : ℕ) (queue : Queue) → slice_get process.queues k ≡ Some queue → queue.link ≡ n → queue.items ≡ []

-- what the flow below refuses to this PDU
abbrev pub refused_below : (Port → ℕ → Option SendError) → Config → ℕ → Seen → Link → Queued → ℕ → Option SendError
refused_below refuses g now below link item promise = refused below link.port (length (sent_bytes g now item promise)) (refuses link.port (length (sent_bytes g now item promise)))

-- the PDU is sent below with what is left of its lifetime
pub record IsForwarded (refuses : Port → ℕ → Option SendError) (g : Config) (now : ℕ) (process : Process) (below : Seen) (n : ℕ) (key : Key) (process' : Process) (below' : Seen) : Type 0 where
  pub link : Link
  pub place : ℕ
  pub queue : Queue
  pub item : Queued
  pub head : IsHead process n link place queue item
  pub key_is : key ≡ key_of item.pdu
  pub promise : ℕ
  pub promised : promise_at below link.port ≡ Some promise
  pub in_time : charge_of now item promise ≤ item.left
  pub num : Num
  pub sent : Sends (refuses link.port (length (sent_bytes g now item promise))) below link.port (sent_bytes g now item promise) (Ok num) below'
  pub new_is : process' ≡ with_taken process place queue

-- the PDU is written off by a cause, for which this holds of the link, the PDU, and the promise of the flow below
pub record IsWrittenOff (holds : Link → Queued → ℕ → Type 0) (cause : Cause) (process : Process) (below : Seen) (n : ℕ) (key : Key) (process' : Process) (below' : Seen) : Type 0 where
  pub link : Link
  pub place : ℕ
  pub queue : Queue
  pub item : Queued
  pub head : IsHead process n link place queue item
  pub key_is : key ≡ key_of item.pdu
  pub promise : ℕ
  pub promised : promise_at below link.port ≡ Some promise
  pub why : holds link item promise
  pub below_is : below' ≡ below
  pub new_is : process' ≡ with_offs (with_taken process place queue) (record { key = key; cause = cause } ∷ [])

-- the lifetime is less than the charge
abbrev pub IsLate : ℕ → ℕ → ℕ → Link → Queued → ℕ → Type 0
IsLate now left charge link item promise = (left ≡ item.left) × (charge ≡ charge_of now item promise) × (left < charge)

-- the flow below is not there, or not any more
abbrev pub IsOver : SendError → Type 0
IsOver (NotAllocated state) = Unit {0}
IsOver (Failed fail) = Unit {0}
IsOver other = ⊥

pub record IsDown (refuses : Port → ℕ → Option SendError) (g : Config) (now : ℕ) (below : Seen) (port : Port) (link : Link) (item : Queued) (promise : ℕ) : Type 0 where
  pub port_is : port ≡ link.port
  pub in_time : charge_of now item promise ≤ item.left
  pub error : SendError
  pub refused : refused_below refuses g now below link item promise ≡ Some error
  pub over : IsOver error

-- the flow below refuses this PDU for now, which was in time
pub record IsHeld (refuses : Port → ℕ → Option SendError) (g : Config) (now : ℕ) (below : Seen) (n : ℕ) (process : Process) (item : Queued) (why : SendError) : Type 0 where
  pub link : Link
  pub place : ℕ
  pub queue : Queue
  pub head : IsHead process n link place queue item
  pub promise : ℕ
  pub promised : promise_at below link.port ≡ Some promise
  pub in_time : charge_of now item promise ≤ item.left
  pub refused : refused_below refuses g now below link item promise ≡ Some why
  pub not_over : IsOver why → ⊥

-- by the cause of a write-off
abbrev pub Offs : (Port → ℕ → Option SendError) → Config → ℕ → Process → Seen → ℕ → Key → Cause → Process → Seen → Type 0
Offs refuses g now process below n key (Expired left charge) process' below' = IsWrittenOff (IsLate now left charge) (Expired left charge) process below n key process' below'
Offs refuses g now process below n key (LinkDown port) process' below' = IsWrittenOff (IsDown refuses g now below port) (LinkDown port) process below n key process' below'
Offs refuses g now process below n key cause process' below' = ⊥

-- the IPC process has a live link of that number
abbrev pub IsLive : Process → ℕ → Type 0
IsLive process n = (link : Link) × (link_by n process.links ≡ Some link)

-- what an IPC process does at link n, where `refuses` is what the facility below refuses by what it alone knows
abbrev pub Goes : (Port → ℕ → Option SendError) → Config → ℕ → Process → Seen → ℕ → Result OutStep StepError → Process → Seen → Type 0
Goes refuses g now process below n (Ok out.Idle) process' below' = IsLive process n × NoneWait process n × (process' ≡ process) × (below' ≡ below)
Goes refuses g now process below n (Ok (out.Sent key)) process' below' = IsForwarded refuses g now process below n key process' below'
Goes refuses g now process below n (Ok (out.Off key cause)) process' below' = Offs refuses g now process below n key cause process' below'
Goes refuses g now process below n (Ok (out.Held why)) process' below' = ((item : Queued) × IsHeld refuses g now below n process item why) × (process' ≡ process) × (below' ≡ below)
Goes refuses g now process below n (Err Memory) process' below' = (process' ≡ process) × (below' ≡ below)
Goes refuses g now process below n (Err NoIpc) process' below' = ⊥
Goes refuses g now process below n (Err (CountSpent need left)) process' below' = ⊥
Goes refuses g now process below n (Err NoLink) process' below' = (link_by n process.links ≡ None) × (process' ≡ process) × (below' ≡ below)
