-- How the PDU that was served leaves its queue.
use Rattle.std.specs.Prelude.{◌≡◌, ℕ, ◌≤◌, List, [], ◌∷◌, length, slice_get, Option, Some, None, Result, Ok, Err}
use Rattle.rina_base.specs.declared.cause.Cause.{Cause}
use Rattle.rina_base.specs.declared.cause.Cause.TheVariants.{LinkDown}
use Rattle.rina_base.specs.declared.number.Key.{Key}
use Rattle.rina_base.specs.declared.number.Num.{Num}
use Rattle.rina_base.specs.declared.number.Port.{Port}
use Rattle.rina_base.specs.Pdus.{key_of}
use Rattle.rina_iface.specs.declared.error.SendError.{SendError}
use Rattle.rina_iface.specs.Seen.{Seen, largest_at}
use Rattle.rina_iface.specs.Send.{Sends, refused}
use Rattle.rina_pci.specs.Spelling.{AreWidths}
use Rattle.rina_policy.specs.declared.policy.Head.{Head}
use Rattle.rina_policy.specs.Slots.{Slot, asked as asked_once, count_of}
use Rattle.rina_queue.specs.declared.queue.Queue.{Queue as Waiting}
use Rattle.rina_queue.specs.declared.queue.Queued.{Queued}
use Rattle.rina_queue.specs.Queues.{IsServed, heads_of}
use Rattle.rina_data.specs.declared.link.Link.{Link}
use Rattle.rina_data.specs.declared.departure.First.{First}
use Rattle.rina_data.specs.declared.step.OutStep.{OutStep}
use Rattle.rina_data.specs.declared.step.OutStep.TheVariants as out
use Rattle.rina_data.specs.declared.step.StepError.{StepError}
use Rattle.rina_data.specs.declared.step.StepError.TheVariants.{CountSpent, Memory, NoIpc, NoLink}
use Rattle.rina_data.specs.Configs.{Config}
use Rattle.rina_data.specs.Process.{Process, Queue, IsQueue, link_by, with_offs, with_taken}
use Rattle.rina_data.specs.Outgoing.{IsOver}
use Rattle.rina_data.specs.Fitting.{IsFit}

-- What a step finds

-- a flow below takes an SDU of so many bytes
pub record IsRoomy (below : Seen) (port : Port) (len : ℕ) : Type 0 where
  pub largest : ℕ
  pub is_largest : largest_at below port ≡ Some largest
  pub within : len ≤ largest

-- the clock is that of the rank below, whose flow takes each PDU that may wait for link n
pub record CanGo (g : Config) (now : ℕ) (process : Process) (below : Seen) (n : ℕ) : Type 0 where
  pub widths : AreWidths g.widths
  pub clock : now ≡ below.now
  pub roomy : (link : Link) → link_by n process.links ≡ Some link → IsRoomy below link.port g.pdu
  pub fit : (k j : ℕ) (queue : Queue) (item : Queued) → slice_get process.queues k ≡ Some queue → queue.link ≡ n → slice_get queue.items j ≡ Some item → IsFit g item.pdu

-- How a PDU is handled

-- the first PDU of the queue of a cube and link was taken away
pub record IsTaken (process : Process) (qos link : ℕ) (process' : Process) : Type 0 where
  pub place : ℕ
  pub queue : Queue
  pub is_queue : IsQueue process qos link place queue
  pub new_is : process' ≡ with_taken process place queue

-- and written off
pub record IsOff (process : Process) (qos link : ℕ) (key : Key) (cause : Cause) (process' : Process) : Type 0 where
  pub place : ℕ
  pub queue : Queue
  pub is_queue : IsQueue process qos link place queue
  pub new_is : process' ≡ with_offs (with_taken process place queue) (record { key = key; cause = cause } ∷ [])

-- the first PDU of a queue is written off by this cause, or memory was not found
abbrev pub Drops : Process → First → Cause → Result OutStep StepError → Process → Type 0
Drops process first cause (Ok (out.Off key why)) process' = (key ≡ first.key) × (why ≡ cause) × IsOff process first.qos first.link first.key cause process'
Drops process first cause (Err Memory) process' = process' ≡ process
Drops process first cause result process' = ⊥

-- the flow below is not there, or not any more
pub record IsUnder (own : Option SendError) (below : Seen) (port : Port) (len : ℕ) : Type 0 where
  pub error : SendError
  pub refused : refused below port len own ≡ Some error
  pub over : IsOver error

-- the answer of sending the first PDU of a queue below, in these bytes
abbrev pub Tries : Option SendError → Process → Seen → First → List ℕ → Result OutStep StepError → Process → Seen → Type 0
Tries own process below first bytes (Ok (out.Sent key)) process' below' = (key ≡ first.key) × ((num : Num) × Sends own below first.port bytes (Ok num) below') × IsTaken process first.qos first.link process'
Tries own process below first bytes (Ok (out.Off key cause)) process' below' = (key ≡ first.key) × (cause ≡ LinkDown first.port) × IsUnder own below first.port (length bytes) × IsOff process first.qos first.link first.key (LinkDown first.port) process' × (below' ≡ below)
Tries own process below first bytes (Ok (out.Held why)) process' below' = (refused below first.port (length bytes) own ≡ Some why) × (IsOver why → ⊥) × (process' ≡ process) × (below' ≡ below)
Tries own process below first bytes (Err Memory) process' below' = (process' ≡ process) × (below' ≡ below)
Tries own process below first bytes result process' below' = ⊥

-- What is asked of the shelf

-- the PDU that was served is the one that is sent, written off, or held; `held` is what is said of one that is held
abbrev pub Deals : (Queued → SendError → Type 0) → Process → ℕ → Queued → Result OutStep StepError → Process → Type 0
Deals held process n item (Ok (out.Sent key)) process' = (key ≡ key_of item.pdu) × IsTaken process item.pdu.qos n process'
Deals held process n item (Ok (out.Off key cause)) process' = (key ≡ key_of item.pdu) × IsOff process item.pdu.qos n key cause process'
Deals held process n item (Ok (out.Held why)) process' = held item why
Deals held process n item (Ok out.Idle) process' = ⊥
Deals held process n item (Err why) process' = Unit {0}

-- the shelf was asked once, and its answer followed
pub record IsAsked (may : List Head → ℕ → Type 0) (held : Queued → SendError → Type 0) (policy : List ℕ) (queues : List Waiting) (n : ℕ) (slots slots' : List Slot) (process : Process) (result : Result OutStep StepError) (process' : Process) : Type 0 where
  pub pick : ℕ
  pub lawful : may (heads_of n queues) pick
  pub once : slots' ≡ asked_once policy pick slots
  pub dead : count_of policy slots ≡ None → pick ≡ 0
  pub item : Queued
  pub served : IsServed queues n pick item
  pub dealt : Deals held process n item result process'

-- where no PDU waits, and where there is no such link, it was not asked
abbrev pub Asks : (quiet asks : Type 0) → Result OutStep StepError → Type 0
Asks quiet asks (Ok out.Idle) = quiet
Asks quiet asks (Err NoLink) = quiet
Asks quiet asks (Err NoIpc) = ⊥
Asks quiet asks (Err (CountSpent need left)) = ⊥
Asks quiet asks result = asks
