-- The cloud of a DIF: the PDUs that may still come to an IPC process, each with the last tick at which it may.
use Rattle.std.specs.Prelude.{◌≡◌, ℕ, ◌+◌, ◌≤◌, ◌⊎◌, List, slice_get, Some}
use Rattle.rina_base.specs.declared.number.Port.{Port}
use Rattle.rina_base.specs.declared.pdu.Pdu.{Pdu}
use Rattle.rina_iface.specs.declared.ends.End.{End}
use Rattle.rina_iface.specs.Seen.{Seen, end_of, promise_at}
use Rattle.rina_law.specs.declared.entry.Entry.{Entry}
use Rattle.rina_queue.specs.declared.queue.Queued.{Queued}
use Rattle.rina_data.specs.Configs.{Config, Member}
use Rattle.rina_data.specs.Process.{Process, Queue}
use Rattle.rina_data.specs.Hops.{Hop, opened}

-- the application of this name is the member of this address
pub record IsMember (members : List Member) (addr : ℕ) (name : List ℕ) : Type 0 where
  pub place : ℕ
  pub member : Member
  pub stands : slice_get members place ≡ Some member
  pub addr_is : member.addr ≡ addr
  pub name_is : member.name ≡ name

-- the application of this name is a member
pub record IsMine (members : List Member) (name : List ℕ) : Type 0 where
  pub addr : ℕ
  pub member : IsMember members addr name

-- a PDU waits at the IPC process of place i for the link of number n
pub record Waits (processes : List Process) (i n : ℕ) (item : Queued) : Type 0 where
  pub process : Process
  pub is_process : slice_get processes i ≡ Some process
  pub place : ℕ
  pub queue : Queue
  pub is_queue : slice_get process.queues place ≡ Some queue
  pub link : queue.link ≡ n
  pub at : ℕ
  pub is_item : slice_get queue.items at ≡ Some item

-- where PDUs are looked for: in the whole DIF, or on one link of the IPC process of a place, which has this number
-- and this port below
pub data Scope : Type 0 where
  Everywhere : Scope
  OneLink : (process number : ℕ) (port : Port) → Scope

abbrev pub IsQueueIn : Scope → ℕ → ℕ → Type 0
IsQueueIn Everywhere i n = Unit {0}
IsQueueIn (OneLink process number port) i n = (i ≡ process) × (n ≡ number)

abbrev pub IsPortIn : Scope → Port → Type 0
IsPortIn Everywhere p = Unit {0}
IsPortIn (OneLink process number port) p = p ≡ port

-- a PDU that waits in a queue
pub record IsQueued (scope : Scope) (processes : List Process) (death : ℕ) (pdu : Pdu) : Type 0 where
  pub process : ℕ
  pub link : ℕ
  pub within : IsQueueIn scope process link
  pub item : Queued
  pub waits : Waits processes process link item
  pub dies : death ≡ item.since + item.left
  pub is : item.pdu ≡ pdu

-- a PDU that a member sent below
pub record IsOnWay (scope : Scope) (g : Config) (below : Seen) (death : ℕ) (pdu : Pdu) : Type 0 where
  pub port : Port
  pub within : IsPortIn scope port
  pub end : End
  pub here : end_of below port ≡ Some end
  pub mine : IsMine g.members end.app
  pub promise : ℕ
  pub promised : promise_at below port ≡ Some promise
  pub at : ℕ
  pub entry : Entry
  pub is_entry : slice_get end.sent at ≡ Some entry
  pub hop : Hop
  pub opens : opened g.widths entry.bytes ≡ Some hop
  pub dies : death ≡ entry.tick + promise + hop.left
  pub is : hop.pdu ≡ pdu

-- a PDU that came to a member and was not yet taken
pub record IsCome (g : Config) (below : Seen) (death : ℕ) (pdu : Pdu) : Type 0 where
  pub port : Port
  pub end : End
  pub here : end_of below port ≡ Some end
  pub mine : IsMine g.members end.app
  pub at : ℕ
  pub waits : end.taken ≤ at
  pub entry : Entry
  pub is_entry : slice_get end.got at ≡ Some entry
  pub hop : Hop
  pub opens : opened g.widths entry.bytes ≡ Some hop
  pub dies : death ≡ entry.tick + hop.left
  pub is : hop.pdu ≡ pdu

-- what waits and what was sent. It covers the copies that came, since each was sent on its flow and came within the
-- promise
abbrev pub Cloud : Scope → Config → List Process → Seen → ℕ → Pdu → Type 0
Cloud scope g processes below death pdu = IsQueued scope processes death pdu ⊎ IsOnWay scope g below death pdu

-- with the copies that came
abbrev pub WholeCloud : Config → List Process → Seen → ℕ → Pdu → Type 0
WholeCloud g processes below death pdu = Cloud Everywhere g processes below death pdu ⊎ IsCome g below death pdu
