-- When a DIF rests: nothing waits in it or comes to it, and nothing is due.
use Rattle.std.specs.Prelude.{◌≡◌, ℕ, true, false, List, [], slice_get, Some, None}
use Rattle.rina_data.specs.declared.link.Link.{Link}
use Rattle.rina_data.specs.declared.process.IpcProcess.{IpcProcess}
use Rattle.rina_data.specs.Losing.{NoneLost}
use Rattle.rina_flows.specs.Resting.{NoneDueUntil}
use Rattle.rina_iface.specs.Seen.{Seen, unpassed}
use Rattle.rina_member.specs.declared.management.Management.{Management}
use Rattle.rina_queue.specs.declared.queue.Queue.{Queue}
use Rattle.rina_dif.specs.declared.dif.Dif.{Dif}
use Rattle.rina_dif.specs.WaitingAsks.{NoneLateUntil}

-- no PDU waits in any of the queues
abbrev pub AreEmpty : List Queue → Type 0
AreEmpty queues = (place : ℕ) (queue : Queue) → slice_get queues place ≡ Some queue → queue.ring.items ≡ []

-- no SDU waits below at any of the live links
abbrev pub NoneComes : List Link → Seen → Type 0
NoneComes links below = (place : ℕ) (link : Link) → slice_get links place ≡ Some link → link.live ≡ true → unpassed below link.port ≡ None

-- an IPC process has nothing to send, to take, or to lose
pub record IsAtRest (p : IpcProcess) (below : Seen) : Type 0 where
  pub empty : AreEmpty p.queues.queues.items
  pub none_comes : NoneComes p.links below
  pub none_lost : NoneLost p.links below

-- and so each
abbrev pub AreAtRest : List IpcProcess → Seen → Type 0
AreAtRest processes below = (i : ℕ) (p : IpcProcess) → slice_get processes i ≡ Some p → IsAtRest p below

-- no message waits for any link of the members
abbrev pub NoneWaits : List Management → Type 0
NoneWaits managements = (k : ℕ) (g : Management) → slice_get managements k ≡ Some g → g.agent.agenda ≡ []

-- the DIF can go on, its IPC processes rest over the rank below, its members have nothing to tell, and before this tick nothing is due at
-- its flows or at the management connections of its links, and no ask is late
pub record RestsUntil (until : ℕ) (d : Dif) (below : Seen) : Type 0 where
  pub alive : d.failed ≡ false
  pub processes : AreAtRest d.processes below
  pub messages : NoneWaits d.managements
  pub flows : NoneDueUntil until d.flows
  pub links : NoneDueUntil until d.connections.flows
  pub asks : NoneLateUntil until d
