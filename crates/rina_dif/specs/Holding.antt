-- What holds of a DIF at every moment.
use Rattle.std.specs.Prelude.{◌≡◌, ℕ, false, true, List, Contains, slice_get, Some, IsSome}
use Rattle.rina_iface.specs.Seen.{Seen}
use Rattle.rina_law.specs.Direction.{Direction}
use Rattle.rina_data.specs.declared.link.Link.{Link}
use Rattle.rina_data.specs.declared.process.IpcProcess.{IpcProcess}
use Rattle.rina_dif_law.specs.Accounted.{IsAccounted}
use Rattle.rina_dif_law.specs.Carried.{IsCarrying}
use Rattle.rina_dif_law.specs.Caused.{AreCaused}
use Rattle.rina_data.specs.Configs.{Config, config_of}
use Rattle.rina_data.specs.Deciding.{process_of}
use Rattle.rina_data.specs.Process.{Process, Queue, next_hop, queue_place}
use Rattle.rina_dif_law.specs.Numbered.{IsNumbered}
use Rattle.rina_dif_law.specs.Passing.{IsPassed}
use Rattle.rina_data.specs.Fitting.{IsQos}
use Rattle.rina_dif_law.specs.Standing.{IsStanding}
use Rattle.rina_dif_law.specs.Written.{AreWrittenOff}
use Rattle.rina_flows.specs.Calls.{AreTied}
use Rattle.rina_member.specs.Knowing.{HasLiveLink}
use Rattle.rina_queue.specs.declared.queue.Queued.{Queued}
use Rattle.rina_dif.specs.declared.dif.Dif.{Dif}
use Rattle.rina_dif.specs.Connected.{AreConnected}
use Rattle.rina_dif.specs.Flooding.{AreFlooding}
use Rattle.rina_dif.specs.Managing.{AreEnrolled, AreManaged}
use Rattle.rina_dif.specs.Shown.{seen_of}

-- each live link has a queue for each cube
abbrev pub HaveQueues : Config → Process → Type 0
HaveQueues g process = (place qos : ℕ) (link : Link) → slice_get process.links place ≡ Some link → link.live ≡ true → IsQos g qos → IsSome (queue_place qos link.number process.queues)

-- the link of each next hop has a queue for each cube
abbrev pub HasQueues : Config → Process → Type 0
HasQueues g process = (dst link qos : ℕ) → next_hop dst process.routes ≡ Some link → IsQos g qos → IsSome (queue_place qos link process.queues)

-- a number that has a queue has one for each cube
abbrev pub AreWhole : Config → List Queue → Type 0
AreWhole g queues = (number a b : ℕ) → IsSome (queue_place a number queues) → IsQos g b → IsSome (queue_place b number queues)

-- a PDU waits at an IPC process for the link of a number
pub record WaitsAt (process : Process) (number : ℕ) (item : Queued) : Type 0 where
  pub place : ℕ
  pub queue : Queue
  pub is_queue : slice_get process.queues place ≡ Some queue
  pub link : queue.link ≡ number
  pub at : ℕ
  pub is_item : slice_get queue.items at ≡ Some item

-- PDUs wait for live links alone, so that none waits for the number that a further link gets
abbrev pub WaitsOnLive : Process → Type 0
WaitsOnLive process = (number : ℕ) (item : Queued) → WaitsAt process number item → HasLiveLink process.links number

-- the queues of an IPC process are those that its DIF says, and so are those that a further link will have: one for each cube, be they made for it, or
-- those that an earlier link of its number had, in which nothing waits
pub record IsHoused (g : Config) (p : IpcProcess) : Type 0 where
  pub cap : p.queues.cap ≡ g.cap
  pub links : HaveQueues g (process_of p)
  pub queues : HasQueues g (process_of p)
  pub cubes : (qos : ℕ) → IsQos g qos → Contains p.queues.cubes qos
  pub whole : AreWhole g (process_of p).queues
  pub waits : WaitsOnLive (process_of p)

-- and so for each
abbrev pub AreHoused : Config → List IpcProcess → Type 0
AreHoused g processes = (i : ℕ) (p : IpcProcess) → slice_get processes i ≡ Some p → IsHoused g p

-- the DIF stands on the rank below, where these directions stand behind its flows, whatever an end got has come, its
-- names are those of its members and ports, each IPC process is in account for each PDU, each end that has failed did so
-- for its cause, each line of a ledger says what is true, each member has a management that knows its live links, and over the items of
-- which its next hops are, the DIF knows which members are enrolled, the management connections of the links stand, and until an allocation fails the members are a network in
-- which what one makes is flooded to all: after a failure some of them may have taken a directory entry and others not
pub record Holds (d : Dif) (lines : List Direction) (below : Seen) : Type 0 where
  pub tied : AreTied (config_of d.settings) d.clock d.flows lines
  pub standing : IsStanding (seen_of d) lines below
  pub carrying : IsCarrying (seen_of d) lines below
  pub numbered : IsNumbered (seen_of d) below
  pub accounted : IsAccounted (seen_of d) lines below
  pub caused : AreCaused (seen_of d) below
  pub written_off : AreWrittenOff (seen_of d)
  pub housed : AreHoused (config_of d.settings) d.processes
  pub managed : AreManaged d
  pub enrolled : AreEnrolled d
  pub connected : AreConnected (config_of d.settings) d.clock d.connections (seen_of d).processes below
  pub flooded : d.failed ≡ false → AreFlooding d

-- its management connections stand
abbrev pub LinksStand : Dif → Seen → Type 0
LinksStand d below = AreConnected (config_of d.settings) d.clock d.connections (seen_of d).processes below

-- some directions stand behind its flows
abbrev pub Stands : Dif → Seen → Type 0
Stands d below = (lines : List Direction) × Holds d lines below

-- the oldest SDU of the end at a place was passed
pub record Passes (d : Dif) (lines : List Direction) (at : ℕ) (d' : Dif) (below : Seen) : Type 0 where
  pub lines' : List Direction
  pub passed : IsPassed (seen_of d) lines at (seen_of d') lines'
  pub holds : Holds d' lines' below
