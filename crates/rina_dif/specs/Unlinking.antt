-- How a DIF loses a link.
use Rattle.std.specs.Prelude.{◌≡◌, ℕ, ◌+◌, ◌≤◌, ◌⊎◌, List, length, slice_get, slice_set, false, Option, Some, None, Result, Ok, Err}
use Rattle.rina_account.specs.declared.ledger.Off.{Off}
use Rattle.rina_base.specs.declared.memory.Memory.{Memory}
use Rattle.rina_base.specs.declared.number.Port.{Port}
use Rattle.rina_iface.specs.declared.state.PortState.{PortState}
use Rattle.rina_iface.specs.declared.state.PortState.TheVariants.{Failed}
use Rattle.rina_iface.specs.Seen.{Seen, state_of}
use Rattle.rina_law.specs.Direction.{Direction}
use Rattle.rina_data.specs.declared.link.Link.{Link}
use Rattle.rina_data.specs.declared.link.Route.{Route}
use Rattle.rina_data.specs.declared.loss.Lost.{Lost}
use Rattle.rina_data.specs.declared.process.IpcProcess.{IpcProcess}
use Rattle.rina_data.specs.declared.step.StepError.{StepError}
use Rattle.rina_data.specs.declared.step.StepError.TheVariants as errors
use Rattle.rina_data.specs.Deciding.{process_of, queue_settings}
use Rattle.rina_data.specs.Configs.{config_of}
use Rattle.rina_dif_law.specs.Dif.{DifSeen, with_process}
use Rattle.rina_data.specs.Process.{Process, with_offs}
use Rattle.rina_dif_law.specs.Losing.{FailAll, Loses, NoneLive}
use Rattle.rina_data.specs.Losing.{FindsLost, LosesAt, without_link}
use Rattle.rina_flows.specs.declared.flows.Flows.{Flows}
use Rattle.rina_flows.specs.Stopping.{StopsAll, held_before}
use Rattle.rina_agent.specs.declared.agent.Agent.{Agent}
use Rattle.rina_agent.specs.declared.state.AgentError.TheVariants.{CountSpent}
use Rattle.rina_agent.specs.Rows.{lost}
use Rattle.rina_member.specs.Knowing.{AreRoutesOf}
use Rattle.rina_member.specs.declared.management.Management.{Management}
use Rattle.rina_member.specs.Managements.{MayLoseLink}
use Rattle.rina_dif.specs.declared.dif.Dif.{Dif}
use Rattle.rina_dif.specs.declared.processes.LinkLoss.{LinkLoss}
use Rattle.rina_dif.specs.Closing.{ClosesIn, ClosesOn, FindsOpen, held_at}
use Rattle.rina_dif.specs.Connected.{AreConnected}
use Rattle.rina_dif.specs.Holding.{Holds}
use Rattle.rina_dif.specs.Shown.{seen_of}

-- What the member says

-- what the loss of a link of this number at a tick answers to a step: the management after it, or that no version count is left
abbrev pub AnswersLoss : ℕ → ℕ → Management → Result Management StepError → Type 0
AnswersLoss now number m (Ok after) = MayLoseLink now number m (Ok after)
AnswersLoss now number m (Err (errors.CountSpent need left)) = MayLoseLink now number m (Err (CountSpent need left))
AnswersLoss now number m (Err errors.Memory) = Unit {0}
AnswersLoss now number m (Err other) = ⊥

-- Which link is lost

-- the link that the IPC process at a place loses first, or that it loses none
abbrev pub FindsLostAt : Dif → Seen → ℕ → Option Lost → Type 0
FindsLostAt d below at lost = (p : IpcProcess) → slice_get d.processes at ≡ Some p → FindsLost p.links below lost

-- the links once the one at a place is lost
abbrev pub links_without : List Link → ℕ → Link → List Link
links_without links place link = slice_set links place (record link { live = false })

-- a flow has failed
abbrev pub HasFailed : Option PortState → Type 0
HasFailed (Some (Failed fail)) = Unit {0}
HasFailed other = ⊥

-- no link is left, and the flow of this port, that of the last one, has failed
pub record NoneLeft (links : List Link) (below : Seen) (port : Port) : Type 0 where
  pub none : NoneLive links
  pub failed : HasFailed (state_of below port)

-- whether that is so is told with the port
abbrev pub TellsNoneLeft : List Link → Seen → Port → Option Port → Type 0
TellsNoneLeft links below port None = NoneLeft links below port → ⊥
TellsNoneLeft links below port (Some told) = (told ≡ port) × NoneLeft links below port

-- so once the IPC process at a place lost the link at a place
abbrev pub FindsNoneLeft : Dif → Seen → ℕ → ℕ → Option Port → Type 0
FindsNoneLeft d below at place told = (p : IpcProcess) (link : Link) → slice_get d.processes at ≡ Some p → slice_get p.links place ≡ Some link → TellsNoneLeft (links_without p.links place link) below link.port told

-- the open end of the management connection of the link at a place, or that none is open
abbrev pub FindsEnd : Dif → ℕ → ℕ → Option ℕ → Type 0
FindsEnd d at place end = (p : IpcProcess) (link : Link) → slice_get d.processes at ≡ Some p → slice_get p.links place ≡ Some link → FindsOpen d.connections link.port end

-- What changes of an IPC process

-- it loses a link, and the open end of that closes with its lines behind what waited for the link. There is room for so many
-- lines more
pub record LosesThenCloses (loss : LinkLoss) (more : ℕ) (links : Flows) (p : Process) (links' : Flows) (p' : Process) : Type 0 where
  pub ledger : List Off
  pub loses : LosesAt loss.place loss.routes p (record p' { ledger = ledger })
  pub room : ℕ
  pub fits : length ledger + (held_at loss.end links + more) ≤ room
  pub closes : ClosesIn loss.now loss.end links ledger room links' p'.ledger

-- so, or memory was not found
abbrev pub LosesOr : LinkLoss → Result (Unit {0}) Memory → Flows → Process → Flows → Process → Type 0
LosesOr loss (Ok done) links p links' p' = LosesThenCloses loss 0 links p links' p'
LosesOr loss (Err e) links p links' p' = (links' ≡ links) × (p' ≡ p)

-- and no other does anything
abbrev pub LosesIn : LinkLoss → Result (Unit {0}) Memory → ℕ → Flows → List IpcProcess → Flows → List IpcProcess → Type 0
LosesIn loss result at links old links' new = (p : IpcProcess) → slice_get old at ≡ Some p → (p' : IpcProcess) × LosesOr loss result links (process_of p) links' (process_of p') × (queue_settings p' ≡ queue_settings p) × (new ≡ slice_set old at p')

-- how many pieces the allocated ends at a node hold
abbrev pub held_here : ℕ → Flows → ℕ
held_here node flows = held_before node flows.journal.ends flows.conns (length flows.conns)

-- it loses a link, the open end of that closes, and then all allocated ends at a node are in another state, with their lines
-- behind
pub record LosesThenStops (node : ℕ) (state : PortState) (loss : LinkLoss) (links old : Flows) (p : IpcProcess) (links' new : Flows) (p' : IpcProcess) : Type 0 where
  pub ledger : List Off
  pub loses : LosesThenCloses loss (held_here node old) links (process_of p) links' (record (process_of p') { ledger = ledger })
  pub room : ℕ
  pub wide : loses.room ≤ room
  pub stops : StopsAll loss.now node state old ledger room new p'.ledger

-- or memory was not found
abbrev pub LosesLast : ℕ → PortState → LinkLoss → Flows → Flows → IpcProcess → Result (Unit {0}) Memory → Flows → Flows → IpcProcess → Type 0
LosesLast node state loss links old p (Ok done) links' new p' = LosesThenStops node state loss links old p links' new p'
LosesLast node state loss links old p (Err e) links' new p' = ((links' ≡ links) × (new ≡ old)) × (process_of p' ≡ process_of p)

-- and no other does anything
abbrev pub LosesLastIn : ℕ → PortState → LinkLoss → Result (Unit {0}) Memory → ℕ → Flows → Flows → List IpcProcess → Flows → Flows → List IpcProcess → Type 0
LosesLastIn node state loss result at links flows old links' flows' new = (p : IpcProcess) → slice_get old at ≡ Some p → (p' : IpcProcess) × LosesLast node state loss links flows p result links' flows' p' × (queue_settings p' ≡ queue_settings p) × (new ≡ slice_set old at p')

-- What changes of the DIF

-- the IPC process of place i loses its link of this number, and so does its management, over the items of which its next hops are then
pub record LosesLink (d : Dif) (below : Seen) (i number : ℕ) (new : DifSeen) : Type 0 where
  pub routes : List Route
  pub loses : Loses (seen_of d) below i number routes new
  pub management : Management
  pub is_management : slice_get d.managements i ≡ Some management
  pub after : Agent
  pub told : lost management.agent d.clock number ≡ Ok after
  pub next_hops : AreRoutesOf after d.settings.members routes

-- the DIF after that, with these lines behind those of what waited for the link
abbrev pub with_lost : DifSeen → ℕ → ℕ → Link → List Route → Process → List Off → DifSeen
with_lost d i place link routes process offs = with_process d i (with_offs (without_link place link routes process) offs)

-- where no link is left, and the flow of the last one has failed, all flows at the node fail with it; else nothing more is done
abbrev pub FailsWith : List Link → Seen → Port → List Direction → ℕ → DifSeen → DifSeen → Type 0
FailsWith links below port lines node d d' = (NoneLeft links below port × FailAll lines node port d d') ⊎ ((NoneLeft links below port → ⊥) × (d' ≡ d))

-- the IPC process of place i, at this node, loses its link of this number. The open end of the management connection of that
-- closes, by whatever directions stand behind the connections. And the flows at the node may fail
pub record LosesWith (d : Dif) (lines : List Direction) (below : Seen) (i node number : ℕ) (d' : Dif) : Type 0 where
  pub between : DifSeen
  pub loses : LosesLink d below i number between
  pub offs : List Off
  pub closes : (links : AreConnected (config_of d.settings) d.clock d.connections (seen_of d).processes below) → ClosesOn (config_of d.settings) d.clock links.lines loses.loses.link.port offs d.connections d'.connections
  pub fails : FailsWith (links_without loses.loses.process.links loses.loses.place loses.loses.link) below loses.loses.link.port lines node (with_lost (seen_of d) i loses.loses.place loses.loses.link loses.routes loses.loses.process offs) (seen_of d')

-- the member of place i has no version count left for its link state without the link that is lost first
pub record LacksCounts (d : Dif) (below : Seen) (i need left : ℕ) : Type 0 where
  pub lost_link : Lost
  pub found : FindsLostAt d below i (Some lost_link)
  pub management : Management
  pub is_management : slice_get d.managements i ≡ Some management
  pub told : lost management.agent d.clock lost_link.number ≡ Err (CountSpent need left)

-- and the DIF holds after it, or memory was not found
abbrev pub LosesAs : Dif → List Direction → Seen → ℕ → ℕ → ℕ → Result (Unit {0}) Memory → Dif → Type 0
LosesAs d lines below i node number (Ok done) d' = LosesWith d lines below i node number d' × Holds d' lines below
LosesAs d lines below i node number (Err e) d' = (seen_of d' ≡ seen_of d) × Holds d' lines below
