-- When a management message is due at a link, and what it means to offer it there.
use Rattle.std.specs.Prelude.{◌≡◌, ◌↔◌, ℕ, ◌≤◌, Bool, true, false, IsTrue, List, slice_get, Option, Some, None, Result, Ok, Err, length}
use Rattle.std.specs.Global.{Vec}
use Rattle.rina_base.specs.declared.memory.Memory.{Memory}
use Rattle.rina_base.specs.declared.number.Num.{Num}
use Rattle.rina_conn.specs.declared.conn.Conn.{Conn}
use Rattle.rina_iface.specs.declared.state.PortState.{PortState}
use Rattle.rina_iface.specs.declared.state.PortState.TheVariants.{Allocated}
use Rattle.rina_iface.specs.Seen.{Seen, state_of}
use Rattle.rina_law.specs.Direction.{Direction, offer_refusal}
use Rattle.rina_law.specs.Pieces.{Part}
use Rattle.rina_agent.specs.declared.message.Waiting.{Waiting}
use Rattle.rina_agent.specs.Agenda.{first_on}
use Rattle.rina_member.specs.declared.management.Management.{Management}
use Rattle.rina_member.specs.Managements.{IsSduOf, with_sent}
use Rattle.rina_data.specs.declared.process.IpcProcess.{IpcProcess}
use Rattle.rina_data.specs.Configs.{Config, config_of}
use Rattle.rina_flows.specs.Calls.{AreParts, AreTied, SameIds, Tells, TellsNeed}
use Rattle.rina_flows.specs.Tied.{outward}
use Rattle.rina_channel.specs.Names.{link_config}
use Rattle.rina_channel.specs.Rows.{IsOfferedOn}
use Rattle.rina_dif.specs.declared.dif.Dif.{Dif}
use Rattle.rina_dif.specs.Changing.{changed_at}
use Rattle.rina_dif.specs.Connected.{channels_seen}
use Rattle.rina_dif.specs.Holding.{Holds, LinksStand}
use Rattle.rina_dif.specs.LinkDue.{IsLinkEnd}
use Rattle.rina_dif.specs.Sending.{HasRoomFor}
use Rattle.rina_dif.specs.Shown.{seen_of}

-- Where a message is due

-- the link of this number of the IPC process of place i is live, its flow below is allocated, and the end of its management
-- connection at a place is allocated
pub record IsOpenEnd (d : Dif) (below : Seen) (i place number : ℕ) : Type 0 where
  pub here : IsLinkEnd d i place number
  pub open_below : state_of below here.live.link.port ≡ Some Allocated

-- the end is found, or there is none
abbrev pub FindsOpenEnd : Dif → Seen → ℕ → ℕ → Option ℕ → Type 0
FindsOpenEnd d below i number (Some place) = IsOpenEnd d below i place number
FindsOpenEnd d below i number None = (place : ℕ) → IsOpenEnd d below i place number → ⊥

-- the SDU is the bytes of the message that waits first for the link of this number at the member of place i
pub record IsFirstSdu (d : Dif) (i number : ℕ) (sdu : List ℕ) : Type 0 where
  pub management : Management
  pub is_management : slice_get d.managements i ≡ Some management
  pub waiting : Waiting
  pub first : first_on number management.agent.agenda ≡ Some waiting
  pub is_sdu : IsSduOf waiting.message sdu

-- it is told, or none waits
abbrev pub TellsFirstSdu : Dif → ℕ → ℕ → Option (Vec ℕ) → Type 0
TellsFirstSdu d i number (Some sdu) = IsFirstSdu d i number sdu.items
TellsFirstSdu d i number None = (sdu : List ℕ) → IsFirstSdu d i number sdu → ⊥

-- what never changes in the management connections
abbrev pub manage_config : Dif → Config
manage_config d = link_config (config_of d.settings) d.connections.manage

-- a message is due at the link of this number: the link is open, a message waits for it, and the window and the numbers of the
-- connection and the queue of the link admit all its pieces. `links` has the directions behind the management connections
pub record IsMessageDue (d : Dif) (below : Seen) (links : List Direction) (i place number : ℕ) : Type 0 where
  pub open_end : IsOpenEnd d below i place number
  pub sdu : List ℕ
  pub first : IsFirstSdu d i number sdu
  pub parts : List Part
  pub cut : AreParts (manage_config d) sdu parts
  pub conn : Conn
  pub is_conn : slice_get d.connections.flows.conns place ≡ Some conn
  pub line : Direction
  pub is_line : slice_get links place ≡ Some line
  pub admits : offer_refusal (outward (manage_config d) conn) line parts ≡ None
  pub process : IpcProcess
  pub is_process : slice_get d.processes i ≡ Some process
  pub room : HasRoomFor 0 number (length parts) process

-- at no link of the IPC process
abbrev pub NoMessageDue : Dif → Seen → List Direction → ℕ → Type 0
NoMessageDue d below links i = (place number : ℕ) → IsMessageDue d below links i place number → ⊥

-- What is done

-- the message that is due is offered whole at the management connection of the link: its pieces wait last in the link's queue of
-- management, and the message waits no more
pub record OffersDue (d : Dif) (below : Seen) (links : List Direction) (i place number : ℕ) (d' : Dif) : Type 0 where
  pub due : IsMessageDue d below links i place number
  pub num : Num
  pub links' : List Direction
  pub offered : IsOfferedOn (channels_seen (config_of d.settings) d.clock d.connections) links (seen_of d).processes place due.parts num (channels_seen (config_of d'.settings) d'.clock d'.connections) links' (seen_of d').processes
  pub ids : SameIds d.connections.flows d'.connections.flows
  pub tied : AreTied (manage_config d) d.clock d'.connections.flows links'
  pub managements : d'.managements ≡ changed_at i (λ m. with_sent m number) d.managements

-- at a link of this number the message that is due is offered, or none is due, or memory was not found. Whichever directions stand
-- behind the connections, the DIF holds, and but for the first case nothing changes
abbrev pub OffersAt : Dif → List Direction → Seen → ℕ → ℕ → Result Bool Memory → Dif → Type 0
OffersAt d lines below i number (Ok true) d' = ((links : LinksStand d below) → (place : ℕ) × OffersDue d below links.lines i place number d') × Holds d' lines below
OffersAt d lines below i number (Ok false) d' = ((links : LinksStand d below) (place : ℕ) → IsMessageDue d below links.lines i place number → ⊥) × (d' ≡ d)
OffersAt d lines below i number (Err e) d' = d' ≡ d

-- the message of the first link at which one is due is offered, and the number of that link told; or none is due, or memory was not
-- found
pub record OffersFirst (d : Dif) (below : Seen) (links : List Direction) (i number : ℕ) (d' : Dif) : Type 0 where
  pub place : ℕ
  pub offers : OffersDue d below links i place number d'
  pub least : (other its : ℕ) → IsMessageDue d below links i other its → number ≤ its

abbrev pub OffersAmong : Dif → List Direction → Seen → ℕ → Result (Option ℕ) Memory → Dif → Type 0
OffersAmong d lines below i (Ok (Some number)) d' = ((links : LinksStand d below) → OffersFirst d below links.lines i number d') × Holds d' lines below
OffersAmong d lines below i (Ok None) d' = ((links : LinksStand d below) → NoMessageDue d below links.lines i) × (d' ≡ d)
OffersAmong d lines below i (Err e) d' = d' ≡ d

-- How it is called

-- the flow of a port is allocated
abbrev pub IsAllocated : Option PortState → Type 0
IsAllocated (Some Allocated) = Unit {0}
IsAllocated other = ⊥

-- whether the queue of management of a link has room for all pieces that an SDU of so many bytes is cut into is told
pub record TellsRoomFor (d : Dif) (i place number len : ℕ) (told : Bool) : Type 0 where
  pub need : ℕ
  pub told_need : Tells (λ k. TellsNeed len k.sending.form.piece need) place d.connections.flows.conns
  pub process : IpcProcess
  pub is_process : slice_get d.processes i ≡ Some process
  pub room : IsTrue told ↔ HasRoomFor 0 number need process

-- an SDU waits first for a link, at whose end it is to be offered, and the queue of the link has room for it
pub record IsReady (d : Dif) (i place number : ℕ) (sdu : List ℕ) : Type 0 where
  pub here : IsLinkEnd d i place number
  pub first : IsFirstSdu d i number sdu
  pub need : ℕ
  pub told_need : Tells (λ k. TellsNeed (length sdu) k.sending.form.piece need) place d.connections.flows.conns
  pub process : IpcProcess
  pub is_process : slice_get d.processes i ≡ Some process
  pub room : HasRoomFor 0 number need process
