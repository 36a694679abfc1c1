-- What comes to a DIF on its links.
use Rattle.std.specs.Prelude.{◌≡◌, ℕ, ◌+◌, ◌-◌, ◌≤◌, ◌⊎◌, List, [], length, position, slice_get, slice_set, Option, Some, None, IfSome, Result, Ok, Err}
use Rattle.rina_account.specs.declared.ledger.Off.{Off}
use Rattle.rina_alloc.specs.declared.message.FlowMessage.{FlowMessage}
use Rattle.rina_agent.specs.declared.state.AgentError.{AgentError}
use Rattle.rina_agent.specs.declared.state.AgentError.TheVariants as agent
use Rattle.rina_base.specs.declared.cause.Cause.{Cause}
use Rattle.rina_base.specs.declared.memory.Memory.{Memory as NoMemory}
use Rattle.rina_base.specs.declared.number.Port.{Port}
use Rattle.rina_base.specs.declared.pdu.Pdu.{Pdu}
use Rattle.rina_base.specs.declared.pdu.PduView.{PduView}
use Rattle.rina_base.specs.declared.pdu.PduKind.TheVariants.{Piece as APiece}
use Rattle.rina_base.specs.Pdus.{pdu_of}
use Rattle.rina_conn.specs.declared.conn.Conn.{Conn}
use Rattle.rina_iface.specs.Journal.{AreKept}
use Rattle.rina_iface.specs.Seen.{Seen, unpassed}
use Rattle.rina_law.specs.declared.entry.Entry.{Entry}
use Rattle.rina_law.specs.Direction.{Direction}
use Rattle.rina_data.specs.declared.link.Link.{Link}
use Rattle.rina_data.specs.declared.process.IpcProcess.{IpcProcess}
use Rattle.rina_data.specs.declared.step.InStep.{InStep}
use Rattle.rina_data.specs.declared.step.InStep.TheVariants as steps
use Rattle.rina_data.specs.declared.step.Decision.{Decision}
use Rattle.rina_data.specs.declared.step.StepError.{StepError}
use Rattle.rina_data.specs.declared.step.StepError.TheVariants.{CountSpent, Memory, NoIpc}
use Rattle.rina_data.specs.declared.step.Took.{Took}
use Rattle.rina_data.specs.declared.step.Took.TheVariants as took
use Rattle.rina_dif_law.specs.Cloud.{Everywhere, IsOnWay}
use Rattle.rina_data.specs.Hops.{Hop, opened}
use Rattle.rina_data.specs.Configs.{Config, Member, config_of}
use Rattle.rina_data.specs.Deciding.{Decides, IsRouted, process_of, queue_settings}
use Rattle.rina_dif_law.specs.Dif.{DifSeen, IsProcess}
use Rattle.rina_data.specs.Process.{Process, link_by}
use Rattle.rina_dif_law.specs.Ids.{IsOfLink}
use Rattle.rina_dif_law.specs.Incoming.{Ins, Settles}
use Rattle.rina_data.specs.Queueing.{Notes}
use Rattle.rina_dif_law.specs.Sending.{home}
use Rattle.rina_data.specs.Fitting.{IsFit}
use Rattle.rina_flows.specs.declared.flows.Flows.{Flows}
use Rattle.rina_channel.specs.Channels.{has_port}
use Rattle.rina_channel.specs.Coming.{TakesOnLink}
use Rattle.rina_channel.specs.Ledgers.{unnamed_from}
use Rattle.rina_channel.specs.Names.{link_config, named}
use Rattle.rina_flows.specs.Calls.{AreTied, TakesHere}
use Rattle.rina_flows.specs.Delivering.{ArrivesIn}
use Rattle.rina_dif.specs.declared.dif.Dif.{Dif}
use Rattle.rina_dif.specs.declared.messages_in.Handled.{Handled}
use Rattle.rina_dif.specs.Flooding.{StayFlooding}
use Rattle.rina_dif.specs.FlowMessages.{BringsMessages, HandlesFlows}
use Rattle.rina_dif.specs.Handling.{HandlesAhead, HandlesAll, IsChange, LacksAhead, told_of}
use Rattle.rina_dif.specs.Holding.{AreHoused, Holds, LinksStand}
use Rattle.rina_dif.specs.Managing.{AreEnrolled, AreManaged}
use Rattle.rina_dif.specs.Routing.{MayReroute}
use Rattle.rina_dif.specs.Shown.{seen_of}
use Rattle.rina_dif.specs.Steps.{AtHome}
use Rattle.rina_dif.specs.declared.connections.Connections.{Connections}
use Rattle.rina_dif.specs.Connected.{AreConnected, channels_seen}

-- One IPC process of those that are kept

-- it decides on a PDU that came at tick `since`
abbrev pub DecidesAt : ℕ → ℕ → ℕ → Hop → Result Decision NoMemory → ℕ → List IpcProcess → List IpcProcess → Type 0
DecidesAt now addr since hop result at old new =
    (p : IpcProcess) → slice_get old at ≡ Some p → (p' : IpcProcess) × Decides p.queues.cap now addr (process_of p) since hop result (process_of p') × (queue_settings p' ≡ queue_settings p) × (new ≡ slice_set old at p')

-- which has a queue for it
abbrev pub RoutesAt : Hop → ℕ → List IpcProcess → Type 0
RoutesAt hop at processes = (p : IpcProcess) → slice_get processes at ≡ Some p → IsRouted p hop

-- it writes a PDU off, or does nothing
abbrev pub IsNoted : Process → Pdu → Cause → Result (Unit {0}) NoMemory → Process → Type 0
IsNoted process pdu cause (Ok done) process' = Notes process pdu cause process'
IsNoted process pdu cause (Err e) process' = process' ≡ process

abbrev pub NotesAt : Pdu → Cause → Result (Unit {0}) NoMemory → ℕ → List IpcProcess → List IpcProcess → Type 0
NotesAt pdu cause result at old new =
    (p : IpcProcess) → slice_get old at ≡ Some p → (p' : IpcProcess) × IsNoted (process_of p) pdu cause result (process_of p') × (queue_settings p' ≡ queue_settings p) × (new ≡ slice_set old at p')

-- a piece comes to a connection, and what is written off stands in its ledger
abbrev pub ArrivesTo : ℕ → ℕ → Pdu → ℕ → Flows → List IpcProcess → Result (Option Cause) NoMemory → Flows → List IpcProcess → Type 0
ArrivesTo now place pdu at flows old result flows' new =
    (p : IpcProcess) → slice_get old at ≡ Some p → (ledger : List Off) × ArrivesIn now place pdu flows p.ledger result flows' ledger × (new ≡ slice_set old at (record p { ledger = ledger }))

-- and so of a management connection, whose lines name no source there
abbrev pub ArrivesOnLink : ℕ → ℕ → Pdu → ℕ → Flows → List IpcProcess → Result (Option Cause) NoMemory → Flows → List IpcProcess → Type 0
ArrivesOnLink now place pdu at flows old (Ok cause) flows' new =
    (p : IpcProcess) → slice_get old at ≡ Some p → (ledger : List Off) × ArrivesIn now place pdu flows p.ledger (Ok cause) flows' ledger × (new ≡ slice_set old at (record p { ledger = unnamed_from (length p.ledger) ledger }))
ArrivesOnLink now place pdu at flows old (Err e) flows' new = (flows' ≡ flows) × (new ≡ old)

-- A PDU that came at tick `since`

-- it may be sent on, and a member sent it below, from where it may come for so long
pub record IsThere (d : DifSeen) (below : Seen) (since : ℕ) (hop : Hop) : Type 0 where
  pub fit : IsFit d.config hop.pdu
  pub past : since ≤ d.clock
  pub older : ℕ
  pub later : since + hop.left ≤ older
  pub on_way : IsOnWay Everywhere d.config below older hop.pdu

-- to a DIF that stands
abbrev pub Comes : Dif → ℕ → Hop → Type 0
Comes d since hop = (lines : List Direction) × (below : Seen) × Holds d lines below × IsThere (seen_of d) below since hop

-- and is not too old, and for this IPC process
abbrev pub IsOwn : Dif → ℕ → ℕ → Hop → Type 0
IsOwn d at since hop = (d.clock - since ≤ hop.left) × ((member : Member) → slice_get (seen_of d).config.members at ≡ Some member → hop.pdu.dst ≡ member.addr)

-- it is one of a link's management connection, and in time
abbrev pub IsForLink : Dif → ℕ → Hop → Type 0
IsForLink d since hop = (d.clock - since ≤ hop.left) × IsOfLink hop.pdu

-- it is the oldest SDU that waits at a port below
pub record IsOldest (g : Config) (below : Seen) (port : Port) (since : ℕ) (hop : Hop) : Type 0 where
  pub entry : Entry
  pub oldest : unpassed below port ≡ Some entry
  pub tick : entry.tick ≡ since
  pub opens : opened g.widths entry.bytes ≡ Some hop

-- the management connections of its links stand wherever they stood
abbrev pub StaysConnected : Dif → Dif → Type 0
StaysConnected d d' = (below : Seen) → AreConnected (config_of d.settings) d.clock d.connections (seen_of d).processes below → AreConnected (config_of d'.settings) d'.clock d'.connections (seen_of d').processes below

-- how the PDU was handled: the flows stay tied, the IPC processes are housed and managed, the enrolled members are known, the management
-- connections of the links stand on, and the members are the network that they were
pub record HasSettled (d : Dif) (lines : List Direction) (at since : ℕ) (hop : Hop) (end : Took) (d' : Dif) : Type 0 where
  pub lines' : List Direction
  pub settled : (member : Member) (process : Process) → IsProcess (seen_of d) at member process → Settles (seen_of d) lines at member process since hop end (seen_of d') lines'
  pub tied : AreTied (config_of d'.settings) d'.clock d'.flows lines'
  pub housed : AreHoused (config_of d'.settings) d'.processes
  pub managed : AreManaged d'
  pub enrolled : AreEnrolled d'
  pub connected : StaysConnected d d'
  pub flooded : StayFlooding d d'

abbrev pub SettlesAs : Dif → List Direction → Seen → ℕ → ℕ → Hop → Result Took NoMemory → Dif → Type 0
SettlesAs d lines below at since hop (Ok end) d' = HasSettled d lines at since hop end d'
SettlesAs d lines below at since hop (Err e) d' = (seen_of d' ≡ seen_of d) × Holds d' lines below

-- by the DIF as it stands, whatever directions it is tied to
abbrev pub SettlesFor : Dif → ℕ → ℕ → Hop → Result Took NoMemory → Dif → Type 0
SettlesFor d at since hop result d' = (lines : List Direction) (below : Seen) → Holds d lines below → IsThere (seen_of d) below since hop → SettlesAs d lines below at since hop result d'

-- A PDU that came on a link with this port

-- the end of a management connection that takes it is that of the first channel with this port, and `its` is the PDU by the
-- places of the two ends
pub record IsLinkTaker (c : Connections) (port : Port) (pdu : Pdu) (place : ℕ) (its : Pdu) : Type 0 where
  pub at : position (has_port port) c.channels ≡ Some place
  pub conn : Conn
  pub is_conn : slice_get c.flows.conns place ≡ Some conn
  pub its_is : its ≡ named conn.sending.form.peer.far conn.sending.form.peer.own pdu
  pub takes : TakesHere c.flows.journal.ends c.flows.conns place its

-- there is none, or it is this one
abbrev pub LinkTakenBy : Connections → Port → Pdu → Option (ℕ × PduView) → Type 0
LinkTakenBy c port pdu None = (place : ℕ) (its : Pdu) → IsLinkTaker c port pdu place its → ⊥
LinkTakenBy c port pdu (Some taker) = IsLinkTaker c port pdu taker.0 (pdu_of taker.1)

-- a PDU that came at tick `since` is a piece of the link's own, in time, and the end at a place takes it
pub record TakesOwnPiece (d : Dif) (since : ℕ) (port : Port) (hop : Hop) (place : ℕ) (its : Pdu) : Type 0 where
  pub for_link : IsForLink d since hop
  pub piece : hop.pdu.kind ≡ APiece
  pub taker : IsLinkTaker d.connections port hop.pdu place its

-- no end takes it so
abbrev pub NoOwnPiece : Dif → ℕ → Port → Hop → Type 0
NoOwnPiece d since port hop = (place : ℕ) (its : Pdu) → TakesOwnPiece d since port hop place its → ⊥

-- none does, or it is this one
abbrev pub OwnPieceTakenBy : Dif → ℕ → Port → Hop → Option (ℕ × PduView) → Type 0
OwnPieceTakenBy d since port hop None = NoOwnPiece d since port hop
OwnPieceTakenBy d since port hop (Some taker) = TakesOwnPiece d since port hop taker.0 (pdu_of taker.1)

-- what the management connection of the link made of it, of which `links` are the directions, before and after
pub record IsTakenOnLink (d : Dif) (links : List Direction) (since : ℕ) (port : Port) (hop : Hop) (end : Took) (d' : Dif) (links' : List Direction) : Type 0 where
  pub for_link : IsForLink d since hop
  pub dropped : List Off
  pub takes : TakesOnLink (channels_seen (config_of d.settings) d.clock d.connections) links port hop.pdu end dropped (channels_seen (config_of d'.settings) d'.clock d'.connections) links'

-- a PDU of a flow leaves those connections as they are, and so does one that is too old
abbrev pub SettlesLinks : Dif → List Direction → ℕ → Port → Hop → Took → Dif → List Direction → Type 0
SettlesLinks d links since port hop end d' links' = ((IsForLink d since hop → ⊥) × (d'.connections ≡ d.connections)) ⊎ IsTakenOnLink d links since port hop end d' links'

-- how it was handled, be it of a flow or of a link: what holds of the DIF beside its flows goes on to hold
pub record HasTaken (d : Dif) (lines links : List Direction) (below : Seen) (at since : ℕ) (port : Port) (hop : Hop) (end : Took) (d' : Dif) : Type 0 where
  pub lines' : List Direction
  pub settled : (member : Member) (process : Process) → IsProcess (seen_of d) at member process → Settles (seen_of d) lines at member process since hop end (seen_of d') lines'
  pub tied : AreTied (config_of d'.settings) d'.clock d'.flows lines'
  pub housed : AreHoused (config_of d'.settings) d'.processes
  pub managed : AreManaged d'
  pub enrolled : AreEnrolled d'
  pub connected : AreConnected (config_of d'.settings) d'.clock d'.connections (seen_of d').processes below
  pub channels : SettlesLinks d links since port hop end d' connected.lines
  pub flooded : StayFlooding d d'

abbrev pub TakesAs : Dif → List Direction → List Direction → Seen → ℕ → ℕ → Port → Hop → Result Took NoMemory → Dif → Type 0
TakesAs d lines links below at since port hop (Ok end) d' = HasTaken d lines links below at since port hop end d'
TakesAs d lines links below at since port hop (Err e) d' = (seen_of d' ≡ seen_of d) × Holds d' lines below × (d'.connections ≡ d.connections)

abbrev pub TakesFor : Dif → ℕ → ℕ → Port → Hop → Result Took NoMemory → Dif → Type 0
TakesFor d at since port hop result d' = (lines : List Direction) (below : Seen) (h : Holds d lines below) → AreKept below → IsThere (seen_of d) below since hop → IsOldest (config_of d.settings) below port since hop → TakesAs d lines h.connected.lines below at since port hop result d'

-- What it brings to the member

-- what changes at the member of place i that handled the messages which a piece of its link of this number makes whole. The piece is not taken
pub record BringsAhead (d : Dif) (i number since : ℕ) (port : Port) (hop : Hop) (h : Handled) : Type 0 where
  pub its : Pdu
  pub takes : TakesOwnPiece d since port hop h.place its
  pub handles : HandlesAhead d i h.place number its (told_of h.change)
  pub changes : IfSome h.change (IsChange d i)

-- or the PDU is no piece that an end of the link takes
abbrev pub MayBring : Dif → ℕ → ℕ → ℕ → Port → Hop → Option Handled → Type 0
MayBring d i number since port hop (Some h) = BringsAhead d i number since port hop h
MayBring d i number since port hop None = NoOwnPiece d since port hop

-- a message that the piece makes whole needs more version counts or invoke ids than the member of place i has left
pub record LacksFor (d : Dif) (i number since : ℕ) (port : Port) (hop : Hop) (need left : ℕ) : Type 0 where
  pub place : ℕ
  pub its : Pdu
  pub takes : TakesOwnPiece d since port hop place its
  pub lacks : LacksAhead d i place number its need left

-- what is told ahead; nothing where memory ran out
abbrev pub BringsAs : Dif → ℕ → ℕ → ℕ → Port → Hop → Result (Option Handled) AgentError → Type 0
BringsAs d i number since port hop (Ok found) = MayBring d i number since port hop found
BringsAs d i number since port hop (Err (agent.CountSpent need left)) = LacksFor d i number since port hop need left
BringsAs d i number since port hop (Err agent.Memory) = Unit {0}

-- the messages about flows among those SDUs, which the member handles last; any other PDU brings none
abbrev pub BringsFlows : Dif → ℕ → Port → Hop → List FlowMessage → Type 0
BringsFlows d since port hop ms = ((place : ℕ) × (its : Pdu) × TakesOwnPiece d since port hop place its × BringsMessages d place its ms) ⊎ (NoOwnPiece d since port hop × (ms ≡ []))

-- Once it was taken, the end passes what came to it, and the member of place i handles it; nothing more happens where no end took a piece
abbrev pub HandlesPiece : Dif → ℕ → ℕ → ℕ → Port → Hop → Dif → Seen → Dif → Type 0
HandlesPiece d i number since port hop taken below' d' =
    ((place : ℕ) × (its : Pdu) × TakesOwnPiece d since port hop place its × ((links : LinksStand taken below') → HandlesAll taken links.lines i place number d')) ⊎ (NoOwnPiece d since port hop × (d' ≡ taken))

-- what it is told
abbrev pub took_of : Option Cause → Took
took_of None = took.Accepted
took_of (Some cause) = took.Off cause

-- The step

-- the PDU in the oldest SDU of link n of the IPC process of place i: where it is the link's own, its management connection took it, or none
-- did; else every management connection is as it was. `links` are the directions behind them before
pub record TakesOldest (d : Dif) (links : List Direction) (below : Seen) (i n : ℕ) (end : Took) (d' : Dif) : Type 0 where
  pub process : IpcProcess
  pub is_process : slice_get d.processes i ≡ Some process
  pub link : Link
  pub is_link : link_by n process.links ≡ Some link
  pub since : ℕ
  pub hop : Hop
  pub is_oldest : IsOldest (config_of d.settings) below link.port since hop
  pub links' : List Direction
  pub settled : SettlesLinks d links since link.port hop end d' links'
  pub tied : AreTied (link_config (config_of d'.settings) d'.connections.manage) d'.clock d'.connections.flows links'

-- what a step makes of the management connections: where none was taken they are as they were
abbrev pub TakesLinks : Dif → List Direction → Seen → ℕ → ℕ → Result InStep StepError → Dif → Type 0
TakesLinks d links below i n (Ok (steps.Took key end)) d' = TakesOldest d links below i n end d'
TakesLinks d links below i n result d' = d'.connections ≡ d.connections

-- what the piece in the oldest SDU of link n made whole is handled, once the SDU was taken
pub record HandlesOldest (d : Dif) (below : Seen) (i n : ℕ) (taken : Dif) (below' : Seen) (d' : Dif) : Type 0 where
  pub process : IpcProcess
  pub is_process : slice_get d.processes i ≡ Some process
  pub link : Link
  pub is_link : link_by n process.links ≡ Some link
  pub since : ℕ
  pub hop : Hop
  pub is_oldest : IsOldest (config_of d.settings) below link.port since hop
  pub handles : HandlesPiece d i n since link.port hop taken below' d'

-- for what the piece in the oldest SDU of link n makes whole the member has too few version counts or invoke ids left
pub record LacksOldest (d : Dif) (below : Seen) (i n need left : ℕ) : Type 0 where
  pub process : IpcProcess
  pub is_process : slice_get d.processes i ≡ Some process
  pub link : Link
  pub is_link : link_by n process.links ≡ Some link
  pub since : ℕ
  pub hop : Hop
  pub is_oldest : IsOldest (config_of d.settings) below link.port since hop
  pub lacks : LacksFor d i n since link.port hop need left

-- what a step handles: where no SDU was taken, nothing; where counts are spent, it says so, and the SDU waits on
abbrev pub Handles : Dif → Seen → ℕ → ℕ → Result InStep StepError → Dif → Seen → Dif → Type 0
Handles d below i n (Ok (steps.Took key end)) taken below' d' = HandlesOldest d below i n taken below' d'
Handles d below i n (Err (CountSpent need left)) taken below' d' = LacksOldest d below i n need left × (d' ≡ taken)
Handles d below i n result taken below' d' = d' ≡ taken

-- the messages about flows that the piece in the oldest SDU of link n makes whole
pub record BringsOldest (d : Dif) (below : Seen) (i n : ℕ) (ms : List FlowMessage) : Type 0 where
  pub process : IpcProcess
  pub is_process : slice_get d.processes i ≡ Some process
  pub link : Link
  pub is_link : link_by n process.links ≡ Some link
  pub since : ℕ
  pub hop : Hop
  pub is_oldest : IsOldest (config_of d.settings) below link.port since hop
  pub brings : BringsFlows d since link.port hop ms

-- where no SDU was taken there are none
abbrev pub AreBrought : Dif → Seen → ℕ → ℕ → Result InStep StepError → List FlowMessage → Type 0
AreBrought d below i n (Ok (steps.Took key end)) ms = BringsOldest d below i n ms
AreBrought d below i n answer ms = ms ≡ []

-- the step answers what the taking of the SDU answered; or memory ran out behind it, at one of the messages about flows
abbrev pub EndsAs : Result (Unit {0}) NoMemory → Result InStep StepError → Result InStep StepError → Type 0
EndsAs (Ok done) answer result = result ≡ answer
EndsAs (Err e) (Ok (steps.Took key end)) result = result ≡ Err Memory
EndsAs (Err e) answer result = ⊥

-- the member of place i handles the messages about flows, one after the other, as all else was handled. Whether an allocation failed is
-- noted behind it
pub record TellsFlows (d : Dif) (below : Seen) (i n : ℕ) (answer : Result InStep StepError) (handled : Dif) (between : List Direction) (below' : Seen) (result : Result InStep StepError) (d' : Dif) (lines' : List Direction) : Type 0 where
  pub messages : List FlowMessage
  pub are : AreBrought d below i n answer messages
  pub stopped : Result (Unit {0}) NoMemory
  pub handles : HandlesFlows handled between below' i messages stopped (record d' { failed = handled.failed }) lines'
  pub ends : EndsAs stopped answer result

-- the step was at no member, and told nothing
abbrev pub TellsNothing : Result InStep StepError → Dif → List Direction → Result InStep StepError → Dif → List Direction → Type 0
TellsNothing answer handled between result d' lines' = (result ≡ answer) × (record d' { failed = handled.failed } ≡ handled) × (lines' ≡ between)

-- what `in_step` does at a link of the IPC process of place i: it takes an SDU, which answers something, makes the DIF `taken` of it and leaves
-- what the members hold and which asks wait; as the DIF holds so, it handles the messages of neighbours that this made whole, for which of the
-- flows only the next hops may be others then; and as the DIF holds so, it handles the messages about flows
pub record TakesIn (d : Dif) (lines : List Direction) (below : Seen) (i n : ℕ) (result : Result InStep StepError) (d' : Dif) (below' : Seen) : Type 0 where
  pub answer : Result InStep StepError
  pub between : List Direction
  pub taken : Dif
  pub does : Ins (seen_of d) lines below i n answer (seen_of taken) between below'
  pub links : (links : LinksStand d below) → TakesLinks d links.lines below i n answer taken
  pub managed : taken.managements ≡ d.managements
  pub asks : taken.asks ≡ d.asks
  pub held : Holds taken between below'
  pub handled : Dif
  pub handles : Handles d below i n answer taken below' handled
  pub rerouted : MayReroute (seen_of taken) (seen_of handled)
  pub stood : Holds handled between below'
  pub lines' : List Direction
  pub told : TellsFlows d below i n answer handled between below' result d' lines'
  pub holds : Holds d' lines' below'

abbrev pub InsAt : DifSeen → List Direction → Seen → ℕ → ℕ → Result InStep StepError → DifSeen → List Direction → Seen → Type 0
InsAt d lines below node n (Err Memory) d' lines' below' = (d' ≡ d) × (lines' ≡ lines) × (below' ≡ below)
InsAt d lines below node n answer d' lines' below' = AtHome (home node d.config.members) (λ i. Ins d lines below i n answer d' lines' below') ((answer ≡ Err NoIpc) × (d' ≡ d) × (lines' ≡ lines) × (below' ≡ below))

-- and of the one at a node
pub record TakesHome (d : Dif) (lines : List Direction) (below : Seen) (node n : ℕ) (result : Result InStep StepError) (d' : Dif) (below' : Seen) : Type 0 where
  pub answer : Result InStep StepError
  pub between : List Direction
  pub taken : Dif
  pub does : InsAt (seen_of d) lines below node n answer (seen_of taken) between below'
  pub links : (links : LinksStand d below) → AtHome (home node (config_of d.settings).members) (λ i. TakesLinks d links.lines below i n answer taken) (taken.connections ≡ d.connections)
  pub managed : taken.managements ≡ d.managements
  pub asks : taken.asks ≡ d.asks
  pub held : Holds taken between below'
  pub handled : Dif
  pub handles : AtHome (home node (config_of d.settings).members) (λ i. Handles d below i n answer taken below' handled) (handled ≡ taken)
  pub rerouted : MayReroute (seen_of taken) (seen_of handled)
  pub stood : Holds handled between below'
  pub lines' : List Direction
  pub told : AtHome (home node (config_of d.settings).members) (λ i. TellsFlows d below i n answer handled between below' result d' lines') (TellsNothing answer handled between result d' lines')
  pub holds : Holds d' lines' below'
