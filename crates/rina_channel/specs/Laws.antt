-- The laws of the management connections of a DIF's links. Each speaks of plain records: the connections and the IPC
-- processes before and after a call, the directions that stand behind the connections, and the rank below.
use Rattle.std.specs.Prelude.{◌≡◌, ℕ, ◌+◌, ◌-◌, ◌≤◌, List, map, slice_get, Option, Some, Result}
use Rattle.rina_account.specs.declared.ledger.Off.{Off}
use Rattle.rina_base.specs.declared.cause.Cause.{Cause}
use Rattle.rina_base.specs.declared.number.Num.{Num}
use Rattle.rina_base.specs.declared.number.Port.{Port}
use Rattle.rina_base.specs.declared.pdu.Pdu.{Pdu}
use Rattle.rina_base.specs.declared.pdu.PduKind.TheVariants.{Piece as APiece, Ack as AnAck}
use Rattle.rina_cube.specs.Cubes.{promise_of}
use Rattle.rina_iface.specs.declared.ends.End.{End}
use Rattle.rina_iface.specs.declared.error.SendError.{SendError}
use Rattle.rina_iface.specs.declared.state.PortState.{PortState}
use Rattle.rina_iface.specs.Journal.{AreKept, At, IsPartner}
use Rattle.rina_iface.specs.Later.{IsLater}
use Rattle.rina_iface.specs.Pass.{IsPassed as PassesBelow}
use Rattle.rina_iface.specs.Seen.{Seen, end_of, unpassed}
use Rattle.rina_iface.specs.Send.{IsSent}
use Rattle.rina_law.specs.declared.entry.Entry.{Entry}
use Rattle.rina_law.specs.Direction.{Direction}
use Rattle.rina_law.specs.Pieces.{Part}
use Rattle.rina_data.specs.declared.step.InStep.{InStep}
use Rattle.rina_data.specs.declared.step.OutStep.{OutStep}
use Rattle.rina_data.specs.declared.step.StepError.{StepError}
use Rattle.rina_data.specs.Hops.{Hop, opened}
use Rattle.rina_data.specs.Process.{Process}
use Rattle.rina_dif_law.specs.Cloud.{IsMine}
use Rattle.rina_dif_law.specs.Dif.{DifSeen}
use Rattle.rina_dif_law.specs.Ids.{Ids, IsOfLink}
use Rattle.rina_dif_law.specs.Incoming.{Ins}
use Rattle.rina_dif_law.specs.Lawful.{IsLawfulFlow}
use Rattle.rina_dif_law.specs.Lifting.{IsLifted, ticked}
use Rattle.rina_dif_law.specs.Outgoing.{Outs}
use Rattle.rina_dif_law.specs.Standing.{IsStanding as DifStands}
use Rattle.rina_flows.specs.Ending.{EndsAt, ForgetsAt}
use Rattle.rina_flows.specs.Rows.{ArrivesAt, PassedAt, TakesAt, ToldAt}
use Rattle.rina_channel.specs.declared.channel.Channel.{Channel}
use Rattle.rina_channel.specs.Changes.{IsAwaited, LeavesLinks}
use Rattle.rina_channel.specs.Channels.{ChannelsSeen, IsOnPort}
use Rattle.rina_channel.specs.LinkCloud.{LinkCloud}
use Rattle.rina_channel.specs.Names.{link_config, named, names_at}
use Rattle.rina_channel.specs.Rows.{IsAcknowledgedOn, IsOfferedOn, IsResentOn, config_of}
use Rattle.rina_channel.specs.Standing.{IsStanding}

-- As the rank below goes on without the DIF

abbrev pub TimeStands : Type 0
TimeStands = (m : ChannelsSeen) (lines : List Direction) (processes : List Process) (below below' : Seen) →
    AreKept below' → IsStanding m lines processes below → IsLifted m.config below below' → IsStanding (record m { clock = below'.now }) (map (ticked (below'.now - m.clock)) lines) processes below'

abbrev pub BesideStands : Type 0
BesideStands = (m : ChannelsSeen) (lines : List Direction) (processes : List Process) (below below' : Seen) →
    AreKept below' → IsStanding m lines processes below → IsLifted m.config below below' → below'.now ≡ below.now → IsStanding m lines processes below'

-- an application that is no IPC process of the DIF sends below
abbrev pub SendsOfOthersStand : Type 0
SendsOfOthersStand = (m : ChannelsSeen) (lines : List Direction) (processes : List Process) (below : Seen) (port : Port) (bytes : List ℕ) (num : Num) (below' : Seen) →
    AreKept below → AreKept below' → IsLater below below' → IsStanding m lines processes below → ((e : End) → end_of below port ≡ Some e → IsMine m.config.members e.app → ⊥) → IsSent below port bytes num below' → IsStanding m lines processes below'

-- an SDU is taken from below, whoever takes it
abbrev pub TakingStands : Type 0
TakingStands = (m : ChannelsSeen) (lines : List Direction) (processes : List Process) (below : Seen) (port : Port) (below' : Seen) →
    AreKept below → AreKept below' → IsStanding m lines processes below → PassesBelow below port below' → IsStanding m lines processes below'

-- no IPC process is a member of both DIFs
abbrev pub AreOthers : ChannelsSeen → DifSeen → Type 0
AreOthers m o = (name : List ℕ) → IsMine o.config.members name → IsMine m.config.members name → ⊥

-- another DIF of the rank takes a step
abbrev pub OutStepsOfOthersStand : Type 0
OutStepsOfOthersStand = (refuses : Port → ℕ → Option SendError) (m : ChannelsSeen) (lines : List Direction) (processes : List Process) (o : DifSeen) (flows : List Direction) (below : Seen) (i n : ℕ) (result : Result OutStep StepError) (o' : DifSeen) (below' : Seen) →
    AreKept below → AreKept below' → IsStanding m lines processes below → DifStands o flows below → AreOthers m o → Outs refuses o below i n result o' below' → IsStanding m lines processes below'

abbrev pub InStepsOfOthersStand : Type 0
InStepsOfOthersStand = (m : ChannelsSeen) (lines : List Direction) (processes : List Process) (o : DifSeen) (flows : List Direction) (below : Seen) (i n : ℕ) (result : Result InStep StepError) (o' : DifSeen) (flows' : List Direction) (below' : Seen) →
    AreKept below → AreKept below' → IsStanding m lines processes below → Ins o flows below i n result o' flows' below' → IsStanding m lines processes below'

-- As the DIF serves its flows

-- whatever the IPC processes do to PDUs that are of no link, to their ledgers and their next hops, and as they lose a link
abbrev pub OtherPdusStand : Type 0
OtherPdusStand = (m : ChannelsSeen) (lines : List Direction) (processes processes' : List Process) (below : Seen) →
    IsStanding m lines processes below → LeavesLinks processes processes' → IsStanding m lines processes' below

-- A PDU comes on a link

-- what came in time, and is of a link, is awaited by the channel of that link
abbrev pub ComingIsAwaited : Type 0
ComingIsAwaited = (m : ChannelsSeen) (lines : List Direction) (processes : List Process) (below : Seen) (k : ℕ) (channel : Channel) (port : Port) (entry : Entry) (hop : Hop) →
    AreKept below → IsStanding m lines processes below → slice_get m.channels k ≡ Some channel → IsOnPort channel port → unpassed below port ≡ Some entry → opened m.config.widths entry.bytes ≡ Some hop → IsOfLink hop.pdu → m.clock - entry.tick ≤ hop.left → IsAwaited m processes below (named channel.partner k hop.pdu)

-- and each copy of a PDU of a link that came, taken or not, is covered by what its partner sent
abbrev pub ComingIsCovered : Type 0
ComingIsCovered = (m : ChannelsSeen) (lines : List Direction) (processes : List Process) (below : Seen) (k : ℕ) (channel : Channel) (port : Port) (end : End) (i : ℕ) (entry : Entry) (hop : Hop) →
    AreKept below → IsStanding m lines processes below → slice_get m.channels k ≡ Some channel → IsOnPort channel port → end_of below port ≡ Some end → slice_get end.got i ≡ Some entry → opened m.config.widths entry.bytes ≡ Some hop → IsOfLink hop.pdu →
    (older : ℕ) × (entry.tick + hop.left ≤ older) × LinkCloud m.config m.channels processes below older (named channel.partner k hop.pdu)

-- a piece of it arrives at an end
abbrev pub PiecesStand : Type 0
PiecesStand = (m : ChannelsSeen) (lines : List Direction) (processes processes' : List Process) (below : Seen) (at : ℕ) (end : End) (its_ids : Ids) (pdu : Pdu) (cause : Option Cause) (offs : List Off) (ends' : List End) (lines' : List Direction) →
    IsStanding m lines processes below → IsAwaited m processes below pdu → pdu.kind ≡ APiece → TakesAt m.ends m.ids pdu at end its_ids → ArrivesAt (link_config m.config m.manage) m.ends m.ids lines at pdu cause offs ends' lines' → LeavesLinks processes processes' → IsStanding (record m { ends = ends' }) lines' processes' below

-- or an acknowledgement
abbrev pub AcksStand : Type 0
AcksStand = (m : ChannelsSeen) (lines : List Direction) (processes : List Process) (below : Seen) (at : ℕ) (end : End) (its_ids : Ids) (pdu : Pdu) (lines' : List Direction) →
    IsStanding m lines processes below → IsAwaited m processes below pdu → pdu.kind ≡ AnAck → TakesAt m.ends m.ids pdu at end its_ids → ToldAt lines at pdu lines' → IsStanding m lines' processes below

-- a message is passed to the member's management
abbrev pub PassingStands : Type 0
PassingStands = (m : ChannelsSeen) (lines : List Direction) (processes : List Process) (below : Seen) (at : ℕ) (ends' : List End) (lines' : List Direction) →
    IsStanding m lines processes below → PassedAt (config_of m) m.ends m.ids lines at ends' lines' → IsStanding (record m { ends = ends' }) lines' processes below

-- An end does something by itself

abbrev pub MessagesStand : Type 0
MessagesStand = (m : ChannelsSeen) (lines : List Direction) (processes : List Process) (below : Seen) (k : ℕ) (parts : List Part) (num : Num) (m' : ChannelsSeen) (lines' : List Direction) (processes' : List Process) →
    IsStanding m lines processes below → IsOfferedOn m lines processes k parts num m' lines' processes' → IsStanding m' lines' processes' below

abbrev pub AcknowledgingStands : Type 0
AcknowledgingStands = (m : ChannelsSeen) (lines : List Direction) (processes : List Process) (below : Seen) (k : ℕ) (cause : Option Cause) (lines' : List Direction) (processes' : List Process) →
    IsStanding m lines processes below → IsAcknowledgedOn m lines processes k cause lines' processes' → IsStanding m lines' processes' below

abbrev pub ResendingStands : Type 0
ResendingStands = (m : ChannelsSeen) (lines : List Direction) (processes : List Process) (below : Seen) (k : ℕ) (cause : Option Cause) (lines' : List Direction) (processes' : List Process) →
    IsStanding m lines processes below → IsResentOn m lines processes k cause lines' processes' → IsStanding m lines' processes' below

-- what is held of a state that is gone is given up, and written off
abbrev pub ForgettingStands : Type 0
ForgettingStands = (m : ChannelsSeen) (lines : List Direction) (processes processes' : List Process) (below : Seen) (k : ℕ) (offs : List Off) (lines' : List Direction) →
    IsStanding m lines processes below → ForgetsAt (config_of m) m.ends m.ids lines k offs lines' → LeavesLinks processes processes' → IsStanding m lines' processes' below

-- an end ends, as its link is lost or it gives a number up
abbrev pub EndingStands : Type 0
EndingStands = (m : ChannelsSeen) (lines : List Direction) (processes processes' : List Process) (below : Seen) (k : ℕ) (state : PortState) (offs : List Off) (ends' : List End) →
    IsStanding m lines processes below → EndsAt m.ends m.ids lines k state offs ends' → LeavesLinks processes processes' → IsStanding (record m { ends = ends' }) lines processes' below

-- A PDU goes out on a link, be it of a flow or of a link

abbrev pub OutStepsStand : Type 0
OutStepsStand = (refuses : Port → ℕ → Option SendError) (m : ChannelsSeen) (lines : List Direction) (d : DifSeen) (flows : List Direction) (below : Seen) (i n : ℕ) (result : Result OutStep StepError) (d' : DifSeen) (below' : Seen) →
    AreKept below → AreKept below' → DifStands d flows below → m.config ≡ d.config → m.clock ≡ d.clock → IsStanding m lines d.processes below → Outs refuses d below i n result d' below' → IsStanding m lines d'.processes below'

-- What is promised

-- what was got is a front of what was sent: each entry once, in order, and in time
abbrev pub IsFront : ℕ → List Entry → List Entry → Type 0
IsFront promise sent got = (i : ℕ) (e : Entry) → slice_get got i ≡ Some e → (source : Entry) × (slice_get sent i ≡ Some source) × (e.num ≡ source.num) × (e.bytes ≡ source.bytes) × (e.tick ≤ source.tick + promise)

-- the messages that an end of a link handled are the first that its partner offered
abbrev pub MessagesAreKept : Type 0
MessagesAreKept = (m : ChannelsSeen) (lines : List Direction) (processes : List Process) (below : Seen) (i k : ℕ) (end partner : End) →
    IsStanding m lines processes below → At m.ends i end → At m.ends k partner → IsPartner partner end → IsFront (promise_of m.manage) partner.sent end.got

-- and each direction keeps the law of a connection: of its pieces, its acknowledgements and its state
abbrev pub MessagesAreLawful : Type 0
MessagesAreLawful = (m : ChannelsSeen) (lines : List Direction) (processes : List Process) (below : Seen) (i k : ℕ) (end partner : End) (line : Direction) →
    IsStanding m lines processes below → At m.ends i end → At m.ends k partner → IsPartner end partner → slice_get lines i ≡ Some line → IsLawfulFlow (config_of m) m.clock (LinkCloud m.config m.channels processes below) (Unit {0}) end partner (names_at i k) line
