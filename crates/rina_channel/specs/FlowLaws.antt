-- What the management connections of links leave of a DIF's flows: whatever an end of a link makes or takes, the flows stand,
-- stay numbered and carried, and their account balances.
use Rattle.std.specs.Prelude.{◌≡◌, ◌≢◌, ℕ, ◌⊎◌, List, ◌++◌, map, slice_get, slice_set, Option, Some}
use Rattle.rina_account.specs.declared.ledger.Off.{Off}
use Rattle.rina_base.specs.declared.cause.Cause.{Cause}
use Rattle.rina_base.specs.declared.number.Num.{Num}
use Rattle.rina_base.specs.declared.pdu.Pdu.{Pdu}
use Rattle.rina_iface.specs.declared.ends.End.{End}
use Rattle.rina_iface.specs.declared.state.PortState.{PortState}
use Rattle.rina_iface.specs.Journal.{AreKept}
use Rattle.rina_iface.specs.Pass.{IsPassed as PassesBelow}
use Rattle.rina_iface.specs.Seen.{Seen, unpassed}
use Rattle.rina_law.specs.declared.entry.Entry.{Entry}
use Rattle.rina_law.specs.Direction.{Direction}
use Rattle.rina_law.specs.Lists.{In}
use Rattle.rina_law.specs.Pieces.{Part}
use Rattle.rina_queue.specs.declared.queue.Queued.{Queued}
use Rattle.rina_data.specs.declared.link.Link.{Link}
use Rattle.rina_data.specs.Configs.{Config, Member}
use Rattle.rina_data.specs.Hops.{Hop, opened}
use Rattle.rina_data.specs.Process.{Process, Queue, link_by, with_offs, with_put}
use Rattle.rina_dif_law.specs.Accounted.{IsAccounted}
use Rattle.rina_dif_law.specs.Carried.{IsCarrying}
use Rattle.rina_dif_law.specs.Dif.{DifSeen, IsProcess}
use Rattle.rina_dif_law.specs.Ids.{Ids, IsOfLink}
use Rattle.rina_dif_law.specs.Incoming.{lines_for}
use Rattle.rina_dif_law.specs.Numbered.{IsNumbered}
use Rattle.rina_dif_law.specs.Standing.{IsItem, IsStanding as DifStands}
use Rattle.rina_flows.specs.Ending.{EndsAt, ForgetsAt}
use Rattle.rina_flows.specs.Rows.{ArrivesAt, TakesAt}
use Rattle.rina_channel.specs.Changes.{LeavesLinks}
use Rattle.rina_channel.specs.Channels.{ChannelsSeen}
use Rattle.rina_channel.specs.Ledgers.{unnamed_line}
use Rattle.rina_channel.specs.OwnLaws.{HasNoManagement}
use Rattle.rina_channel.specs.Rows.{IsAcknowledgedOn, IsOfferedOn, IsResentOn, config_of}
use Rattle.rina_channel.specs.Standing.{IsStanding}

-- What changes

-- PDUs of links that may be sent on
abbrev pub AreItemsOfLinks : Config → ℕ → List Queued → Type 0
AreItemsOfLinks g now items = (item : Queued) → In item items → IsItem g now item × IsOfLink item.pdu

-- they stand at the end of a queue of the IPC process of place i, and nothing else changes
pub record PutsLinks (g : Config) (now : ℕ) (old : List Process) (i : ℕ) (new : List Process) : Type 0 where
  pub process : Process
  pub is_process : slice_get old i ≡ Some process
  pub place : ℕ
  pub queue : Queue
  pub is_queue : slice_get process.queues place ≡ Some queue
  pub items : List Queued
  pub of_links : AreItemsOfLinks g now items
  pub new_is : new ≡ slice_set old i (with_put process place queue items)

-- lines of PDUs of links
abbrev pub AreLinesOfLinks : List Off → Type 0
AreLinesOfLinks offs = (off : Off) → In off offs → (off.key.src ≡ 0) × (off.key.scep ≡ 0)

-- the ledger of the IPC process of place i has more of them, and nothing else changes
pub record NotesLinks (old : List Process) (i : ℕ) (new : List Process) : Type 0 where
  pub process : Process
  pub is_process : slice_get old i ≡ Some process
  pub offs : List Off
  pub of_links : AreLinesOfLinks offs
  pub new_is : new ≡ slice_set old i (with_offs process offs)

-- one or the other
abbrev pub ServesLinks : Config → ℕ → List Process → List Process → Type 0
ServesLinks g now old new = (i : ℕ) × (PutsLinks g now old i new ⊎ NotesLinks old i new)

-- lines in a ledger leave what is on the links
abbrev pub NotingLeavesLinks : Type 0
NotingLeavesLinks = (old : List Process) (i : ℕ) (new : List Process) → NotesLinks old i new → LeavesLinks old new

-- What stays

-- no member has address 0, and no cube the id of management
pub record HasNoZero (g : Config) : Type 0 where
  pub members : (i : ℕ) (member : Member) → slice_get g.members i ≡ Some member → member.addr ≢ 0
  pub cubes : HasNoManagement g

-- the flows of a DIF keep all that their calls keep
pub record FlowsStand (d : DifSeen) (flows : List Direction) (below : Seen) : Type 0 where
  pub zero : HasNoZero d.config
  pub stands : DifStands d flows below
  pub numbered : IsNumbered d below
  pub carrying : IsCarrying d flows below
  pub accounted : IsAccounted d flows below

abbrev pub LinksLeaveFlows : Type 0
LinksLeaveFlows = (d : DifSeen) (flows : List Direction) (below : Seen) (processes' : List Process) →
    FlowsStand d flows below → ServesLinks d.config d.clock d.processes processes' → FlowsStand (record d { processes = processes' }) flows below

-- a PDU of a link is taken from below
abbrev pub TakingLeavesFlows : Type 0
TakingLeavesFlows = (d : DifSeen) (flows : List Direction) (below : Seen) (i n : ℕ) (member : Member) (process : Process) (link : Link) (entry : Entry) (hop : Hop) (below' : Seen) →
    AreKept below → AreKept below' → FlowsStand d flows below → IsProcess d i member process → link_by n process.links ≡ Some link → unpassed below link.port ≡ Some entry → opened d.config.widths entry.bytes ≡ Some hop → IsOfLink hop.pdu → PassesBelow below link.port below' → FlowsStand d flows below'

-- What an end of a link makes

abbrev pub MessagesServeLinks : Type 0
MessagesServeLinks = (m : ChannelsSeen) (lines : List Direction) (processes : List Process) (below : Seen) (k : ℕ) (parts : List Part) (num : Num) (m' : ChannelsSeen) (lines' : List Direction) (processes' : List Process) →
    IsStanding m lines processes below → IsOfferedOn m lines processes k parts num m' lines' processes' → ServesLinks m.config m.clock processes processes'

abbrev pub AcknowledgingServesLinks : Type 0
AcknowledgingServesLinks = (m : ChannelsSeen) (lines : List Direction) (processes : List Process) (below : Seen) (k : ℕ) (cause : Option Cause) (lines' : List Direction) (processes' : List Process) →
    IsStanding m lines processes below → IsAcknowledgedOn m lines processes k cause lines' processes' → ServesLinks m.config m.clock processes processes'

abbrev pub ResendingServesLinks : Type 0
ResendingServesLinks = (m : ChannelsSeen) (lines : List Direction) (processes : List Process) (below : Seen) (k : ℕ) (cause : Option Cause) (lines' : List Direction) (processes' : List Process) →
    IsStanding m lines processes below → IsResentOn m lines processes k cause lines' processes' → ServesLinks m.config m.clock processes processes'

-- What it writes off, as the ledger has it

abbrev pub ArrivalsNoteLinks : Type 0
ArrivalsNoteLinks = (m : ChannelsSeen) (lines : List Direction) (processes : List Process) (below : Seen) (k : ℕ) (end : End) (ids : Ids) (pdu : Pdu) (cause : Option Cause) (offs : List Off) (ends' : List End) (lines' : List Direction) →
    IsStanding m lines processes below → TakesAt m.ends m.ids pdu k end ids → ArrivesAt (config_of m) m.ends m.ids lines k pdu cause offs ends' lines' → AreLinesOfLinks (map unnamed_line (offs ++ lines_for pdu cause))

abbrev pub ForgettingNotesLinks : Type 0
ForgettingNotesLinks = (m : ChannelsSeen) (lines : List Direction) (processes : List Process) (below : Seen) (k : ℕ) (offs : List Off) (lines' : List Direction) →
    IsStanding m lines processes below → ForgetsAt (config_of m) m.ends m.ids lines k offs lines' → AreLinesOfLinks (map unnamed_line offs)

abbrev pub EndingNotesLinks : Type 0
EndingNotesLinks = (m : ChannelsSeen) (lines : List Direction) (processes : List Process) (below : Seen) (k : ℕ) (state : PortState) (offs : List Off) (ends' : List End) →
    IsStanding m lines processes below → EndsAt m.ends m.ids lines k state offs ends' → AreLinesOfLinks (map unnamed_line offs)
