-- The members of a DIF as a network in which what one of them makes is flooded to all.
use Rattle.std.specs.Prelude.{◌≡◌, ℕ, Bool, false, if◌then◌else◌, List, [], map, slice_get, take, Option, Some, None}
use Rattle.std.specs.List.{list_any}
use Rattle.rina_channel.specs.declared.channel.Attachment.{Attachment}
use Rattle.rina_channel.specs.declared.channel.Channel.{Channel}
use Rattle.rina_data.specs.declared.link.Link.{Link}
use Rattle.rina_data.specs.declared.process.IpcProcess.{IpcProcess}
use Rattle.rina_flood.specs.Members.{IsRunOf, MembersSeen}
use Rattle.rina_flood.specs.Network.{EndState, Gone, There, Unmade}
use Rattle.rina_flood.specs.Static.{LinkEnd}
use Rattle.rina_iface.specs.declared.ends.End.{End}
use Rattle.rina_law.specs.declared.entry.Entry.{Entry}
use Rattle.rina_dif.specs.declared.dif.Dif.{Dif}
use Rattle.rina_dif.specs.LinkDue.{is_link_of}
use Rattle.rina_dif.specs.Managing.{agents_of}

abbrev pub texts_of : List Entry → List (List ℕ)
texts_of entries = map (λ (x : Entry). x.bytes) entries

-- the messages that were offered at the end of a management connection
abbrev pub offered_at : Option End → List (List ℕ)
offered_at None = []
offered_at (Some end) = texts_of end.sent

-- those that came to it and were handled: what was passed of what it got
abbrev pub handled_at : Option End → List (List ℕ)
handled_at None = []
handled_at (Some end) = texts_of (take end.taken end.got)

-- the links of an IPC process, where there is one
abbrev pub links_of : Option IpcProcess → List Link
links_of None = []
links_of (Some process) = process.links

-- the IPC process at a place has the link of an attachment, and that is live
abbrev pub is_live_at : List IpcProcess → ℕ → Attachment → Bool
is_live_at processes place attached = list_any (is_link_of attached) (links_of (slice_get processes place))

-- what became of an end of the member at a place: it is not made before its channel is attached to a link. Then it is there, with the number
-- of the link, as long as the member has that link live, and gone once the member lost it, so that another link may get the number
abbrev pub state_by : List IpcProcess → ℕ → Option Attachment → EndState
state_by processes place None = Unmade
state_by processes place (Some attached) = if is_live_at processes place attached then There attached.number else Gone

-- the end of a link, at the place of its channel
abbrev pub link_end : List IpcProcess → Channel → LinkEnd
link_end processes c = record { member = c.member; state = state_by processes c.member c.link }

-- what stands of the members of a DIF: their agents, the ends of their links, and by the place of an end the messages
abbrev pub members_seen : Dif → MembersSeen
members_seen d = record {
  members = d.settings.members;
  agents = agents_of d.managements;
  now = d.clock;
  ends = map (link_end d.processes) d.connections.channels;
  sent = λ place. offered_at (slice_get d.connections.flows.journal.ends place);
  got = λ place. handled_at (slice_get d.connections.flows.journal.ends place);
}

-- they are the network of a run from the start of the DIF, so that all laws of flooding hold of them
abbrev pub AreFlooding : Dif → Type 0
AreFlooding d = IsRunOf d.laid.is_static d.laid.links (members_seen d)

-- a call keeps that, unless an allocation failed in it or before
abbrev pub StayFlooding : Dif → Dif → Type 0
StayFlooding d d' = (d.failed ≡ false → AreFlooding d) → d'.failed ≡ false → AreFlooding d'
