-- How an IPC process of a DIF claims a flow that came in for it, and takes its far end as a new link: which flow it claims, which channel gets the link, and
-- what changes.
use Rattle.std.specs.Prelude.{◌≡◌, ℕ, ◌<◌, ◌⊎◌, ◌==◌, ◌&&◌, not, is_some, Bool, false, List, position, slice_get, Option, Some, None, Result, Ok, Err}
use Rattle.rina_base.specs.declared.memory.Memory.{Memory}
use Rattle.rina_base.specs.declared.number.FlowName.{FlowName}
use Rattle.rina_base.specs.declared.number.Port.{Port}
use Rattle.rina_channel.specs.declared.channel.Attachment.{Attachment}
use Rattle.rina_channel.specs.declared.channel.Channel.{Channel}
use Rattle.rina_channel.specs.Channels.{ChannelsSeen, IsFlowBelow, IsOnPort}
use Rattle.rina_channel.specs.Making.{IsClaimed as IsClaimedBy}
use Rattle.rina_data.specs.declared.process.IpcProcess.{IpcProcess}
use Rattle.rina_data.specs.declared.settings.Member.{Member}
use Rattle.rina_data.specs.Configs.{config_of}
use Rattle.rina_iface.specs.declared.ends.End.{End}
use Rattle.rina_iface.specs.Claim.{IsClaimed, NoneWaits}
use Rattle.rina_iface.specs.Ends.{end_in}
use Rattle.rina_iface.specs.Seen.{Seen}
use Rattle.rina_law.specs.Direction.{Direction}
use Rattle.rina_member.specs.declared.management.Management.{Management}
use Rattle.rina_member.specs.Managements.{claimed, with_agent}
use Rattle.rina_dif.specs.declared.dif.Dif.{Dif}
use Rattle.rina_dif.specs.Changing.{changed_at}
use Rattle.rina_dif.specs.Connected.{channels_seen}
use Rattle.rina_dif.specs.Elsewhere.{home_of}
use Rattle.rina_dif.specs.Enrolling.{LinksUp, is_full}
use Rattle.rina_dif.specs.Holding.{Holds}
use Rattle.rina_dif.specs.Shown.{seen_of}

-- Which flow is claimed

-- the first flow that waits for an application at a node, of the facilities in the order of their numbers from 0, is claimed, and its far end has this port
pub record ClaimsFirst (old : Seen) (node : ℕ) (app : List ℕ) (port : Port) (new : Seen) : Type 0 where
  pub fac : ℕ
  pub before : (n : ℕ) → n < fac → NoneWaits (slice_get old.facs n) node app
  pub claimed : IsClaimed old fac node app port new

-- so many facilities are asked at most; no rank has more
abbrev pub most_facilities : ℕ
most_facilities = 65535

-- it is, or none waits at any of them
abbrev pub ClaimsIn : Seen → ℕ → List ℕ → Option Port → Seen → Type 0
ClaimsIn old node app (Some port) new = ClaimsFirst old node app port new
ClaimsIn old node app None new = ((n : ℕ) → n < most_facilities → NoneWaits (slice_get old.facs n) node app) × (new ≡ old)

-- the IPC process of a node may have a link more
pub record MayLink (d : Dif) (node i : ℕ) (member : Member) : Type 0 where
  pub at_home : home_of d node ≡ Some i
  pub is_member : slice_get d.settings.members i ≡ Some member
  pub process : IpcProcess
  pub is_process : slice_get d.processes i ≡ Some process
  pub room : is_full process.links ≡ false

-- no flow waits below for the IPC process of a node, or it has as many live links as it may have
abbrev pub NoneComesAt : Dif → Seen → ℕ → Type 0
NoneComesAt d below node = (i : ℕ) (member : Member) → MayLink d node i member → (n : ℕ) → n < most_facilities → NoneWaits (slice_get below.facs n) node member.name

-- Which channel gets the link

-- the management connections of a DIF, as their laws see them
abbrev pub channels_of : Dif → ChannelsSeen
channels_of d = channels_seen (config_of d.settings) d.clock d.connections

-- an end of the rank below is the link of a channel
pub record IsOfChannel (channels : List Channel) (port : Port) : Type 0 where
  pub place : ℕ
  pub channel : Channel
  pub stands : slice_get channels place ≡ Some channel
  pub on_port : IsOnPort channel port

-- the channel at a place, of the IPC process of place i, has no link, and its partner's link is the other end of the flow at a port below: that
-- end has the same flow name. At most one channel is so
pub record IsAwaiting (m : ChannelsSeen) (below : Seen) (i : ℕ) (port : Port) (place : ℕ) : Type 0 where
  pub channel : Channel
  pub stands : slice_get m.channels place ≡ Some channel
  pub member_is : channel.member ≡ i
  pub none : channel.link ≡ None
  pub partner : Channel
  pub is_partner : slice_get m.channels channel.partner ≡ Some partner
  pub near : Port
  pub on_port : IsOnPort partner near
  pub flow : IsFlowBelow m.config below near port

-- no channel of the IPC process of place i awaits the flow at a port, or the port is that of a channel already
abbrev pub IsUnawaited : Dif → Seen → ℕ → Port → Type 0
IsUnawaited d below i port = ((place : ℕ) → IsAwaiting (channels_of d) below i port place → ⊥) ⊎ IsOfChannel d.connections.channels port

-- the channel that awaits it is found, or it is unawaited
abbrev pub FindsAwaiting : Dif → Seen → ℕ → Port → Option ℕ → Type 0
FindsAwaiting d below i port (Some place) = IsAwaiting (channels_of d) below i port place
FindsAwaiting d below i port None = IsUnawaited d below i port

-- As the code finds it, by the ends of the facility

-- the two names are of one flow
abbrev pub is_same_flow : FlowName → FlowName → Bool
is_same_flow a b = (a.src == b.src) && (a.tick == b.tick) && (a.count == b.count)

-- the end is of the flow of this name
abbrev pub is_end_of : FlowName → Option End → Bool
is_end_of flow None = false
is_end_of flow (Some e) = is_same_flow e.flow flow

-- the link is one of its ends
abbrev pub is_link_of : List End → FlowName → Option Attachment → Bool
is_link_of ends flow None = false
is_link_of ends flow (Some link) = is_end_of flow (end_in link.port ends)

-- so is the link of a partner
abbrev pub is_partner_of : List End → FlowName → Option Channel → Bool
is_partner_of ends flow None = false
is_partner_of ends flow (Some partner) = is_link_of ends flow partner.link

-- the channel is one of the IPC process of place i without a link, and its partner has one that is an end of the flow
unfoldable pub is_awaiting : List Channel → ℕ → List End → FlowName → Channel → Bool
is_awaiting channels i ends flow channel = (channel.member == i) && not (is_some channel.link) && is_partner_of ends flow (slice_get channels channel.partner)

-- the place of the first such channel, by the end at the port that was claimed
abbrev pub awaiting : List Channel → ℕ → List End → Option End → Option ℕ
awaiting channels i ends None = None
awaiting channels i ends (Some e) = position (is_awaiting channels i ends e.flow) channels

-- What is done

-- the link is new to the management: it waits for CONNECT
abbrev pub with_claimed : Management → ℕ → Management
with_claimed m number = with_agent m (claimed m.agent number)

-- the IPC process of place i takes the far end at a port as its link, of the least number that no live link of it has; the channel that awaits
-- the flow gets it, and the agent of its member. Nothing else of the DIF changes
pub record TakesClaimed (d : Dif) (below : Seen) (i number : ℕ) (port : Port) (d' : Dif) : Type 0 where
  pub links : LinksUp i (record { number = number; port = port }) d.processes d'.processes
  pub place : ℕ
  pub awaits : IsAwaiting (channels_of d) below i port place
  pub gets : IsClaimedBy (channels_of d) below place (record { number = number; port = port }) (channels_of d')
  pub connections : d'.connections ≡ record d.connections { channels = d'.connections.channels }
  pub managements : d'.managements ≡ changed_at i (λ m. with_claimed m number) d.managements
  pub only : d' ≡ record d { processes = d'.processes; connections = d'.connections; managements = d'.managements }

-- the step that tells of a new link of this number: the first flow that came in is claimed, and is the new link
pub record StepsNew (d : Dif) (below : Seen) (node number : ℕ) (d' : Dif) (below' : Seen) : Type 0 where
  pub i : ℕ
  pub member : Member
  pub may : MayLink d node i member
  pub port : Port
  pub claims : ClaimsFirst below node member.name port below'
  pub takes : TakesClaimed d below' i number port d'

-- the first flow that came in is claimed, and is no link, since no channel awaits it
pub record ClaimsUnawaited (d : Dif) (below : Seen) (node : ℕ) (below' : Seen) : Type 0 where
  pub i : ℕ
  pub member : Member
  pub may : MayLink d node i member
  pub port : Port
  pub claims : ClaimsFirst below node member.name port below'
  pub unawaited : IsUnawaited d below' i port

-- so no link comes: no flow waits, or the first that does is no link
abbrev pub NoLinkComes : Dif → Seen → ℕ → Seen → Type 0
NoLinkComes d below node below' = (NoneComesAt d below node × (below' ≡ below)) ⊎ ClaimsUnawaited d below node below'

-- without memory the first flow that came in may be claimed, and is then no link of anyone
abbrev pub MayHaveClaimed : Dif → Seen → ℕ → Seen → Type 0
MayHaveClaimed d below node below' = (below' ≡ below) ⊎ ((i : ℕ) × (member : Member) × (port : Port) × MayLink d node i member × ClaimsFirst below node member.name port below')

-- the answer to the question for a new link: its number, or that none comes; and the DIF holds
abbrev pub ClaimsHere : Dif → List Direction → Seen → ℕ → Result (Option ℕ) Memory → Dif → Seen → Type 0
ClaimsHere d lines below node (Ok (Some number)) d' below' = StepsNew d below node number d' below' × Holds d' lines below'
ClaimsHere d lines below node (Ok None) d' below' = NoLinkComes d below node below' × (d' ≡ d) × Holds d lines below'
ClaimsHere d lines below node (Err e) d' below' = (seen_of d' ≡ seen_of d) × Holds d' lines below' × MayHaveClaimed d below node below'

-- what the managements become
abbrev pub ClaimsManaged : Option ℕ → ℕ → Dif → List Management → Type 0
ClaimsManaged (Some number) at d new = new ≡ changed_at at (λ m. with_claimed m number) d.managements
ClaimsManaged None at d new = new ≡ d.managements
