-- The links that management connections run over.
use Rattle.std.specs.Prelude.{◌≡◌, ℕ, ◌==◌, ◌&&◌, Bool, true, false, List, length, slice_get, Option, Some, None}
use Rattle.rina_base.specs.declared.number.Port.{Port}
use Rattle.rina_cube.specs.declared.Cube.{Cube}
use Rattle.rina_iface.specs.declared.ends.End.{End}
use Rattle.rina_iface.specs.Journal.{IsPartner}
use Rattle.rina_iface.specs.Seen.{Seen, end_of}
use Rattle.rina_law.specs.declared.entry.Entry.{Entry}
use Rattle.rina_data.specs.declared.link.Link.{Link}
use Rattle.rina_data.specs.Configs.{Config}
use Rattle.rina_data.specs.Hops.{Hop, opened}
use Rattle.rina_data.specs.Process.{Process}
use Rattle.rina_dif_law.specs.Cloud.{IsMine}
use Rattle.rina_dif_law.specs.Ids.{Ids, IsOfLink}
use Rattle.rina_flows.specs.declared.flows.Flows.{Flows}
use Rattle.rina_flows.specs.Tied.{conns_of}
use Rattle.rina_channel.specs.declared.channel.Attachment.{Attachment}
use Rattle.rina_channel.specs.declared.channel.Channel.{Channel}
use Rattle.rina_channel.specs.Names.{names_at}

-- the link of a channel has this port below
pub record IsOnPort (channel : Channel) (port : Port) : Type 0 where
  pub link : Attachment
  pub link_is : channel.link ≡ Some link
  pub port_is : link.port ≡ port

-- as a test: a channel with no link has no port
unfoldable pub is_at : Port → Attachment → Bool
is_at port link = (link.port.fac == port.fac) && (link.port.node == port.node) && (link.port.n == port.n)

abbrev pub is_on : Port → Option Attachment → Bool
is_on port None = false
is_on port (Some link) = is_at port link

abbrev pub has_port : Port → Channel → Bool
has_port port c = is_on port c.link

-- what a contract sees of the management connections of a DIF's links: at the place of each end the link that it belongs
-- to, its journal of messages, and its names
pub record ChannelsSeen : Type 0 where
  pub config : Config  -- of the DIF
  pub manage : Cube  -- of the connections
  pub clock : ℕ
  pub channels : List Channel
  pub ends : List End
  pub ids : List Ids

-- as the code keeps them: the journal and the connections of the ends are those of flows
abbrev pub seen_of : Config → Cube → ℕ → List Channel → Flows → ChannelsSeen
seen_of g manage now channels flows = record { config = g; manage = manage; clock = now; channels = channels; ends = flows.journal.ends; ids = conns_of flows.conns }

-- the IPC process of place i has a live link of this number, with this port
pub record HasLive (processes : List Process) (i number : ℕ) (port : Port) : Type 0 where
  pub process : Process
  pub is_process : slice_get processes i ≡ Some process
  pub place : ℕ
  pub link : Link
  pub stands : slice_get process.links place ≡ Some link
  pub live : link.live ≡ true
  pub number_is : link.number ≡ number
  pub port_is : link.port ≡ port

-- the link of a channel is live
pub record IsLive (processes : List Process) (channel : Channel) : Type 0 where
  pub link : Attachment
  pub link_is : channel.link ≡ Some link
  pub live : HasLive processes channel.member link.number link.port

-- The flows below

-- the ports are those of the two ends of one flow below, which runs between members
pub record IsFlowBelow (g : Config) (below : Seen) (near far : Port) : Type 0 where
  pub facility : far.fac ≡ near.fac
  pub near_end : End
  pub is_near : end_of below near ≡ Some near_end
  pub far_end : End
  pub is_far : end_of below far ≡ Some far_end
  pub partners : IsPartner near_end far_end
  pub mine : IsMine g.members near_end.app
  pub its_mine : IsMine g.members far_end.app

-- the port is that of an end of a flow below between members, of which the other end may still come
pub record RunsBetween (g : Config) (below : Seen) (port : Port) : Type 0 where
  pub end : End
  pub here : end_of below port ≡ Some end
  pub mine : IsMine g.members end.app
  pub its_mine : IsMine g.members end.peer

-- no PDU of a management connection was sent at an end below
abbrev pub IsUnsent : Config → End → Type 0
IsUnsent g end = (at : ℕ) (entry : Entry) (hop : Hop) → slice_get end.sent at ≡ Some entry → opened g.widths entry.bytes ≡ Some hop → IsOfLink hop.pdu → ⊥

-- no channel and no live link has this port, and no PDU of a management connection was sent there
pub record IsSilent (m : ChannelsSeen) (processes : List Process) (below : Seen) (port : Port) : Type 0 where
  pub no_channel : (k : ℕ) (channel : Channel) → slice_get m.channels k ≡ Some channel → IsOnPort channel port → ⊥
  pub no_link : (i n : ℕ) → HasLive processes i n port → ⊥
  pub unsent : (end : End) → end_of below port ≡ Some end → IsUnsent m.config end

-- the port is that of the other end of a channel's flow below, and the channel's partner, whose link that flow is to be,
-- has no link yet
pub record IsUnclaimed (m : ChannelsSeen) (below : Seen) (port : Port) : Type 0 where
  pub place : ℕ
  pub channel : Channel
  pub stands : slice_get m.channels place ≡ Some channel
  pub near : Port
  pub on_port : IsOnPort channel near
  pub partner : Channel
  pub is_partner : slice_get m.channels channel.partner ≡ Some partner
  pub none : partner.link ≡ None
  pub flow : IsFlowBelow m.config below near port

-- The channels

-- the channel at a place has a partner, whose partner it is. Where both have links, these are the two ends of one flow below.
-- Where it alone has one, that is an end of a flow between members
pub record IsJoined (m : ChannelsSeen) (below : Seen) (place : ℕ) (channel : Channel) : Type 0 where
  pub partner : Channel
  pub stands : slice_get m.channels channel.partner ≡ Some partner
  pub back : partner.partner ≡ place
  pub flow : (near far : Port) → IsOnPort channel near → IsOnPort partner far → IsFlowBelow m.config below near far
  pub alone : (near : Port) → IsOnPort channel near → partner.link ≡ None → RunsBetween m.config below near

-- each end has its channel, and is named by its place and its partner's. No two channels have one port. Live links of one
-- number have one port, which an end below has, and a live link with the port of a channel is the link of that channel. What
-- is not claimed yet is silent
pub record AreChannels (m : ChannelsSeen) (processes : List Process) (below : Seen) : Type 0 where
  pub alike : length m.channels ≡ length m.ends
  pub names : (k : ℕ) (channel : Channel) → slice_get m.channels k ≡ Some channel → slice_get m.ids k ≡ Some (names_at k channel.partner)
  pub joined : (k : ℕ) (channel : Channel) → slice_get m.channels k ≡ Some channel → IsJoined m below k channel
  pub apart : (j k : ℕ) (a b : Channel) (port : Port) → slice_get m.channels j ≡ Some a → slice_get m.channels k ≡ Some b → IsOnPort a port → IsOnPort b port → j ≡ k
  pub numbered : (i n : ℕ) (p q : Port) → HasLive processes i n p → HasLive processes i n q → p ≡ q
  pub based : (i n : ℕ) (port : Port) → HasLive processes i n port → (end : End) × (end_of below port ≡ Some end)
  pub matched : (i n k : ℕ) (channel : Channel) (link : Attachment) → slice_get m.channels k ≡ Some channel → channel.link ≡ Some link → HasLive processes i n link.port → (channel.member ≡ i) × (link.number ≡ n)
  pub unclaimed : (port : Port) → IsUnclaimed m below port → IsSilent m processes below port
