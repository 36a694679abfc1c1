-- When the management connections of a DIF's links stand.
use Rattle.std.specs.Prelude.{◌≡◌, ◌≤◌, ℕ, List, map, slice_get, Some}
use Rattle.rina_base.specs.declared.number.Port.{Port}
use Rattle.rina_channel.specs.declared.channel.Attachment.{Attachment}
use Rattle.rina_channel.specs.declared.channel.Channel.{Channel}
use Rattle.rina_channel.specs.Channels.{ChannelsSeen, HasLive, seen_of}
use Rattle.rina_channel.specs.FlowLaws.{HasNoZero}
use Rattle.rina_channel.specs.Names.{link_config}
use Rattle.rina_channel.specs.Standing.{IsManaged, IsStanding}
use Rattle.rina_cube.specs.declared.Cube.{Cube}
use Rattle.rina_data.specs.Configs.{Config}
use Rattle.rina_data.specs.Process.{Process}
use Rattle.rina_flood.specs.Network.{Side, other}
use Rattle.rina_flood.specs.Static.{end_place}
use Rattle.rina_flows.specs.Calls.{AreTied}
use Rattle.rina_iface.specs.declared.ends.End.{End}
use Rattle.rina_iface.specs.Seen.{Seen}
use Rattle.rina_law.specs.Direction.{Direction}
use Rattle.rina_plan.specs.Kept.{AreApart}
use Rattle.rina_dif.specs.declared.connections.Connections.{Connections}

-- as the laws of management connections see them
abbrev pub channels_seen : Config → ℕ → Connections → ChannelsSeen
channels_seen g now c = seen_of g c.manage now c.channels c.flows

-- their cube is reliable and has id 0, no cube of flows has that id, no two of these have one id, and no member has address 0, which their
-- PDUs bear
pub record CanManage (g : Config) (manage : Cube) : Type 0 where
  pub managed : IsManaged g manage
  pub apart : AreApart (map (λ (c : Cube). c.id) g.cubes)
  pub zero : HasNoZero g

-- the link of this number of the IPC process of place i, with this port, has its channel, which is attached to it
pub record HasConnection (channels : List Channel) (i number : ℕ) (port : Port) : Type 0 where
  pub place : ℕ
  pub channel : Channel
  pub is_channel : slice_get channels place ≡ Some channel
  pub member_is : channel.member ≡ i
  pub attached : Attachment
  pub attached_is : channel.link ≡ Some attached
  pub number_is : attached.number ≡ number
  pub port_is : attached.port ≡ port

-- so has each live link
abbrev pub LinksAreConnected : List Channel → List Process → Type 0
LinksAreConnected channels processes = (i number : ℕ) (port : Port) → HasLive processes i number port → HasConnection channels i number port

-- the two ends of a link have their channels one after the other, from an even place on
abbrev pub ArePaired : List Channel → Type 0
ArePaired channels = (l : ℕ) (side : Side) (channel : Channel) → slice_get channels (end_place l side) ≡ Some channel → channel.partner ≡ end_place l (other side)

-- the flow of each end is named by a place that is not behind the end, so that the name by the next place is new
abbrev pub AreNamedByPlace : List End → Type 0
AreNamedByPlace ends = (k : ℕ) (e : End) → slice_get ends k ≡ Some e → e.flow.src ≤ k

-- they stand on the rank below: the DIF can have them, directions stand behind them, to which they are tied, their ends are in pairs and named by
-- places, and each live link has one
pub record AreConnected (g : Config) (now : ℕ) (c : Connections) (processes : List Process) (below : Seen) : Type 0 where
  pub may : CanManage g c.manage
  pub lines : List Direction
  pub tied : AreTied (link_config g c.manage) now c.flows lines
  pub standing : IsStanding (channels_seen g now c) lines processes below
  pub paired : ArePaired c.channels
  pub named : AreNamedByPlace c.flows.journal.ends
  pub each : LinksAreConnected c.channels processes
