-- How a DIF gets management connections: before its first link, with a flow below between two members, as the other end of
-- such a flow is claimed, and as an IPC process takes its end as its link.
use Rattle.std.specs.Prelude.{◌≡◌, ◌≢◌, ℕ, suc, ◌^◌, ◌<◌, ◌⊎◌, List, [], ◌∷◌, ◌++◌, length, slice_get, slice_set, Some, None}
use Rattle.rina_base.specs.declared.number.Port.{Port}
use Rattle.rina_base.specs.declared.pdu.Pdu.{Pdu}
use Rattle.rina_iface.specs.declared.ends.End.{End}
use Rattle.rina_iface.specs.declared.state.PortState.TheVariants.{Allocated}
use Rattle.rina_iface.specs.declared.state.Role.TheVariants.{Asker, Far}
use Rattle.rina_iface.specs.Journal.{AreKept, At, IsNamed}
use Rattle.rina_iface.specs.Seen.{Seen, end_of}
use Rattle.rina_law.specs.Direction.{Direction, start}
use Rattle.rina_queue.specs.declared.queue.Queued.{Queued}
use Rattle.rina_data.specs.Configs.{Config}
use Rattle.rina_data.specs.Process.{Process}
use Rattle.rina_dif_law.specs.Cloud.{IsMine, Waits}
use Rattle.rina_dif_law.specs.Dif.{constants}
use Rattle.rina_dif_law.specs.Ids.{IsOfLink}
use Rattle.rina_dif_law.specs.Lifting.{IsLifted, ticked}
use Rattle.rina_channel.specs.declared.channel.Attachment.{Attachment}
use Rattle.rina_channel.specs.declared.channel.Channel.{Channel}
use Rattle.rina_channel.specs.Channels.{ChannelsSeen, HasLive, IsFlowBelow, IsOnPort, IsSilent, IsUnclaimed, RunsBetween}
use Rattle.rina_channel.specs.LinkCloud.{IsOn}
use Rattle.rina_channel.specs.Names.{names_at}
use Rattle.rina_channel.specs.Rows.{config_of}
use Rattle.rina_channel.specs.Standing.{IsManaged, IsStanding}

-- Before the first link

-- there are no ends yet, and live links of one number have one port, which an end below has
pub record HasNone (m : ChannelsSeen) (lines : List Direction) (processes : List Process) (below : Seen) : Type 0 where
  pub managed : IsManaged m.config m.manage
  pub clock : m.clock ≡ below.now
  pub channels : m.channels ≡ []
  pub ends : m.ends ≡ []
  pub ids : m.ids ≡ []
  pub lines_are : lines ≡ []
  pub numbered : (i n : ℕ) (p q : Port) → HasLive processes i n p → HasLive processes i n q → p ≡ q
  pub based : (i n : ℕ) (port : Port) → HasLive processes i n port → (end : End) × (end_of below port ≡ Some end)

abbrev pub NoneStand : Type 0
NoneStand = (m : ChannelsSeen) (lines : List Direction) (processes : List Process) (below : Seen) → HasNone m lines processes below → IsStanding m lines processes below

-- A flow below between two members

-- nothing was offered or handled at an end
pub record IsUnused (e : End) : Type 0 where
  pub state : e.state ≡ Allocated
  pub sent : e.sent ≡ []
  pub got : e.got ≡ []
  pub taken : e.taken ≡ 0

-- a new channel has this link. No channel that was there has its port, and none may still claim that. A live link with its port
-- is this one, and no PDU of a management connection is there
pub record IsNewLink (m : ChannelsSeen) (processes : List Process) (below : Seen) (channel : Channel) (link : Attachment) : Type 0 where
  pub link_is : channel.link ≡ Some link
  pub others : (k : ℕ) (other : Channel) → slice_get m.channels k ≡ Some other → IsOnPort other link.port → ⊥
  pub free : IsUnclaimed m below link.port → ⊥
  pub own : (i n : ℕ) → HasLive processes i n link.port → (channel.member ≡ i) × (link.number ≡ n)
  pub silent : (death : ℕ) (pdu : Pdu) → IsOfLink pdu → IsOn m.config processes below channel death pdu → ⊥

-- the channel of the other end of the flow below has a link too
pub record IsFarLinked (m : ChannelsSeen) (processes : List Process) (below : Seen) (near : Port) (far : Channel) : Type 0 where
  pub link : Attachment
  pub is_new : IsNewLink m processes below far link
  pub flow : IsFlowBelow m.config below near link.port

-- or it has none yet, and the port that it may claim is silent
pub record IsFarUnclaimed (m : ChannelsSeen) (processes : List Process) (below : Seen) (near : Port) (far : Channel) : Type 0 where
  pub none : far.link ≡ None
  pub between : RunsBetween m.config below near
  pub silent : (port : Port) → IsFlowBelow m.config below near port → IsSilent m processes below port

-- the two channels are those of the two ends of one flow below, which has no channels yet
pub record IsNewFlow (m : ChannelsSeen) (processes : List Process) (below : Seen) (near far : Channel) : Type 0 where
  pub link : Attachment
  pub is_new : IsNewLink m processes below near link
  pub other : IsFarLinked m processes below link.port far ⊎ IsFarUnclaimed m processes below link.port far

-- a member asked for a flow below: the port is that of the asker's end, and was never drawn before
pub record IsAskedBelow (g : Config) (old new : Seen) (port : Port) : Type 0 where
  pub end : End
  pub here : end_of new port ≡ Some end
  pub asks : end.role ≡ Asker
  pub mine : IsMine g.members end.app
  pub fresh : end_of old port ≡ None

-- such a flow is new, and what may become the port of its other end is silent
abbrev pub AskedFlowsAreNew : Type 0
AskedFlowsAreNew = (m : ChannelsSeen) (lines : List Direction) (processes : List Process) (old new : Seen) (near far : Channel) (link : Attachment) →
    AreKept old → AreKept new → IsStanding m lines processes old → IsLifted m.config old new → IsAskedBelow m.config old new link.port → near.link ≡ Some link → far.link ≡ None → IsNewFlow m processes new near far

-- a direction between places starts now
abbrev pub begun : ChannelsSeen → ℕ → ℕ → Direction
begun m from to = ticked m.clock (start (constants (config_of m) m.manage (names_at from to)))

-- both ends are made, with the names of the next two places, and with a direction each that starts now
pub record AreMade (m : ChannelsSeen) (lines : List Direction) (near far : Channel) (asker end : End) (m' : ChannelsSeen) (lines' : List Direction) : Type 0 where
  pub near_partner : near.partner ≡ suc (length m.ends)
  pub far_partner : far.partner ≡ length m.ends
  pub room : suc (length m.ends) < 2 ^ 32
  pub asks : asker.role ≡ Asker
  pub answers : end.role ≡ Far
  pub same_flow : end.flow ≡ asker.flow
  pub named : IsNamed asker end
  pub cube : asker.cube ≡ 0
  pub unused : IsUnused asker
  pub its_unused : IsUnused end
  pub fresh : (i : ℕ) (e : End) → At m.ends i e → e.flow ≢ asker.flow
  pub lines_are : lines' ≡ lines ++ begun m (length m.ends) (suc (length m.ends)) ∷ begun m (suc (length m.ends)) (length m.ends) ∷ []
  pub new_is : m' ≡ record m {
    channels = m.channels ++ near ∷ far ∷ [];
    ends = m.ends ++ asker ∷ end ∷ [];
    ids = m.ids ++ names_at (length m.ends) (suc (length m.ends)) ∷ names_at (suc (length m.ends)) (length m.ends) ∷ [];
  }

abbrev pub MakingStands : Type 0
MakingStands = (m : ChannelsSeen) (lines : List Direction) (processes : List Process) (below : Seen) (near far : Channel) (asker end : End) (m' : ChannelsSeen) (lines' : List Direction) →
    IsStanding m lines processes below → IsNewFlow m processes below near far → AreMade m lines near far asker end m' lines' → IsStanding m' lines' processes below

-- The other end of the flow below is claimed

-- the channel at a place, which has no link, gets one: its port is that of the other end of the flow below that its partner's link is
pub record IsClaimed (m : ChannelsSeen) (below : Seen) (k : ℕ) (link : Attachment) (m' : ChannelsSeen) : Type 0 where
  pub channel : Channel
  pub stands : slice_get m.channels k ≡ Some channel
  pub none : channel.link ≡ None
  pub partner : Channel
  pub is_partner : slice_get m.channels channel.partner ≡ Some partner
  pub near : Port
  pub on_port : IsOnPort partner near
  pub flow : IsFlowBelow m.config below near link.port
  pub new_is : m' ≡ record m { channels = slice_set m.channels k (record channel { link = Some link }) }

abbrev pub ClaimingStands : Type 0
ClaimingStands = (m : ChannelsSeen) (lines : List Direction) (processes : List Process) (below : Seen) (k : ℕ) (link : Attachment) (m' : ChannelsSeen) →
    AreKept below → IsStanding m lines processes below → IsClaimed m below k link m' → IsStanding m' lines processes below

-- An IPC process takes its end of the flow as its link

-- at the IPC process of place i this link becomes live, and no other one does. None that is live there has its number, for which no PDU of
-- a management connection waits
pub record IsLinkLive (old : List Process) (i : ℕ) (link : Attachment) (new : List Process) : Type 0 where
  pub waits : (j n : ℕ) (item : Queued) → Waits new j n item → Waits old j n item ⊎ (IsOfLink item.pdu → ⊥)
  pub live : (j n : ℕ) (port : Port) → HasLive new j n port → HasLive old j n port ⊎ ((j ≡ i) × (n ≡ link.number) × (port ≡ link.port))
  pub unused : (port : Port) → HasLive old i link.number port → ⊥
  pub idle : (item : Queued) → Waits old i link.number item → IsOfLink item.pdu → ⊥

abbrev pub LinkingStands : Type 0
LinkingStands = (m : ChannelsSeen) (lines : List Direction) (processes processes' : List Process) (below : Seen) (k : ℕ) (channel : Channel) (link : Attachment) →
    IsStanding m lines processes below → slice_get m.channels k ≡ Some channel → channel.link ≡ Some link → IsLinkLive processes channel.member link processes' →
    IsStanding m lines processes' below
