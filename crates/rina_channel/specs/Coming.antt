-- What becomes of a PDU at the management connection of the link on which it came.
use Rattle.std.specs.Prelude.{◌≡◌, ℕ, ◌-◌, ◌≤◌, ◌⊎◌, List, [], ◌++◌, map, slice_get, Option, Some, None}
use Rattle.rina_account.specs.declared.ledger.Off.{Off}
use Rattle.rina_base.specs.declared.cause.Cause.{Cause}
use Rattle.rina_base.specs.declared.cause.Cause.TheVariants as causes
use Rattle.rina_base.specs.declared.number.Port.{Port}
use Rattle.rina_base.specs.declared.pdu.Pdu.{Pdu}
use Rattle.rina_base.specs.declared.pdu.PduKind.TheVariants.{Piece as APiece, Ack as AnAck}
use Rattle.rina_iface.specs.declared.ends.End.{End}
use Rattle.rina_iface.specs.Journal.{AreKept}
use Rattle.rina_iface.specs.Seen.{Seen, unpassed}
use Rattle.rina_law.specs.declared.entry.Entry.{Entry}
use Rattle.rina_law.specs.Direction.{Direction}
use Rattle.rina_law.specs.Lists.{In}
use Rattle.rina_data.specs.declared.step.Took.{Took}
use Rattle.rina_data.specs.declared.step.Took.TheVariants as took
use Rattle.rina_data.specs.Hops.{Hop, opened}
use Rattle.rina_data.specs.Process.{Process}
use Rattle.rina_dif_law.specs.Ids.{Ids, IsOfLink}
use Rattle.rina_dif_law.specs.Incoming.{cause_told, lines_for}
use Rattle.rina_dif_law.specs.OnLinks.{IsLinkLine}
use Rattle.rina_flows.specs.Rows.{ArrivesAt, TakesAt, ToldAt}
use Rattle.rina_channel.specs.declared.channel.Channel.{Channel}
use Rattle.rina_channel.specs.Changes.{LeavesLinks}
use Rattle.rina_channel.specs.Channels.{ChannelsSeen, IsOnPort}
use Rattle.rina_channel.specs.Ledgers.{unnamed_line}
use Rattle.rina_channel.specs.Names.{named}
use Rattle.rina_channel.specs.Rows.{config_of}
use Rattle.rina_channel.specs.Standing.{IsStanding}

-- the channel at a place is that of the link with this port, and its allocated end takes the PDU
pub record IsTaker (m : ChannelsSeen) (port : Port) (pdu : Pdu) (k : ℕ) (channel : Channel) (end : End) (ids : Ids) : Type 0 where
  pub stands : slice_get m.channels k ≡ Some channel
  pub on_port : IsOnPort channel port
  pub takes : TakesAt m.ends m.ids (named channel.partner k pdu) k end ids

-- a piece arrives there, as at each connection; `dropped` are the lines of what the connection held and gives up
pub record TakesPiece (m : ChannelsSeen) (lines : List Direction) (port : Port) (pdu : Pdu) (cause : Option Cause) (dropped : List Off) (m' : ChannelsSeen) (lines' : List Direction) : Type 0 where
  pub piece : pdu.kind ≡ APiece
  pub place : ℕ
  pub channel : Channel
  pub end : End
  pub ids : Ids
  pub taker : IsTaker m port pdu place channel end ids
  pub held : List Off
  pub ends' : List End
  pub arrives : ArrivesAt (config_of m) m.ends m.ids lines place (named channel.partner place pdu) cause held ends' lines'
  pub dropped_are : dropped ≡ map unnamed_line held
  pub new_is : m' ≡ record m { ends = ends' }

-- an acknowledgement does
pub record TakesAck (m : ChannelsSeen) (lines : List Direction) (port : Port) (pdu : Pdu) (m' : ChannelsSeen) (lines' : List Direction) : Type 0 where
  pub ack : pdu.kind ≡ AnAck
  pub place : ℕ
  pub channel : Channel
  pub end : End
  pub ids : Ids
  pub taker : IsTaker m port pdu place channel end ids
  pub told : ToldAt lines place (named channel.partner place pdu) lines'
  pub new_is : m' ≡ m

-- no allocated end of a channel of this port takes it
abbrev pub HasNoTaker : ChannelsSeen → Port → Pdu → Type 0
HasNoTaker m port pdu = (k : ℕ) (channel : Channel) (end : End) (ids : Ids) → IsTaker m port pdu k channel end ids → ⊥

-- by the cause for which it is written off
abbrev pub LeavesOff : ChannelsSeen → List Direction → Port → Pdu → Cause → List Off → ChannelsSeen → List Direction → Type 0
LeavesOff m lines port pdu (causes.NoConnection cep) dropped m' lines' = (cep ≡ 0) × HasNoTaker m port pdu × (dropped ≡ []) × (m' ≡ m) × (lines' ≡ lines)
LeavesOff m lines port pdu cause dropped m' lines' = TakesPiece m lines port pdu (Some cause) dropped m' lines'

-- what becomes of it, and of the connections
abbrev pub TakesOnLink : ChannelsSeen → List Direction → Port → Pdu → Took → List Off → ChannelsSeen → List Direction → Type 0
TakesOnLink m lines port pdu took.Accepted dropped m' lines' = TakesPiece m lines port pdu None dropped m' lines' ⊎ (TakesAck m lines port pdu m' lines' × (dropped ≡ []))
TakesOnLink m lines port pdu took.Relayed dropped m' lines' = ⊥
TakesOnLink m lines port pdu (took.Off cause) dropped m' lines' = LeavesOff m lines port pdu cause dropped m' lines'

-- The connections stand on, after a PDU of a link came in time
abbrev pub TakingOnLinksStands : Type 0
TakingOnLinksStands = (m : ChannelsSeen) (lines : List Direction) (processes processes' : List Process) (below : Seen) (port : Port) (entry : Entry) (hop : Hop) (end : Took) (dropped : List Off) (m' : ChannelsSeen) (lines' : List Direction) →
    AreKept below → IsStanding m lines processes below → unpassed below port ≡ Some entry → opened m.config.widths entry.bytes ≡ Some hop → IsOfLink hop.pdu → m.clock - entry.tick ≤ hop.left → TakesOnLink m lines port hop.pdu end dropped m' lines' → LeavesLinks processes processes' → IsStanding m' lines' processes' below

-- and what is written off are lines of links
abbrev pub TakingOnLinksIsLawful : Type 0
TakingOnLinksIsLawful = (m : ChannelsSeen) (lines : List Direction) (processes : List Process) (below : Seen) (port : Port) (pdu : Pdu) (end : Took) (dropped : List Off) (m' : ChannelsSeen) (lines' : List Direction) →
    IsStanding m lines processes below → IsOfLink pdu → TakesOnLink m lines port pdu end dropped m' lines' → (off : Off) → In off (dropped ++ lines_for pdu (cause_told end)) → IsLinkLine m.manage m.clock off
