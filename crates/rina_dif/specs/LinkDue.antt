-- What is due at the management connections of the links of an IPC process, and which of them goes first.
use Rattle.std.specs.Prelude.{◌≡◌, ℕ, ◌≤◌, ◌==◌, ◌&&◌, nat_le, Bool, if◌then◌else◌, List, slice_get, Option, Some, None}
use Rattle.rina_iface.specs.declared.ends.End.{End}
use Rattle.rina_iface.specs.declared.state.PortState.TheVariants.{Allocated}
use Rattle.rina_iface.specs.Journal.{At}
use Rattle.rina_law.specs.Direction.{Direction}
use Rattle.rina_data.specs.declared.link.Link.{Link}
use Rattle.rina_data.specs.Configs.{config_of}
use Rattle.rina_channel.specs.declared.channel.Attachment.{Attachment}
use Rattle.rina_channel.specs.declared.channel.Channel.{Channel}
use Rattle.rina_channel.specs.Channels.{IsLive}
use Rattle.rina_channel.specs.Names.{link_config}
use Rattle.rina_flows.specs.declared.due.Item.{Item}
use Rattle.rina_flows.specs.declared.due.Item.TheVariants.{Ack, Again, GiveUp, Gone}
use Rattle.rina_flows.specs.Timely.{IsDue}
use Rattle.rina_dif.specs.declared.dif.Dif.{Dif}
use Rattle.rina_dif.specs.declared.links_due.LinkTurn.{LinkTurn}
use Rattle.rina_dif.specs.declared.links_due.NextLink.{NextLink}
use Rattle.rina_dif.specs.Shown.{seen_of}

-- Where an item is due

-- a link is live, and the one of an attachment
unfoldable pub is_link_of : Attachment → Link → Bool
is_link_of a l = l.live && (l.number == a.number) && (l.port.fac == a.port.fac) && (l.port.node == a.port.node) && (l.port.n == a.port.n)

-- the end at a place is allocated, and its link is a live one of the IPC process of place i, with this number
pub record IsLinkEnd (d : Dif) (i place number : ℕ) : Type 0 where
  pub channel : Channel
  pub stands : slice_get d.connections.channels place ≡ Some channel
  pub member : channel.member ≡ i
  pub live : IsLive (seen_of d).processes channel
  pub number_is : number ≡ live.link.number
  pub end : End
  pub is_end : At d.connections.flows.journal.ends place end
  pub allocated : end.state ≡ Allocated

-- an item is due there. `links` has the directions behind the management connections
pub record IsLinkDue (item : Item) (d : Dif) (links : List Direction) (i place number : ℕ) : Type 0 where
  pub here : IsLinkEnd d i place number
  pub due : IsDue item (link_config (config_of d.settings) d.connections.manage) d.clock d.connections.flows links place

-- at no link of the IPC process
abbrev pub NoLinkDue : Item → Dif → List Direction → ℕ → Type 0
NoLinkDue item d links i = (place number : ℕ) → IsLinkDue item d links i place number → ⊥

-- of the links at which it is due, this one has the least number
pub record IsFirstLink (item : Item) (d : Dif) (links : List Direction) (i place number : ℕ) : Type 0 where
  pub due : IsLinkDue item d links i place number
  pub least : (other its : ℕ) → IsLinkDue item d links i other its → number ≤ its

-- whether it is due at a place is told with the number of the link
abbrev pub TellsLinkDue : Item → Dif → List Direction → ℕ → ℕ → Option ℕ → Type 0
TellsLinkDue item d links i place (Some number) = IsLinkDue item d links i place number
TellsLinkDue item d links i place None = (number : ℕ) → IsLinkDue item d links i place number → ⊥

-- of two links the one of the lesser number
abbrev pub lesser_link : Option LinkTurn → LinkTurn → LinkTurn
lesser_link None other = other
lesser_link (Some first) other = if nat_le first.number other.number then first else other

-- the link that is found
abbrev pub FindsFirstLink : Item → Dif → List Direction → ℕ → Option LinkTurn → Type 0
FindsFirstLink item d links i (Some turn) = IsFirstLink item d links i turn.place turn.number
FindsFirstLink item d links i None = NoLinkDue item d links i

-- The first item

-- none of the items before it is due at the links
abbrev pub NoLinkBefore : Item → Dif → List Direction → ℕ → Type 0
NoLinkBefore Gone d links i = Unit {0}
NoLinkBefore GiveUp d links i = NoLinkDue Gone d links i
NoLinkBefore Ack d links i = NoLinkDue Gone d links i × NoLinkDue GiveUp d links i
NoLinkBefore Again d links i = NoLinkDue Gone d links i × NoLinkDue GiveUp d links i × NoLinkDue Ack d links i

-- none is due up to this one, it neither
abbrev pub NoLinkUpTo : Item → Dif → List Direction → ℕ → Type 0
NoLinkUpTo item d links i = NoLinkBefore item d links i × NoLinkDue item d links i

-- the item is the first that is due at the links, and has its turn at this one
pub record IsLinkTurn (item : Item) (d : Dif) (links : List Direction) (i place number : ℕ) : Type 0 where
  pub before : NoLinkBefore item d links i
  pub first : IsFirstLink item d links i place number

-- the item that is found, and its link
abbrev pub FindsNextLink : Dif → List Direction → ℕ → Option NextLink → Type 0
FindsNextLink d links i (Some next) = IsLinkTurn next.item d links i next.turn.place next.turn.number
FindsNextLink d links i None = NoLinkUpTo Again d links i

-- Links and flows

-- how soon an item comes among those that are due at one time
abbrev pub rank_of : Item → ℕ
rank_of Gone = 0
rank_of GiveUp = 1
rank_of Ack = 2
rank_of Again = 3
