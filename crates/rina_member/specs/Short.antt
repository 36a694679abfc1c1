-- Which messages are short enough for an SDU of a management connection: of at most 325 bytes.
use Rattle.std.specs.Prelude.{◌≡◌, ◌<◌, ◌≤◌, ◌^◌, List, Contains, length, Ok}
use Rattle.rina_base.specs.Names.{app_at, name_at}
use Rattle.rina_cdap.specs.Messages.{IfThere}
use Rattle.rina_newest.specs.declared.item.Item.{Item}
use Rattle.rina_alloc.specs.Messages.{IsProper as IsProperWord}
use Rattle.rina_enrol.specs.Messages.{IsProper, IsProperItem}
use Rattle.rina_enrol.specs.Items.{CarriesReplicated, IsReplicated}
use Rattle.rina_agent.specs.declared.agent.Agent.{Agent}
use Rattle.rina_agent.specs.declared.link.Link.{Link}
use Rattle.rina_agent.specs.declared.message.ManagementMessage.{ManagementMessage}
use Rattle.rina_agent.specs.declared.message.ManagementMessage.TheVariants.{ToMember, ToNeighbour}
use Rattle.rina_agent.specs.declared.message.Waiting.{Waiting}
use Rattle.rina_plan.specs.declared.dif.LinkPlan.{LinkPlan}
use Rattle.rina_data.specs.declared.settings.Member.{Member}
use Rattle.rina_member.specs.Routing.{edges_from}

-- the names in a message are names, and its item is one that the members of a DIF replicate: a member item, a directory entry, or
-- a link state of at most 16 links
abbrev pub IsShort : ManagementMessage → Type 0
IsShort (ToNeighbour message) = IsProper message × CarriesReplicated message
IsShort (ToMember message) = IsProperWord message.word

-- so is each message that waits
abbrev pub AreShort : List Waiting → Type 0
AreShort agenda = (waiting : Waiting) → Contains agenda waiting → IsShort waiting.message

-- the message of an item is short
abbrev pub IsShortItem : Item → Type 0
IsShortItem item = IsProperItem item × IsReplicated item

-- the address of the neighbour at a link, where it is known, has 32 bits, and the link weighs from 1 to 65,535
pub record IsLinkInRange (l : Link) : Type 0 where
  pub peer : IfThere l.peer (2 ^ 32)
  pub least : 1 ≤ l.weight
  pub weight : l.weight ≤ 65535

-- a member tells short messages alone, now and from now on: its names are names, it keeps replicated items, it has at most 16 links, and
-- what waits is short
pub record TellsShort (g : Agent) : Type 0 where
  pub address : g.address < 2 ^ 32
  pub name : app_at g.name ≡ Ok g.name
  pub node : name_at g.node ≡ Ok g.node
  pub items : (item : Item) → Contains g.items item → IsShortItem item
  pub few : length g.links ≤ 16
  pub ranges : (l : Link) → Contains g.links l → IsLinkInRange l
  pub waiting : AreShort g.agenda

-- of a static DIF: the members have names of applications, and each has at most 16 links
abbrev pub AreNamed : List Member → Type 0
AreNamed members = (m : Member) → Contains members m → app_at m.name ≡ Ok m.name

abbrev pub HaveFewLinks : List Member → List LinkPlan → Type 0
HaveFewLinks members plans = (m : Member) → Contains members m → length (edges_from members m.node plans) ≤ 16
