-- What the laws say of a member that handles the SDUs of its links.
use Rattle.std.specs.Prelude.{◌≡◌, ℕ, ◌⊎◌, false, List, ◌++◌, Contains, find, Option, Some, None, codes}
use Rattle.rina_newest.specs.declared.item.Item.{Item}
use Rattle.rina_newest.specs.Newest.{is_newer, kept_at, taken}
use Rattle.rina_enrol.specs.declared.message.LinkMessage.{LinkMessage}
use Rattle.rina_enrol.specs.declared.message.LinkMessage.TheVariants as messages
use Rattle.rina_agent.specs.declared.agent.Agent.{Agent}
use Rattle.rina_agent.specs.declared.link.Link.{Link}
use Rattle.rina_agent.specs.Agenda.{floods}
use Rattle.rina_agent.specs.Enrolments.{is_numbered}
use Rattle.rina_agent.specs.Neighbours.{link_key}
use Rattle.rina_rib.specs.Laws.{LiesBelow}
use Rattle.rina_rib.specs.Objects.{object_at}
use Rattle.rina_rib.specs.Rows.{Tree}
use Rattle.rina_member.specs.declared.management.Management.{Management}
use Rattle.rina_member.specs.Managements.{with_live}

-- the item that a message brings, where it is an item or a flood
abbrev pub item_in : LinkMessage → Option Item
item_in (messages.Item item) = Some item
item_in (messages.Flood item) = Some item
item_in message = None

-- a member is who it was, and has the rules that it had
pub record IsSameMember (g g' : Agent) : Type 0 where
  pub address : g'.address ≡ g.address
  pub name : g'.name ≡ g.name
  pub node : g'.node ≡ g.node
  pub rules : g'.rules ≡ g.rules

-- a member took an item that came on a link: it keeps that one of its key, a flood of it waits behind each link that is up but this one,
-- the object of its key shows what is live, and all else is as before
pub record TakesNews (link : ℕ) (item : Item) (m m' : Management) : Type 0 where
  pub takes : m'.agent ≡ record m.agent { items = taken m.agent.items item; agenda = m.agent.agenda ++ floods (Some link) item m.agent.links }
  pub shows : m'.objects ≡ with_live m.objects (taken m.agent.items item) item.key

-- no enrolment made the link of a number, as none made a link of the static start
abbrev pub IsUnenrolled : List Link → ℕ → Type 0
IsUnenrolled links number = (l : Link) → find (is_numbered number) links ≡ Some l → l.enrolment ≡ None

-- where a message brings a link state of the member itself, what the member keeps of it is as new: it alone makes it
abbrev pub OwnIsNewest : Agent → LinkMessage → Type 0
OwnIsNewest g message = (item : Item) → item_in message ≡ Some item → item.key ≡ link_key g.address → is_newer item.version (kept_at g.items item.key) ≡ false

-- each object is as before, but those of some names
abbrev pub KeepsOthers : List (List ℕ) → Tree → Tree → Type 0
KeepsOthers names t t' = (name : List ℕ) → (Contains names name → ⊥) → object_at t'.objects name ≡ object_at t.objects name

-- a name lies below `/member`, `/link` or `/dir`, as the keys of items do
abbrev pub IsItemName : List ℕ → Type 0
IsItemName name = LiesBelow (codes "/member") name ⊎ (LiesBelow (codes "/link") name ⊎ LiesBelow (codes "/dir") name)

-- so does the key of the item that a message brings
abbrev pub BringsItemName : LinkMessage → Type 0
BringsItemName message = (item : Item) → item_in message ≡ Some item → IsItemName item.key

-- each object that lies below none of these is as before
abbrev pub KeepsOutsideItems : Tree → Tree → Type 0
KeepsOutsideItems t t' = (name : List ℕ) → (IsItemName name → ⊥) → object_at t'.objects name ≡ object_at t.objects name
