-- What each event makes of the management of a member: of its items, and of the objects that it shows.
use Rattle.std.specs.Prelude.{◌≡◌, ℕ, ◌-◌, ◌==◌, ◌⊎◌, Bool, true, List, [], ◌∷◌, ◌++◌, Option, Some, None, Result, Ok, Err, if◌then◌else◌}
use Rattle.std.specs.Global.{Vec}
use Rattle.std.specs.List.{fold}
use Rattle.std.specs.Fmt.{decimal}
use Rattle.rina_base.specs.declared.class.Class.TheVariants as classes
use Rattle.rina_newest.specs.declared.item.Item.{Item}
use Rattle.rina_newest.specs.Newest.{is_newer, item_of, kept_at, taken, value_at}
use Rattle.rina_alloc.specs.Messages.{IsSpelled as IsFlowText}
use Rattle.rina_enrol.specs.declared.message.LinkMessage.{LinkMessage}
use Rattle.rina_enrol.specs.declared.message.LinkMessage.TheVariants as messages
use Rattle.rina_enrol.specs.Messages.{IsInRange, IsSpelled}
use Rattle.rina_agent.specs.declared.agent.Agent.{Agent}
use Rattle.rina_agent.specs.declared.message.ManagementMessage.{ManagementMessage}
use Rattle.rina_agent.specs.declared.message.ManagementMessage.TheVariants.{ToMember, ToNeighbour}
use Rattle.rina_agent.specs.declared.message.Waiting.{Waiting}
use Rattle.rina_agent.specs.declared.state.AgentError.{AgentError}
use Rattle.rina_agent.specs.declared.state.AgentError.TheVariants.{CountSpent, Memory}
use Rattle.rina_agent.specs.Agenda.{without_first}
use Rattle.rina_agent.specs.Counts.{spent}
use Rattle.rina_agent.specs.Items.{made}
use Rattle.rina_agent.specs.Neighbours.{link_key, member_key}
use Rattle.rina_agent.specs.Rows.{handled, joined_link, joining, lost}
use Rattle.rina_dir.specs.Directory.{key_of}
use Rattle.rina_rib.specs.Rows.{Tree}
use Rattle.rina_member.specs.declared.management.Management.{Management}
use Rattle.rina_member.specs.Objects.{flow_name, removed, shown_as, told}
use Rattle.rina_member.specs.Start.{first_version}

-- the object of a key shows what these items hold under it
abbrev pub with_live : Tree → List Item → List ℕ → Tree
with_live t items key = shown_as t key (value_at items key)

-- Directory entries

-- the entry of an application that is registered at the member of an address from the start
abbrev pub entry_of : List ℕ → ℕ → Item
entry_of app address = item_of (key_of app) (first_version address) (Some (decimal address))

-- a member takes an item
abbrev pub takes_item : Agent → Item → Agent
takes_item g item = record g { items = taken g.items item }

-- a member takes the entry of an application at an address: its items hold the newer of this one and the one before, and the
-- object of the entry's key shows it
unfoldable pub entered : List ℕ → ℕ → Management → Management
entered app address m = record {
  agent = takes_item m.agent (entry_of app address);
  objects = with_live m.objects (taken m.agent.items (entry_of app address)) (key_of app);
}

-- the agent of a member is as before, or took the entry of an application at an address
abbrev pub MayHoldEntry : List ℕ → ℕ → Management → Management → Type 0
MayHoldEntry app address old new = (new.agent ≡ old.agent) ⊎ (new.agent ≡ takes_item old.agent (entry_of app address))

-- a member made an item of its own under the key of the entry of an application, at a tick: with a value, or as a deletion, which has
-- none. It is flooded on each link that is up, and the object of the key shows what is live
pub record MakesEntry (now : ℕ) (app : List ℕ) (value : Option (List ℕ)) (m m' : Management) : Type 0 where
  pub makes : m'.agent ≡ made None m.agent now (key_of app) value
  pub shows : m'.objects ≡ with_live m.objects m'.agent.items (key_of app)

-- it did, or no version count is left; nothing is told where memory ran out
abbrev pub MayMakeEntry : ℕ → List ℕ → Option (List ℕ) → Management → Result Management AgentError → Type 0
MayMakeEntry now app value m (Ok m') = (spent 1 m.agent.last_count ≡ None) × MakesEntry now app value m m'
MayMakeEntry now app value m (Err (CountSpent need left)) = spent 1 m.agent.last_count ≡ Some (CountSpent need left)
MayMakeEntry now app value m (Err Memory) = Unit {0}

-- Links

-- a member loses its link of a number at a tick: it makes its link state without it, where the link was up, and the object of its link
-- state shows that
pub record LosesLink (now number : ℕ) (m m' : Management) : Type 0 where
  pub loses : lost m.agent now number ≡ Ok m'.agent
  pub shows : m'.objects ≡ with_live m.objects m'.agent.items (link_key m.agent.address)

-- it does, or no version count is left for its link state; nothing is told where memory ran out
abbrev pub MayLoseLink : ℕ → ℕ → Management → Result Management AgentError → Type 0
MayLoseLink now number m (Ok m') = LosesLink now number m m'
MayLoseLink now number m (Err (CountSpent need left)) = lost m.agent now number ≡ Err (CountSpent need left)
MayLoseLink now number m (Err Memory) = Unit {0}

-- a member gets a new link of a number, on which another may join
abbrev pub claimed : Agent → ℕ → Agent
claimed g number = record g { links = g.links ++ joined_link number ∷ [] }

-- with another agent, and the objects as they were
abbrev pub with_agent : Management → Agent → Management
with_agent m g = record m { agent = g }

-- a member asks for an enrolment at the member of a name on a node, on a new link of a number: CONNECT waits there, and its objects stay.
-- Or no invoke id is left; nothing is told where memory ran out
abbrev pub MayJoin : ℕ → List ℕ → List ℕ → Management → Result Management AgentError → Type 0
MayJoin number member node m (Ok m') = (spent 1 m.agent.last_invoke ≡ None) × (m' ≡ with_agent m (joining m.agent number member node))
MayJoin number member node m (Err (CountSpent need left)) = spent 1 m.agent.last_invoke ≡ Some (CountSpent need left)
MayJoin number member node m (Err Memory) = Unit {0}

-- SDUs that are sent

-- the SDU is the bytes of a message of a neighbour
pub record IsSdu (message : LinkMessage) (sdu : List ℕ) : Type 0 where
  pub in_range : IsInRange message
  pub spelled : IsSpelled message sdu

-- the SDU is the bytes of a message, to a neighbour or about a flow
abbrev pub IsSduOf : ManagementMessage → List ℕ → Type 0
IsSduOf (ToNeighbour message) sdu = IsSdu message sdu
IsSduOf (ToMember message) sdu = IsFlowText message sdu

-- the next SDU is the bytes of the message that waits first; there is none exactly where none waits
abbrev pub IsNextSdu : Option Waiting → Option (Vec ℕ) → Type 0
IsNextSdu None None = Unit {0}
IsNextSdu None (Some sdu) = ⊥
IsNextSdu (Some waiting) None = ⊥
IsNextSdu (Some waiting) (Some sdu) = IsSduOf waiting.message sdu.items

-- the first message of a link was sent, and waits no more
abbrev pub with_sent : Management → ℕ → Management
with_sent m link = record m { agent = record m.agent { agenda = without_first link m.agent.agenda } }

-- SDUs that come

-- a message is news, but for an item that is not newer than what is kept under its key
abbrev pub is_news : List Item → LinkMessage → Bool
is_news items (messages.Item item) = is_newer item.version (kept_at items item.key)
is_news items (messages.Flood item) = is_newer item.version (kept_at items item.key)
is_news items message = true

-- the keys of the own items that a member of an address made in a step: of one its link state, of two its member item before that
abbrev pub keys_made : ℕ → ℕ → List (List ℕ)
keys_made address made = if made == 0 then [] else (if made == 1 then link_key address ∷ [] else member_key address ∷ link_key address ∷ [])

-- the keys of the items that a message brought, in the order in which they were made or taken: that of the item that came, or of
-- the own items that the member made, as many as its version count rose
abbrev pub keys_brought : ℕ → Agent → LinkMessage → List (List ℕ)
keys_brought last_count g (messages.Item item) = item.key ∷ []
keys_brought last_count g (messages.Flood item) = item.key ∷ []
keys_brought last_count g message = keys_made g.address (g.last_count - last_count)

-- the objects of several keys show what these items hold under them
abbrev pub all_live : Tree → List Item → List (List ℕ) → Tree
all_live t items keys = fold (λ t key. with_live t items key) t keys

-- a member handled a message that came on a link at a tick: its agent did, and the objects of the items that this brought show what
-- is live
pub record Handles (now link : ℕ) (message : LinkMessage) (m m' : Management) : Type 0 where
  pub handles : handled m.agent now link message ≡ Ok m'.agent
  pub shows : m'.objects ≡ all_live m.objects m'.agent.items (keys_brought m.agent.last_count m'.agent message)

-- it did, or too few version counts or invoke ids were left; nothing is told where memory ran out
abbrev pub HandlesMessage : ℕ → ℕ → LinkMessage → Management → Result Management AgentError → Type 0
HandlesMessage now link message m (Ok m') = Handles now link message m m'
HandlesMessage now link message m (Err (CountSpent need left)) = handled m.agent now link message ≡ Err (CountSpent need left)
HandlesMessage now link message m (Err Memory) = Unit {0}

-- the SDU is a message that is news
pub record IsNews (message : LinkMessage) (sdu : List ℕ) (m : Management) : Type 0 where
  pub is_sdu : IsSdu message sdu
  pub news : is_news m.agent.items message ≡ true

-- an SDU came on a link at a tick. Where it is a message that is news, the member handled that. Else nothing changed: it is an item that
-- is no news, or no message of a neighbour. Such is a message about a flow, which no member handles yet.
abbrev pub HandlesSdu : ℕ → ℕ → List ℕ → Management → Result (Option Management) AgentError → Type 0
HandlesSdu now link sdu m (Ok (Some m')) = (message : LinkMessage) × IsNews message sdu m × Handles now link message m m'
HandlesSdu now link sdu m (Ok None) = (message : LinkMessage) → IsNews message sdu m → ⊥
HandlesSdu now link sdu m (Err (CountSpent need left)) = (message : LinkMessage) × IsNews message sdu m × (handled m.agent now link message ≡ Err (CountSpent need left))
HandlesSdu now link sdu m (Err Memory) = Unit {0}

-- Flows

-- with other objects
abbrev pub with_objects : Management → Tree → Management
with_objects m t = record m { objects = t }

-- an end of a flow is allocated at the member: the object of the flow is there from now on
abbrev pub with_flow : Management → ℕ → Management
with_flow m cep = with_objects m (told m.objects (flow_name cep) classes.Flow [])

-- an end of a flow is allocated no more: its object is deleted
abbrev pub without_flow : Management → ℕ → Management
without_flow m cep = with_objects m (removed m.objects (flow_name cep))

-- so are those of several flows, one after the other
abbrev pub without_flows : Management → List ℕ → Management
without_flows m ceps = fold without_flow m ceps
