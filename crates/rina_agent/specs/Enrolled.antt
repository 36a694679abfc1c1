-- Enrolled: a joiner has, key by key, what the member kept at START, or newer.
use Rattle.std.specs.Prelude.{◌≡◌, ℕ, false, List, [], ◌∷◌, ◌++◌, Option, Some, None, Contains, Result, Ok, Err}
use Rattle.rina_newest.specs.declared.item.Item.{Item}
use Rattle.rina_newest.specs.Newest.{is_below, kept_at}
use Rattle.rina_enrol.specs.declared.message.LinkMessage.{LinkMessage}
use Rattle.rina_enrol.specs.declared.message.LinkMessage.TheVariants as messages
use Rattle.rina_agent.specs.declared.agent.Agent.{Agent}
use Rattle.rina_agent.specs.declared.state.AgentError.{AgentError}
use Rattle.rina_agent.specs.Agenda.{without_first}
use Rattle.rina_agent.specs.Counts.{spent, unless}
use Rattle.rina_agent.specs.Items.{made}
use Rattle.rina_agent.specs.Rows.{joining, joined_link, handled, lost}

-- an item is kept under the key of another, and is at least as new
pub record IsAtLeast (items : List Item) (x : Item) : Type 0 where
  pub item : Item
  pub kept : kept_at items x.key ≡ Some item
  pub least : is_below item.version x.version ≡ false

-- what happens at a member: each is a call
pub data Event : Type 0 where
  Handles : (now link : ℕ) (m : LinkMessage) → Event
  Makes : (now : ℕ) (key : List ℕ) (value : Option (List ℕ)) → Event
  Enrols : (link : ℕ) (member node : List ℕ) → Event
  Claims : (link : ℕ) → Event
  Loses : (now link : ℕ) → Event
  Takes : (link : ℕ) → Event

-- what is refused changes nothing
abbrev pub done : Agent → Result Agent AgentError → Agent
done a (Ok b) = b
done a (Err e) = a

-- a member after an event
abbrev pub after : Agent → Event → Agent
after a (Handles now link m) = done a (handled a now link m)
after a (Makes now key value) = done a (unless (spent 1 a.last_count) (made None a now key value))
after a (Enrols link member node) = done a (unless (spent 1 a.last_invoke) (joining a link member node))
after a (Claims link) = record a { links = a.links ++ joined_link link ∷ [] }
after a (Loses now link) = done a (lost a now link)
after a (Takes link) = record a { agenda = without_first link a.agenda }

abbrev pub after_all : Agent → List Event → Agent
after_all a [] = a
after_all a (e ∷ events) = after_all (after a e) events

-- the message of an item was handled, among other events
pub record IsHandled (events : List Event) (x : Item) : Type 0 where
  pub before : List Event
  pub now : ℕ
  pub link : ℕ
  pub behind : List Event
  pub is : events ≡ before ++ Handles now link (messages.Item x) ∷ behind

-- what a member keeps, or newer, it keeps from then on
abbrev pub KeepsAtLeast : Type 0
KeepsAtLeast = (a : Agent) (events : List Event) (x : Item) → IsAtLeast a.items x → IsAtLeast (after_all a events).items x

-- once the message of each of some items was handled, the member keeps each of them, or newer, whatever else happened
abbrev pub HasAllThatWereHandled : Type 0
HasAllThatWereHandled = (a : Agent) (events : List Event) (items : List Item) → ((x : Item) → Contains items x → IsHandled events x)
    → (x : Item) → Contains items x → IsAtLeast (after_all a events).items x
