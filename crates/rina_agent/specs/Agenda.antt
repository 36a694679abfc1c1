-- Messages that wait for links: in the order in which they were put, each with the number of its link.
use Rattle.std.specs.Prelude.{ℕ, Bool, false, ◌==◌, ◌&&◌, not, List, map, filter, find, position, remove, Option, Some, None}
use Rattle.rina_newest.specs.declared.item.Item.{Item}
use Rattle.rina_enrol.specs.declared.message.LinkMessage.{LinkMessage}
use Rattle.rina_enrol.specs.declared.message.LinkMessage.TheVariants as messages
use Rattle.rina_agent.specs.declared.message.ManagementMessage.{ManagementMessage}
use Rattle.rina_agent.specs.declared.message.ManagementMessage.TheVariants.{ToNeighbour}
use Rattle.rina_agent.specs.declared.message.Waiting.{Waiting}
use Rattle.rina_agent.specs.declared.link.Link.{Link}

-- a message to the neighbour at the other end of a link
abbrev pub near : ℕ → LinkMessage → Waiting
near link m = record { link = link; message = ToNeighbour m }

-- an item for a neighbour, within an enrolment
abbrev pub item_on : ℕ → Item → Waiting
item_on link item = near link (messages.Item item)

-- an item for a neighbour, which was made or taken as news
abbrev pub flood_on : Item → Link → Waiting
flood_on item l = near l.number (messages.Flood item)

-- a number is the one that is left out
abbrev pub is_out : Option ℕ → ℕ → Bool
is_out None number = false
is_out (Some out) number = out == number

-- items are flooded on each link that is up, but the one that is left out
abbrev pub is_flooded : Option ℕ → Link → Bool
is_flooded out l = l.up && not (is_out out l.number)

-- the floods of an item
abbrev pub floods : Option ℕ → Item → List Link → List Waiting
floods out item links = map (flood_on item) (filter (is_flooded out) links)

-- a message waits for a link
abbrev pub waits_on : ℕ → Waiting → Bool
waits_on link w = w.link == link

-- the messages that wait for a link, first in first
abbrev pub waiting_on : ℕ → List Waiting → List ManagementMessage
waiting_on link agenda = map (λ (w : Waiting). w.message) (filter (waits_on link) agenda)

-- the first message that waits for a link
abbrev pub first_on : ℕ → List Waiting → Option Waiting
first_on link agenda = find (waits_on link) agenda

abbrev pub without_at : {A : Type 0} → Option ℕ → List A → List A
without_at None xs = xs
without_at (Some at) xs = remove xs at

-- the first message that waits for a link is gone
abbrev pub without_first : ℕ → List Waiting → List Waiting
without_first link agenda = without_at (position (waits_on link) agenda) agenda

-- all messages that wait for a link are gone
abbrev pub without_link : ℕ → List Waiting → List Waiting
without_link link agenda = filter (λ (w : Waiting). not (waits_on link w)) agenda
