-- What a member does with items: its own, and those that come on its links.
use Rattle.std.specs.Prelude.{ℕ, List, ◌++◌, Option, Some, if◌then◌else◌}
use Rattle.rina_newest.specs.declared.item.Version.{Version}
use Rattle.rina_newest.specs.declared.item.Item.{Item}
use Rattle.rina_newest.specs.Newest.{item_of, kept_at, is_newer, taken}
use Rattle.rina_agent.specs.declared.agent.Agent.{Agent}
use Rattle.rina_agent.specs.Agenda.{floods}
use Rattle.rina_agent.specs.Counts.{next_of}
use Rattle.rina_agent.specs.Neighbours.{link_key, link_state}

-- the version of the next item of its own
abbrev pub own_version : Agent → ℕ → Version
own_version a now = record { tick = now; count = next_of a.last_count; origin = a.address }

abbrev pub own_item : Agent → ℕ → List ℕ → Option (List ℕ) → Item
own_item a now key value = item_of key (own_version a now) value

-- a member made an item: it is kept, where it is newer than what is kept, and flooded on each link that is up, but the one
-- that is left out
abbrev pub made : Option ℕ → Agent → ℕ → List ℕ → Option (List ℕ) → Agent
made out a now key value = record a {
  items = taken a.items (own_item a now key value);
  last_count = next_of a.last_count;
  agenda = a.agenda ++ floods out (own_item a now key value) a.links;
}

-- a member made its link state, with or without one of its links
abbrev pub stated : Option ℕ → Agent → ℕ → Agent
stated out a now = made out a now (link_key a.address) (Some (link_state out a.links))

-- an item came on a link: where it is newer than what is kept, it is kept, and flooded on each link that is up but this
abbrev pub took : ℕ → Agent → Item → Agent
took link a item = if is_newer item.version (kept_at a.items item.key)
    then record a { items = taken a.items item; agenda = a.agenda ++ floods (Some link) item a.links }
    else a
