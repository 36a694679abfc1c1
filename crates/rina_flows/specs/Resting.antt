-- Until when nothing is due at any end.
use Rattle.std.specs.Prelude.{ℕ, ◌<◌, false}
use Rattle.rina_flows.specs.declared.due.Item.{Item}
use Rattle.rina_flows.specs.declared.flows.Flows.{Flows}
use Rattle.rina_flows.specs.Timely.{DueIn}

-- at no tick before this one an item is due at any end
abbrev pub NoneDueUntil : ℕ → Flows → Type 0
NoneDueUntil until flows = (now : ℕ) → now < until → (at : ℕ) (item : Item) → DueIn item now at flows false
