-- What the first member of a DIF that is not static keeps from the start.
use Rattle.std.specs.Prelude.{ℕ, List, [], ◌∷◌, Some}
use Rattle.rina_newest.specs.declared.item.Item.{Item}
use Rattle.rina_newest.specs.Newest.{item_of}
use Rattle.rina_agent.specs.Neighbours.{member_key}

-- its member item, of version (0, 0, its address)
abbrev pub first_items : ℕ → List ℕ → List Item
first_items address node = item_of (member_key address) (record { tick = 0; count = 0; origin = address }) (Some node) ∷ []
