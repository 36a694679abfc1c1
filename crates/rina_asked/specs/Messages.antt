-- The messages about flows of a DIF: those that wait at its members, and those that are on its links.
use Rattle.std.specs.Prelude.{◌≡◌, ◌⊎◌, ℕ, List, Contains, drop, length, slice_get, Some}
use Rattle.rina_agent.specs.declared.message.Waiting.{Waiting}
use Rattle.rina_alloc.specs.declared.message.FlowMessage.{FlowMessage}
use Rattle.rina_flood.specs.Network.{Side, other}
use Rattle.rina_flood.specs.Static.{end_place}
use Rattle.rina_member.specs.declared.management.Management.{Management}
use Rattle.rina_member.specs.Managements.{IsSduOf}
use Rattle.rina_dif.specs.declared.dif.Dif.{Dif}
use Rattle.rina_dif.specs.Flooding.{members_seen}
use Rattle.rina_dif.specs.FlowMessages.{IsTextOf}

-- the texts that one end of a link offered, and that are not handled at its other end
abbrev pub on_link : Dif → ℕ → Side → List (List ℕ)
on_link d link side = drop (length ((members_seen d).got (end_place link (other side)))) ((members_seen d).sent (end_place link side))

pub record IsOnLink (d : Dif) (text : List ℕ) : Type 0 where
  pub link : ℕ
  pub side : Side
  pub among : Contains (on_link d link side) text

-- a text that a member will offer: a message of it waits there for a link
pub record Waits (d : Dif) (text : List ℕ) : Type 0 where
  pub place : ℕ
  pub management : Management
  pub is_management : slice_get d.managements place ≡ Some management
  pub waiting : Waiting
  pub waits : Contains management.agent.agenda waiting
  pub written : IsSduOf waiting.message text

-- the text is on its way
abbrev pub IsOnWay : Dif → List ℕ → Type 0
IsOnWay d text = Waits d text ⊎ IsOnLink d text

-- the message is among those of a DIF
pub record IsMessage (d : Dif) (m : FlowMessage) : Type 0 where
  pub text : List ℕ
  pub on_way : IsOnWay d text
  pub is : IsTextOf m text
