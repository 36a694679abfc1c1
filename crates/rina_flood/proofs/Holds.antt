-- What every row keeps.
use Rattle.std.proofs.Common.{◌≡◌, ℕ, ◌≤◌, ◌<◌, ◌^◌, Bool, true, false, Contains, []}
use Rattle.rina_enrol.specs.declared.message.LinkMessage.{LinkMessage}
use Rattle.rina_enrol.specs.declared.message.LinkMessage.TheVariants as messages
use Rattle.rina_newest.specs.declared.item.Item.{Item}
use Rattle.rina_newest.specs.Newest.{taken_all, AreTold}
use Rattle.rina_agent.specs.declared.message.ManagementMessage.{ManagementMessage}
use Rattle.rina_agent.specs.declared.message.ManagementMessage.TheVariants.{ToNeighbour, ToMember}
use Rattle.rina_agent.specs.Enrolled.{IsAtLeast}
use Rattle.rina_flood.specs.Network.{Side, other, Network, stands, unhandled, on_way, AreApart, AreEndsApart}
use Rattle.rina_flood.specs.Laws.{Owes}

-- a message of no enrolment
abbrev pub is_plain_near : LinkMessage → Bool
is_plain_near (messages.Item x) = true
is_plain_near (messages.Flood x) = true
is_plain_near other = false

abbrev pub is_plain : ManagementMessage → Bool
is_plain (ToNeighbour m) = is_plain_near m
is_plain (ToMember m) = true

-- links
pub record IsLaid (n : Network) : Type 0 where
  pub addresses : (i : ℕ) → (n.agents i).address ≡ i
  pub laid : AreEndsApart n
  pub fit : (l : ℕ) (d : Side) → n.ends l d < 2 ^ 32
  pub apart : (i : ℕ) → AreApart (n.agents i).links

-- items and where they are
pub record IsFlooded (n : Network) : Type 0 where
  pub kept : (l : ℕ) (d : Side) (x : Item) → Contains (on_way n l d) x → IsAtLeast (n.agents (n.ends l d)).items x
  pub owes : (l : ℕ) (d : Side) → stands n l d ≡ true → Owes n l d

-- no message of an enrolment waits or is on its way in a direction
abbrev pub IsPlain : Network → ℕ → Side → Type 0
IsPlain n l d = (m : ManagementMessage) → Contains (unhandled n l d) m → is_plain m ≡ true

-- the journals
pub record IsNoted (n : Network) : Type 0 where
  pub knows : (i : ℕ) → (n.agents i).items ≡ taken_all [] (n.offered i)
  pub offered : (i : ℕ) (x : Item) → Contains (n.offered i) x → Contains n.made x
  pub sent : (l : ℕ) (d : Side) (x : Item) → Contains (on_way n l d) x → Contains n.made x
  pub one : AreTold n.made
  pub past : (x : Item) → Contains n.made x → x.version.tick ≤ n.now
  pub counted : (x : Item) → Contains n.made x → x.version.count ≤ (n.agents x.version.origin).last_count

pub record Holds (n : Network) : Type 0 where
  pub laid : IsLaid n
  pub flooded : IsFlooded n
  pub noted : IsNoted n
