-- The directory entries of a DIF: those that its members keep, and those that they tell each other.
use Rattle.std.specs.Prelude.{◌≡◌, ◌⊎◌, ◌<◌, ◌^◌, ℕ, List, Contains, slice_get, Some, Ok}
use Rattle.std.specs.Fmt.{decimal}
use Rattle.rina_base.specs.Names.{app_at}
use Rattle.rina_newest.specs.declared.item.Item.{Item}
use Rattle.rina_dir.specs.Directory.{key_of}
use Rattle.rina_agent.specs.declared.message.ManagementMessage.{ManagementMessage}
use Rattle.rina_agent.specs.declared.message.Waiting.{Waiting}
use Rattle.rina_flood.specs.Network.{carried}
use Rattle.rina_member.specs.declared.management.Management.{Management}
use Rattle.rina_member.specs.Knowing.{IsEntryKey}
use Rattle.rina_member.specs.Managements.{IsSduOf}
use Rattle.rina_dif.specs.declared.dif.Dif.{Dif}
use Rattle.rina_asked.specs.Messages.{IsOnLink}

-- Items

-- a member keeps it
pub record IsKept (d : Dif) (item : Item) : Type 0 where
  pub place : ℕ
  pub management : Management
  pub is_management : slice_get d.managements place ≡ Some management
  pub among : Contains management.agent.items item

-- a message that carries it waits at a member for a link
pub record IsWaiting (d : Dif) (item : Item) : Type 0 where
  pub place : ℕ
  pub management : Management
  pub is_management : slice_get d.managements place ≡ Some management
  pub waiting : Waiting
  pub waits : Contains management.agent.agenda waiting
  pub carries : Contains (carried waiting.message) item

-- the text of a message that carries it was offered at one end of a link, and is not handled at the other: it is on its way, or came and is not passed
pub record IsSent (d : Dif) (item : Item) : Type 0 where
  pub text : List ℕ
  pub on_link : IsOnLink d text
  pub message : ManagementMessage
  pub written : IsSduOf message text
  pub carries : Contains (carried message) item

-- each of these is an item of the DIF
abbrev pub IsItem : Dif → Item → Type 0
IsItem d item = IsKept d item ⊎ (IsWaiting d item ⊎ IsSent d item)

-- Entries

-- an application at the address of a member
pub record Name : Type 0 where
  pub app : List ℕ
  pub address : ℕ

-- an item was made as the entry of a name: under the key of the application, with the address as its value
pub record IsEntryOf (name : Name) (item : Item) : Type 0 where
  pub key : item.key ≡ key_of name.app
  pub value : item.value ≡ Some (decimal name.address)

-- an item that has the key of an application and a value, and so is a live entry, is that of one of these names. An item without a value, as one that takes an
-- entry back, is not live
abbrev pub IsKnown : List Name → Item → Type 0
IsKnown names item = (value : List ℕ) → IsEntryKey item.key → item.value ≡ Some value → (name : Name) × Contains names name × IsEntryOf name item

-- this holds of each item of a DIF
abbrev pub AllAre : (Item → Type 0) → Dif → Type 0
AllAre G d = (item : Item) → IsItem d item → G item

-- so each live entry is that of one of the names
abbrev pub AreKnown : List Name → Dif → Type 0
AreKnown names d = AllAre (IsKnown names) d

-- the applications have names, and the addresses fit in 32 bits
pub record IsProperName (name : Name) : Type 0 where
  pub app : app_at name.app ≡ Ok name.app
  pub address : name.address < 2 ^ 32

abbrev pub AreProper : List Name → Type 0
AreProper names = (name : Name) → Contains names name → IsProperName name
