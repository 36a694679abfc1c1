-- The items that the members of a DIF replicate, and how long they are.
use Rattle.std.specs.Prelude.{◌≡◌, ◌⊎◌, ◌==◌, if◌then◌else◌, ℕ, ◌<◌, ◌≤◌, ◌^◌, List, [], ◌∷◌, ◌++◌, length, map, codes, Option, Some, None, Ok}
use Rattle.std.specs.Fmt.{decimal}
use Rattle.rina_base.specs.Names.{name_at, app_at}
use Rattle.rina_newest.specs.declared.item.Item.{Item}
use Rattle.rina_enrol.specs.declared.message.LinkMessage.{LinkMessage}
use Rattle.rina_enrol.specs.declared.message.LinkMessage.TheVariants as messages

-- a neighbour at the other end of a link, and the link's weight
pub record Neighbour : Type 0 where
  pub address : ℕ
  pub weight : ℕ

-- an address, a colon and a weight
abbrev pub neighbour_text : Neighbour → List ℕ
neighbour_text n = decimal n.address ++ codes ":" ++ decimal n.weight

-- neighbours joined by commas
abbrev pub neighbours_text : List Neighbour → List ℕ
neighbours_text [] = []
neighbours_text (n ∷ []) = neighbour_text n
neighbours_text (n ∷ m ∷ others) = neighbour_text n ++ codes "," ++ neighbours_text (m ∷ others)

abbrev pub AreInRange : List Neighbour → Type 0
AreInRange [] = Unit {0}
AreInRange (n ∷ others) = (n.address < 2 ^ 32) × (n.weight < 2 ^ 16) × AreInRange others

-- the value is this text, or the item is a deletion
abbrev pub IsText : Option (List ℕ) → List ℕ → Type 0
IsText None text = Unit {0}
IsText (Some value) text = value ≡ text

-- the link state of a member with at most 16 links
pub record IsLinkState (item : Item) : Type 0 where
  pub address : ℕ
  pub neighbours : List Neighbour
  pub small : address < 2 ^ 32
  pub few : length neighbours ≤ 16
  pub ranges : AreInRange neighbours
  pub key : item.key ≡ codes "/link/" ++ decimal address
  pub value : IsText item.value (neighbours_text neighbours)

-- a member's address, with the name of its node
pub record IsMember (item : Item) : Type 0 where
  pub address : ℕ
  pub node : List ℕ
  pub small : address < 2 ^ 32
  pub name : name_at node ≡ Ok node
  pub key : item.key ≡ codes "/member/" ++ decimal address
  pub value : IsText item.value node

-- a byte of an application's name in a key: a slash is written '!'
abbrev pub shown : ℕ → ℕ
shown b = if b == 47 then 33 else b

-- an application, with the address where it is registered
pub record IsEntry (item : Item) : Type 0 where
  pub app : List ℕ
  pub address : ℕ
  pub small : address < 2 ^ 32
  pub name : app_at app ≡ Ok app
  pub key : item.key ≡ codes "/dir/" ++ map shown app
  pub value : IsText item.value (decimal address)

-- an item that the members of a DIF replicate
abbrev pub IsReplicated : Item → Type 0
IsReplicated item = IsLinkState item ⊎ (IsMember item ⊎ IsEntry item)

-- the item of a message is one of these
abbrev pub CarriesReplicated : LinkMessage → Type 0
CarriesReplicated (messages.Item item) = IsReplicated item
CarriesReplicated (messages.Flood item) = IsReplicated item
CarriesReplicated m = Unit {0}
