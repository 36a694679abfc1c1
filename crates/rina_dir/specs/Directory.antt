-- Directory entries: the key of an application, the address in decimal, and what is found.
use Rattle.std.specs.Prelude.{◌≡◌, ℕ, ◌≤◌, length, take, Contains, IsSome, ◌==◌, List, ◌++◌, Option, Some, option_and_then, map, codes, if◌then◌else◌}
use Rattle.rina_base.specs.Decimals.{number_of}
use Rattle.rina_newest.specs.declared.item.Item.{Item}
use Rattle.rina_newest.specs.Newest.{value_at}

-- a byte of a name as it stands in a key: a slash is written '!'
unfoldable pub key_byte : ℕ → ℕ
key_byte b = if b == 47 then 33 else b

-- the key of an application's entry: "/dir/" and the name
unfoldable pub key_of : List ℕ → List ℕ
key_of app = codes "/dir/" ++ map key_byte app

-- the address in the live entry of an application
unfoldable pub found : List Item → List ℕ → Option ℕ
found items app = option_and_then number_of (value_at items (key_of app))

-- an item that is a live entry has the form of the directory: a key of at most 134 bytes, which is "/dir/" and a name, and an address in decimal
abbrev pub IsEntry : Item → Type 0
IsEntry item = (value : List ℕ) → item.value ≡ Some value → take 5 item.key ≡ codes "/dir/" → (length item.key ≤ 134) × IsSome (number_of value)

-- all live entries have the form of the directory
abbrev pub AreEntries : List Item → Type 0
AreEntries items = (item : Item) → Contains items item → IsEntry item
