-- The newest item of each key, in the order of their last changes.
use Rattle.std.specs.Prelude.{◌≡◌, ℕ, ◌<◌, Bool, true, false, nat_eq, not, ◌&&◌, ◌||◌, ◌==◌, nat_lt, List, [], ◌∷◌, ◌++◌, length, Option, Some, None, option_and_then, filter, find, Contains, MatchOption, if◌then◌else◌}
use Rattle.std.specs.Str.{bytes_eq}
use Rattle.std.specs.List.{AllByRecursion, HoldsAt, starts_with}
use Rattle.std.specs.List.Sorted.{IsStrictlySortedBy}
use Rattle.std.specs.Map.{lookup, keys_of}
use Rattle.std.specs.Ordering.{nat_cmp}
use Rattle.std.specs.BTreeMap.{is_at}
use Rattle.rina_newest.specs.declared.item.Version.{Version}
use Rattle.rina_newest.specs.declared.item.Item.{Item}

-- the second version is the newer: by tick, then count, then origin
unfoldable pub is_below : Version → Version → Bool
is_below a b = nat_lt a.tick b.tick || ((a.tick == b.tick) && (nat_lt a.count b.count || ((a.count == b.count) && nat_lt a.origin b.origin)))

abbrev pub item_of : List ℕ → Version → Option (List ℕ) → Item
item_of key version value = record { key = key; version = version; value = value }

-- the item has the key
abbrev pub has_key : List ℕ → Item → Bool
has_key key item = bytes_eq key item.key

-- the item that is kept under a key
abbrev pub kept_at : List Item → List ℕ → Option Item
kept_at items key = find (has_key key) items

-- the value that is kept under a key; none where nothing is kept or the item is a deletion
abbrev pub value_at : List Item → List ℕ → Option (List ℕ)
value_at items key = option_and_then (λ (item : Item). item.value) (kept_at items key)

-- the items whose keys begin with a text
abbrev pub items_under : List ℕ → List Item → List Item
items_under text items = filter (λ item. starts_with nat_eq item.key text) items

-- a version is newer than that of an item, if there is one
abbrev pub is_newer : Version → Option Item → Bool
is_newer version None = true
is_newer version (Some item) = is_below item.version version

-- the items without that of a key
abbrev pub without : List ℕ → List Item → List Item
without key items = filter (λ item. not (has_key key item)) items

-- the kept items after one was taken: a newer one is the last change
unfoldable pub taken : List Item → Item → List Item
taken items item = if is_newer item.version (kept_at items item.key) then without item.key items ++ item ∷ [] else items

-- the kept items after several were taken in turn
abbrev pub taken_all : List Item → List Item → List Item
taken_all items [] = items
taken_all items (x ∷ xs) = taken_all (taken items x) xs

-- an item of the list has the key, and no item of that key is newer
pub record IsNewest (items : List Item) (key : List ℕ) (item : Item) : Type 0 where
  pub among : Contains items item
  pub same : item.key ≡ key
  pub greatest : (other : Item) → Contains items other → other.key ≡ key → is_below item.version other.version ≡ false

-- items of one key and one version are the same
abbrev pub AreTold : List Item → Type 0
AreTold items = (x y : Item) → Contains items x → Contains items y → x.key ≡ y.key → x.version ≡ y.version → x ≡ y

-- the entry at an index has the number
abbrev pub IsNumbered : List (ℕ × Item) → ℕ → ℕ → Type 0
IsNumbered entries at index = (index < length entries) × HoldsAt (λ e. e.0 ≡ at) entries index

-- an index of the items by their keys: under each key the number of its change, and under each number, which rise and are all of them below the next one, the item
pub record IsIndexed (place : List ℕ → Option ℕ) (entries : List (ℕ × Item)) (next : ℕ) : Type 0 where
  pub placed : AllByRecursion (λ (e : ℕ × Item). place e.1.key ≡ Some e.0) entries
  pub found : (key : List ℕ) (at : ℕ) → place key ≡ Some at → MatchOption (lookup (is_at (nat_cmp at)) entries) ⊥ (λ item. has_key key item ≡ true)
  pub below : AllByRecursion (λ (e : ℕ × Item). e.0 < next) entries
  pub rising : IsStrictlySortedBy nat_cmp (keys_of entries)
