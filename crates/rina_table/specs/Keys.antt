-- Which keys a table may have.
use Rattle.std.specs.Prelude.{ℕ, ◌+◌, ◌&&◌, ◌||◌, not, Bool, true, false, List, [], ◌∷◌, codes, length, Option, Some, None, if◌then◌else◌, option_map, option_and_then, position}
use Rattle.std.specs.List.{list_any}
use Rattle.std.specs.Str.{bytes_eq}
use Rattle.toml.specs.Data.{Data, table, Items, no_items, item, Members, no_members, member, get, as_array}
use Rattle.rina_table.specs.declared.keys.Shape.{Shape}
use Rattle.rina_table.specs.declared.keys.Shape.TheVariants as shape

unfoldable pub is_top_key : List ℕ → Bool
is_top_key k = bytes_eq k (codes "nodes") || bytes_eq k (codes "rounds") || bytes_eq k (codes "wire") || bytes_eq k (codes "dif")

unfoldable pub is_wire_key : List ℕ → Bool
is_wire_key k = bytes_eq k (codes "name") || bytes_eq k (codes "ends") || bytes_eq k (codes "delay") || bytes_eq k (codes "life") || bytes_eq k (codes "largest") || bytes_eq k (codes "storm")

unfoldable pub is_storm_key : List ℕ → Bool
is_storm_key k = bytes_eq k (codes "seed") || bytes_eq k (codes "lose") || bytes_eq k (codes "repeat") || bytes_eq k (codes "spread")

unfoldable pub is_dif_key : List ℕ → Bool
is_dif_key k =
    bytes_eq k (codes "name") || bytes_eq k (codes "rank") || bytes_eq k (codes "static") || bytes_eq k (codes "pdu") || bytes_eq k (codes "widths") || bytes_eq k (codes "queue") || bytes_eq k (codes "policy") || bytes_eq k (codes "wait")
    || bytes_eq k (codes "manage") || bytes_eq k (codes "cube") || bytes_eq k (codes "member") || bytes_eq k (codes "default") || bytes_eq k (codes "rule") || bytes_eq k (codes "link") || bytes_eq k (codes "flow")

unfoldable pub is_widths_key : List ℕ → Bool
is_widths_key k = bytes_eq k (codes "addr") || bytes_eq k (codes "cep") || bytes_eq k (codes "len") || bytes_eq k (codes "seq")

unfoldable pub is_manage_key : List ℕ → Bool
is_manage_key k = bytes_eq k (codes "mpl") || bytes_eq k (codes "r") || bytes_eq k (codes "a") || bytes_eq k (codes "retry") || bytes_eq k (codes "window")

unfoldable pub is_cube_key : List ℕ → Bool
is_cube_key k = bytes_eq k (codes "id") || bytes_eq k (codes "kind") || bytes_eq k (codes "mpl") || bytes_eq k (codes "window") || bytes_eq k (codes "largest") || bytes_eq k (codes "r") || bytes_eq k (codes "a") || bytes_eq k (codes "retry")

unfoldable pub is_member_key : List ℕ → Bool
is_member_key k = bytes_eq k (codes "node") || bytes_eq k (codes "addr")

unfoldable pub is_rule_key : List ℕ → Bool
is_rule_key k = bytes_eq k (codes "subject") || bytes_eq k (codes "act") || bytes_eq k (codes "allow")

unfoldable pub is_link_key : List ℕ → Bool
is_link_key k = bytes_eq k (codes "on") || bytes_eq k (codes "a") || bytes_eq k (codes "b") || bytes_eq k (codes "weight") || bytes_eq k (codes "cube")

unfoldable pub is_flow_key : List ℕ → Bool
is_flow_key k = bytes_eq k (codes "cube") || bytes_eq k (codes "from") || bytes_eq k (codes "to")

unfoldable pub is_end_key : List ℕ → Bool
is_end_key k = bytes_eq k (codes "node") || bytes_eq k (codes "app") || bytes_eq k (codes "label")

-- the keys of each kind of table
unfoldable pub is_key : Shape → List ℕ → Bool
is_key shape.Top k = is_top_key k
is_key shape.Wire k = is_wire_key k
is_key shape.Storm k = is_storm_key k
is_key shape.Dif k = is_dif_key k
is_key shape.Widths k = is_widths_key k
is_key shape.Manage k = is_manage_key k
is_key shape.Cube k = is_cube_key k
is_key shape.Member k = is_member_key k
is_key shape.Rule k = is_rule_key k
is_key shape.Link k = is_link_key k
is_key shape.Flow k = is_flow_key k
is_key shape.End k = is_end_key k

-- each key passes
abbrev pub all_keys : (List ℕ → Bool) → Members → Bool
all_keys p no_members = true
all_keys p (member k d ms) = p k && all_keys p ms

-- a table of this kind has a key that is not listed
unfoldable pub has_unlisted : Shape → Data → Bool
has_unlisted of (table ms) = not (all_keys (is_key of) ms)
has_unlisted of _ = false

-- the elements of an array
abbrev pub list_of : Items → List Data
list_of no_items = []
list_of (item d ds) = d ∷ list_of ds

-- the array at a key of a table
abbrev pub items_in : List ℕ → Data → Option (List Data)
items_in k d = option_and_then (λ v. option_map list_of (as_array v)) (get k d)

abbrev pub or_empty : Option (List Data) → List Data
or_empty None = []
or_empty (Some ds) = ds

-- the elements of the array at a key, none where there is no array
abbrev pub items_at : List ℕ → Data → List Data
items_at k d = or_empty (items_in k d)

abbrev pub part_has_unlisted : Shape → Option Data → Bool
part_has_unlisted of None = false
part_has_unlisted of (Some d) = has_unlisted of d

-- the table at a key has a key that is not listed
abbrev pub has_unlisted_at : Shape → List ℕ → Data → Bool
has_unlisted_at of k d = part_has_unlisted of (get k d)

-- a table of the list at a key has a key that is not listed
abbrev pub has_unlisted_among : Shape → List ℕ → Data → Bool
has_unlisted_among of k d = list_any (has_unlisted of) (items_at k d)

unfoldable pub wire_has_unlisted : Data → Bool
wire_has_unlisted d = has_unlisted shape.Wire d || has_unlisted_at shape.Storm (codes "storm") d

unfoldable pub flow_has_unlisted : Data → Bool
flow_has_unlisted d = has_unlisted shape.Flow d || has_unlisted_at shape.End (codes "from") d || has_unlisted_at shape.End (codes "to") d

unfoldable pub dif_has_unlisted : Data → Bool
dif_has_unlisted d =
    has_unlisted shape.Dif d || has_unlisted_at shape.Widths (codes "widths") d || has_unlisted_at shape.Manage (codes "manage") d || has_unlisted_among shape.Cube (codes "cube") d || has_unlisted_among shape.Member (codes "member") d
    || has_unlisted_among shape.Rule (codes "rule") d || has_unlisted_among shape.Link (codes "link") d || list_any flow_has_unlisted (items_at (codes "flow") d)

-- the first item that passes, where the first one is item `first`
abbrev pub first_item : ℕ → (Data → Bool) → List Data → Option ℕ
first_item first p ds = option_map (λ i. first + i) (position p ds)

abbrev pub or_next : Option ℕ → Option ℕ → Option ℕ
or_next (Some n) next = Some n
or_next None next = next

-- rule 2: the first item with a key that is not listed: the top, then the wires, then the DIFs
unfoldable pub keys_fault : Data → Option ℕ
keys_fault d =
    let wires = items_at (codes "wire") d in
    if has_unlisted shape.Top d then Some 0 else or_next (first_item 1 wire_has_unlisted wires) (first_item (1 + length wires) dif_has_unlisted (items_at (codes "dif") d))
