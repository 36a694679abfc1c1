-- Routes: which edges the link states of a facility claim, and over which link a least walk leaves.
use Rattle.std.specs.Prelude.{◌≡◌, ◌≢◌, ℕ, ◌≤◌, Bool, true, ◌&&◌, ◌==◌, nat_eq, nat_le, List, [], ◌∷◌, Option, Some, None, option_map, option_and_then, filter, drop, Contains, codes, if◌then◌else◌}
use Rattle.std.specs.List.{list_any, filter_map, flat_map, slice_split, starts_with, before_first, after_first}
use Rattle.std.specs.Map.{lookup}
use Rattle.std.specs.Ordering.{nat_cmp}
use Rattle.std.specs.BTreeMap.{is_at}
use Rattle.rina_graph.specs.declared.graph.Edge.{Edge}
use Rattle.rina_graph.specs.Walks.{IsWalk, IsLeastWalk}
use Rattle.rina_newest.specs.declared.item.Item.{Item}
use Rattle.rina_base.specs.Decimals.{number_of}
use Rattle.rina_route.specs.declared.link.Link.{Link}

abbrev pub edge : ℕ → ℕ → ℕ → Edge
edge from to weight = record { from = from; to = to; weight = weight }

abbrev pub in_weights : ℕ → Option ℕ
in_weights n = if nat_le 1 n && nat_le n 65535 then Some n else None

-- the weight that a text is in decimal
abbrev pub weight_at : List ℕ → Option ℕ
weight_at text = option_and_then in_weights (number_of text)

-- the edge from an address to another at a weight, which are texts
abbrev pub edge_at : ℕ → List ℕ → List ℕ → Option Edge
edge_at from to weight = option_and_then (λ there. option_map (λ w. edge from there w) (weight_at weight)) (number_of to)

-- the edge from an address that a part of its link state claims: an address, a colon and a weight
unfoldable pub claim_at : ℕ → List ℕ → Option Edge
claim_at from part = edge_at from (before_first (λ b. b == 58) part) (after_first (λ b. b == 58) part)

-- the edges from an address that the value of its link state claims: its parts are joined by commas
abbrev pub claims_in : ℕ → List ℕ → List Edge
claims_in from text = filter_map (claim_at from) (slice_split (λ b. b == 44) text)

abbrev pub claims_by : Option ℕ → Option (List ℕ) → List Edge
claims_by (Some from) (Some text) = claims_in from text
claims_by (Some from) None = []
claims_by None value = []

-- the edges that an item claims: those of a live link state, whose key is "/link/" and an address
unfoldable pub claims_of : Item → List Edge
claims_of item = if starts_with nat_eq item.key (codes "/link/") then claims_by (number_of (drop 6 item.key)) item.value else []

-- a link leads to a neighbour at a weight
abbrev pub leads_to : ℕ → ℕ → Link → Bool
leads_to peer weight link = (link.peer == peer) && (link.weight == weight)

abbrev pub has_link : List Link → ℕ → ℕ → Bool
has_link links peer weight = list_any (leads_to peer weight) links

-- at the own address only those edges are up that are over a link of that neighbour and weight
unfoldable pub is_up : ℕ → List Link → Edge → Bool
is_up own links e = if e.from == own then has_link links e.to e.weight else (if e.to == own then has_link links e.from e.weight else true)

-- an edge as the link state at its other end names it
abbrev pub turned : Edge → Edge
turned e = edge e.to e.from e.weight

abbrev pub same_edge : Edge → Edge → Bool
same_edge e other = (other.from == e.from) && (other.to == e.to) && (other.weight == e.weight)

-- an edge is among those that are claimed
abbrev pub is_claimed : List Edge → Edge → Bool
is_claimed claimed e = list_any (same_edge e) claimed

-- an edge that one end claims counts: the other end claims it too, with that weight, and it is up
unfoldable pub counts : ℕ → List Link → List Edge → Edge → Bool
counts own links claimed e = is_claimed claimed (turned e) && is_up own links e

-- the edges that are claimed and count
abbrev pub counted : ℕ → List Link → List Edge → List Edge
counted own links claimed = filter (counts own links claimed) claimed

-- the edges at the own address are over links
abbrev pub HaveLinks : ℕ → List Link → List Edge → Type 0
HaveLinks own links edges = (e : Edge) → Contains edges e → e.from ≡ own → has_link links e.to e.weight ≡ true

-- a least walk begins with an edge
abbrev pub Begins : List Edge → ℕ → ℕ → Edge → Type 0
Begins edges own dst e = (rest : List Edge) × IsLeastWalk edges own dst (e ∷ rest)

-- of the elements that pass a test, the least size
abbrev pub IsLeast : {A : Type 0} → (A → Bool) → (A → ℕ) → List A → ℕ → Type 0
IsLeast {A} test size xs n =
    ((x : A) × Contains xs x × (test x ≡ true) × (size x ≡ n)) × ((x : A) → Contains xs x → test x ≡ true → n ≤ size x)

-- of the elements that pass a test, the least size; none where none passes
abbrev pub IsLeastIfAny : {A : Type 0} → (A → Bool) → (A → ℕ) → List A → Option ℕ → Type 0
IsLeastIfAny {A} test size xs (Some n) = IsLeast test size xs n
IsLeastIfAny {A} test size xs None = (x : A) → Contains xs x → test x ≡ true → ⊥

-- an edge leads from one address to another
abbrev pub joins : ℕ → ℕ → Edge → Bool
joins from to e = (e.from == from) && (e.to == to)

-- the number is the least of the links that lead to a neighbour at a weight
abbrev pub IsLeastLink : List Link → ℕ → ℕ → ℕ → Type 0
IsLeastLink links peer weight number = IsLeast (leads_to peer weight) (λ (l : Link). l.number) links number

-- the link by which a PDU leaves for an address: a least walk begins with an edge to the smallest neighbour to which one begins, and the link is the least of that neighbour at the edge's weight; there is none where no walk leads from the own address to another
abbrev pub IsHop : List Edge → List Link → ℕ → ℕ → Option ℕ → Type 0
IsHop edges links own dst (Some number) = (e : Edge) × Begins edges own dst e × ((other : Edge) → Begins edges own dst other → e.to ≤ other.to) × IsLeastLink links e.to e.weight number
IsHop edges links own dst None = own ≢ dst → (walk : List Edge) → IsWalk edges own walk dst → ⊥

-- the link number in a row of a table
abbrev pub hop_at : List (ℕ × ℕ) → ℕ → Option ℕ
hop_at rows dst = lookup (is_at (nat_cmp dst)) rows

-- each address has its link over the edges that the ends of links claim
abbrev pub AreHops : ℕ → List Link → List Edge → List (ℕ × ℕ) → Type 0
AreHops own links claimed rows = (dst : ℕ) → IsHop (counted own links claimed) links own dst (hop_at rows dst)

-- over those that the items claim
abbrev pub AreRoutes : ℕ → List Link → List Item → List (ℕ × ℕ) → Type 0
AreRoutes own links items rows = AreHops own links (flat_map claims_of items) rows
