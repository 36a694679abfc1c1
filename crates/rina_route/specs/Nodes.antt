-- Addresses that are numbered, in rising order, as the nodes of a graph.
use Rattle.std.specs.Prelude.{ℕ, ◌≤◌, List, Contains, slice_index}
use Rattle.std.specs.List.Sorted.{IsStrictlyIncreasing}
use Rattle.rina_graph.specs.declared.graph.Edge.{Edge}
use Rattle.rina_route.specs.Routes.{edge}

-- the own address and the ends of all edges, in rising order
pub record AreNodes (own : ℕ) (edges : List Edge) (nodes : List ℕ) : Type 0 where
  pub rise : IsStrictlyIncreasing nodes
  pub begins : Contains nodes own
  pub ends : (e : Edge) → Contains edges e → Contains nodes e.from × Contains nodes e.to

-- an edge between numbers is one between addresses
abbrev pub lifted : List ℕ → Edge → Edge
lifted nodes e = edge (slice_index nodes e.from) (slice_index nodes e.to) e.weight

-- each edge has a weight
abbrev pub HaveWeights : List Edge → Type 0
HaveWeights edges = (e : Edge) → Contains edges e → 1 ≤ e.weight
