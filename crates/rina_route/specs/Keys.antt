-- Keys of edges and of links: what tells them apart, in rising order.
use Rattle.std.specs.Prelude.{ℕ, List, map}
use Rattle.std.specs.List.Sorted.{IsSorted, IsPermutation}
use Rattle.std.specs.Ordering.{nat_cmp, ordering_then}
use Rattle.std.specs.declared.cmp.Ordering.{Ordering}
use Rattle.rina_route.specs.declared.link.Link.{Link}
use Rattle.rina_route.specs.Weights.{ends_cmp}
use Rattle.rina_graph.specs.declared.graph.Edge.{Edge}

-- the ends of an edge and its weight
abbrev pub key_of : Edge → ℕ × ℕ × ℕ
key_of e = (e.from, e.to, e.weight)

-- keys are compared by their first part, then by their second, then by their third
abbrev pub key_cmp : ℕ × ℕ × ℕ → ℕ × ℕ × ℕ → Ordering
key_cmp k l = ordering_then (ordering_then (nat_cmp k.0 l.0) (nat_cmp k.1 l.1)) (nat_cmp k.2 l.2)

-- the keys of the edges, in rising order
pub record AreKeys (edges : List Edge) (keys : List (ℕ × ℕ × ℕ)) : Type 0 where
  pub rise : IsSorted key_cmp keys
  pub moved : IsPermutation (map key_of edges) keys

-- the neighbour of a link and its weight
abbrev pub ends_of : Link → ℕ × ℕ
ends_of l = (l.peer, l.weight)

-- those of the links, in rising order
pub record AreEnds (links : List Link) (ends : List (ℕ × ℕ)) : Type 0 where
  pub rise : IsSorted ends_cmp ends
  pub moved : IsPermutation (map ends_of links) ends
