-- The least weights of the edges from one node, and the least links to its neighbours.
use Rattle.std.specs.Prelude.{◌≡◌, ℕ, ◌<◌, List, Option, None, length, map, slice_index, slice_index_or}
use Rattle.rina_graph.specs.declared.graph.Edge.{Edge}
use Rattle.std.specs.Map.{lookup}
use Rattle.std.specs.Ordering.{nat_cmp, ordering_then}
use Rattle.std.specs.declared.cmp.Ordering.{Ordering}
use Rattle.std.specs.BTreeMap.{is_at}
use Rattle.std.specs.List.Sorted.{IsStrictlyIncreasing}
use Rattle.rina_graph.specs.declared.tree.Reach.{Reach}
use Rattle.rina_graph.specs.Walks.{AreEdges, IsTree}
use Rattle.rina_route.specs.declared.link.Link.{Link}
use Rattle.rina_route.specs.Nodes.{lifted}
use Rattle.rina_route.specs.Routes.{joins, leads_to, HaveLinks, IsLeastIfAny}

-- for each node the least weight of an edge to it, none where no edge leads to it
pub record AreWeights (start : ℕ) (edges : List Edge) (nodes : ℕ) (weights : List (Option ℕ)) : Type 0 where
  pub long : length weights ≡ nodes
  pub least : (to : ℕ) → to < nodes → IsLeastIfAny (joins start to) (λ (e : Edge). e.weight) edges (slice_index_or weights to None)

-- keys are compared by their first part, then by their second
abbrev pub ends_cmp : ℕ × ℕ → ℕ × ℕ → Ordering
ends_cmp k l = ordering_then (nat_cmp k.0 l.0) (nat_cmp k.1 l.1)

-- the link that is kept for a neighbour and a weight
abbrev pub link_at : List ((ℕ × ℕ) × ℕ) → ℕ × ℕ → Option ℕ
link_at least ends = lookup (is_at (ends_cmp ends)) least

-- for each neighbour and weight the least link
abbrev pub AreLeastLinks : List Link → List ((ℕ × ℕ) × ℕ) → Type 0
AreLeastLinks links least = (ends : ℕ × ℕ) → IsLeastIfAny (leads_to ends.0 ends.1) (λ (l : Link). l.number) links (link_at least ends)

-- a graph of numbered addresses, with the least weights of the edges from the node at the start, and the least walks from it
pub record IsSearched (start : ℕ) (edges : List Edge) (nodes : List ℕ) (links : List Link) (weights : List (Option ℕ)) (tree : List (Option Reach)) : Type 0 where
  pub rise : IsStrictlyIncreasing nodes
  pub sound : AreEdges (length nodes) edges
  pub inside : start < length nodes
  pub weighed : AreWeights start edges (length nodes) weights
  pub walked : IsTree edges start tree
  pub linked : HaveLinks (slice_index nodes start) links (map (lifted nodes) edges)
