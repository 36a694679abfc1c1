-- Walks, and which of them are least.
use Rattle.std.specs.Prelude.{◌≡◌, ℕ, ◌<◌, ◌≤◌, List, [], ◌∷◌, Option, Some, None, Contains, sum_by, option_map, option_and_then, slice_index_or}
use Rattle.rina_graph.specs.declared.graph.Edge.{Edge}
use Rattle.rina_graph.specs.declared.tree.Reach.{Reach}

-- the edges are between nodes of a graph, and each has a weight
abbrev pub AreEdges : ℕ → List Edge → Type 0
AreEdges nodes edges = (e : Edge) → Contains edges e → (e.from < nodes) × (e.to < nodes) × (1 ≤ e.weight) × (e.weight ≤ 65535)

-- edges that meet, and lead from one node to another
abbrev pub IsWalk : List Edge → ℕ → List Edge → ℕ → Type 0
IsWalk edges a [] b = a ≡ b
IsWalk edges a (e ∷ walk) b = Contains edges e × (e.from ≡ a) × IsWalk edges e.to walk b

-- the weight of a walk
abbrev pub weight_of : List Edge → ℕ
weight_of walk = sum_by (λ (e : Edge). e.weight) walk

-- the first node of a walk after its start
abbrev pub first_of : List Edge → Option ℕ
first_of [] = None
first_of (e ∷ walk) = Some e.to

-- a walk, and no walk between the same nodes weighs less
pub record IsLeastWalk (edges : List Edge) (a b : ℕ) (walk : List Edge) : Type 0 where
  pub is_walk : IsWalk edges a walk b
  pub least : (other : List Edge) → IsWalk edges a other b → weight_of walk ≤ weight_of other

-- the label of a node is the weight of a least walk to it, and there is none where no walk reaches it
abbrev pub IsLabel : List Edge → ℕ → ℕ → Option ℕ → Type 0
IsLabel edges a b (Some weight) = (walk : List Edge) × IsLeastWalk edges a b walk × (weight_of walk ≡ weight)
IsLabel edges a b None = (walk : List Edge) → IsWalk edges a walk b → ⊥

-- the first step to a node is the smallest node that is the first of a least walk to it; there is none where no least walk has a step
abbrev pub IsFirstStep : List Edge → ℕ → ℕ → Option ℕ → Type 0
IsFirstStep edges a b (Some x) = ((walk : List Edge) × IsLeastWalk edges a b walk × (first_of walk ≡ Some x)) × ((walk : List Edge) (y : ℕ) → IsLeastWalk edges a b walk → first_of walk ≡ Some y → x ≤ y)
IsFirstStep edges a b None = (walk : List Edge) → IsLeastWalk edges a b walk → walk ≡ []

-- how a node is reached
abbrev pub reach_at : List (Option Reach) → ℕ → Option Reach
reach_at reached node = slice_index_or reached node None

abbrev pub label_at : List (Option Reach) → ℕ → Option ℕ
label_at reached node = option_map (λ (r : Reach). r.weight) (reach_at reached node)

abbrev pub first_at : List (Option Reach) → ℕ → Option ℕ
first_at reached node = option_and_then (λ (r : Reach). r.first) (reach_at reached node)

-- each node has its label and its first step
pub record IsTree (edges : List Edge) (start : ℕ) (reached : List (Option Reach)) : Type 0 where
  pub labels : (node : ℕ) → IsLabel edges start node (label_at reached node)
  pub first_steps : (node : ℕ) → IsFirstStep edges start node (first_at reached node)
