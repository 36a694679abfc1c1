-- What one step of the search does: the nodes that are reached over the edges of one node.
use Rattle.std.specs.Prelude.{◌≡◌, ℕ, ◌+◌, ◌<◌, ◌≤◌, Bool, true, false, length, slice_index_or, ◌&&◌, ◌||◌, ◌==◌, nat_lt, List, [], ◌∷◌, Option, Some, None, unwrap_or, slice_set, if◌then◌else◌}
use Rattle.rina_graph.specs.declared.graph.Edge.{Edge}
use Rattle.rina_graph.specs.declared.tree.Reach.{Reach}
use Rattle.rina_graph.specs.Walks.{reach_at}

-- how an edge reaches its end, where its beginning is reached so
abbrev pub over : Reach → Edge → Reach
over r e = record { weight = r.weight + e.weight; first = Some (unwrap_or r.first e.to) }

abbrev pub is_before : Option ℕ → Option ℕ → Bool
is_before (Some x) (Some y) = nat_lt x y
is_before _ _ = false

-- the first weighs less, or as much with a smaller first step
unfoldable pub is_better : Reach → Reach → Bool
is_better r s = nat_lt r.weight s.weight || ((r.weight == s.weight) && is_before r.first s.first)

-- the better of an offer and what is there
abbrev pub better_of : Reach → Option Reach → Reach
better_of r None = r
better_of r (Some s) = if is_better r s then r else s

-- the nodes after one edge was followed from a node that is reached so
abbrev pub followed : List (Option Reach) → Reach → Edge → List (Option Reach)
followed reached r e = slice_set reached e.to (Some (better_of (over r e) (reach_at reached e.to)))

-- the nodes after all edges from one node were followed
abbrev pub followed_all : ℕ → Reach → List Edge → List (Option Reach) → List (Option Reach)
followed_all node r [] reached = reached
followed_all node r (e ∷ edges) reached = followed_all node r edges (if e.from == node then followed reached r e else reached)

-- the node from which an edge leads
abbrev pub from_of : Edge → ℕ
from_of e = e.from

abbrev pub is_settled : List Bool → ℕ → Bool
is_settled settled node = slice_index_or settled node false

-- a node is reached so, and not settled
abbrev pub IsOpen : List (Option Reach) → List Bool → ℕ → Reach → Type 0
IsOpen reached settled node r = (node < length reached) × (reach_at reached node ≡ Some r) × (is_settled settled node ≡ false)

-- no node below a number that is reached and not settled weighs less
abbrev pub IsNearest : List (Option Reach) → List Bool → ℕ → ℕ → Type 0
IsNearest reached settled below weight = (node : ℕ) (r : Reach) → node < below → reach_at reached node ≡ Some r → is_settled settled node ≡ false → weight ≤ r.weight

-- each node below a number that is reached is settled
abbrev pub AllSettled : List (Option Reach) → List Bool → ℕ → Type 0
AllSettled reached settled below = (node : ℕ) (r : Reach) → node < below → reach_at reached node ≡ Some r → is_settled settled node ≡ true
