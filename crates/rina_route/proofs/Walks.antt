-- Walks between numbers, and the same walks between the addresses that these stand for.
use Rattle.std.proofs.Common.{◌≡◌, ◌∙◌, ℕ, ◌+◌, ◌<◌, ◌≤◌, List, [], ◌∷◌, Option, Some, None, Contains, length, map, get_or, refl, sym, ap, subst, arith}
use Rattle.std.specs.List.Sorted.{IsStrictlyIncreasing}
use Rattle.std.proofs.lemmas.List.Sums.{sum_by-cons}
use Rattle.rina_graph.specs.declared.graph.Edge.{Edge}
use Rattle.rina_graph.specs.Walks.{AreEdges, IsWalk, weight_of, first_of, IsLeastWalk, IsLabel, IsFirstStep}
use Rattle.rina_route.specs.Nodes.{lifted}
use Rattle.rina_route.specs.Routes.{Begins}
use Rattle.rina_route.proofs.Lists.{contains_map, contains_unmap}
use Rattle.rina_route.proofs.Numbers.{at_most, injective}

weight_cons : (e : Edge) (walk : List Edge) → weight_of (e ∷ walk) ≡ e.weight + weight_of walk
weight_cons e walk = sum_by-cons (λ (x : Edge). x.weight) e walk

pub weight_up : (nodes : List ℕ) (walk : List Edge) → weight_of (map (lifted nodes) walk) ≡ weight_of walk
weight_up nodes [] = refl
weight_up nodes (e ∷ walk) = omega (arith, weight_cons (lifted nodes e) (map (lifted nodes) walk), weight_cons e walk, weight_up nodes walk)

module _ (nodes : List ℕ) (graph : List Edge) (rise : IsStrictlyIncreasing nodes) (sound : AreEdges (length nodes) graph) where
  abbrev pub edges : List Edge
  edges = map (lifted nodes) graph

  abbrev pub name : ℕ → ℕ
  name k = get_or nodes k 0

  pub walk_up : (a b : ℕ) (walk : List Edge) → IsWalk graph a walk b → IsWalk edges (name a) (map (lifted nodes) walk) (name b)
  walk_up a b [] h = ap name h
  walk_up a b (e ∷ walk) h = (contains_map (lifted nodes) graph e h.0, ap name h.1, walk_up e.to b walk h.2)

  -- a walk between addresses from that of a number
  pub walk_down : (walk : List Edge) (a y : ℕ) → a < length nodes → IsWalk edges (name a) walk y → (low : List Edge) × (b : ℕ) × (b < length nodes) × (name b ≡ y) × IsWalk graph a low b × (map (lifted nodes) low ≡ walk)
  walk_down [] a y lt h = ([], a, lt, h, refl, refl)
  walk_down (e ∷ walk) a y lt h =
      let d = contains_unmap (lifted nodes) graph e h.0 in
      let ok = sound d.0 d.1 in
      let from_is : d.0.from ≡ a = injective nodes rise d.0.from a ok.0 lt (ap (λ (x : Edge). x.from) d.2 ∙ h.1) in
      let to_is : name d.0.to ≡ e.to = ap (λ (x : Edge). x.to) d.2 in
      let r = walk_down walk d.0.to y ok.1 (subst (λ n. IsWalk edges n walk y) (sym to_is) h.2) in
      (d.0 ∷ r.0, r.1, r.2, r.3, (d.1, from_is, r.4), (λ i. d.2 i ∷ r.5 i))

  pub least_up : (a b : ℕ) (walk : List Edge) → a < length nodes → b < length nodes → IsLeastWalk graph a b walk → IsLeastWalk edges (name a) (name b) (map (lifted nodes) walk)
  least_up a b walk lt_a lt_b l = record {
    is_walk = walk_up a b walk l.is_walk;
    least = λ other h.
        let r = walk_down other a (name b) lt_a h in
        let same : r.1 ≡ b = injective nodes rise r.1 b r.2 lt_b r.3 in
        let le : weight_of walk ≤ weight_of r.0 = l.least r.0 (subst (λ n. IsWalk graph a r.0 n) same r.4) in
        omega (arith, le, weight_up nodes walk, weight_up nodes r.0, ap weight_of r.5);
  }

  pub least_down : (a b : ℕ) (walk : List Edge) → a < length nodes → b < length nodes → IsLeastWalk edges (name a) (name b) walk → (low : List Edge) × IsLeastWalk graph a b low × (map (lifted nodes) low ≡ walk)
  least_down a b walk lt_a lt_b l =
      let r = walk_down walk a (name b) lt_a l.is_walk in
      let same : r.1 ≡ b = injective nodes rise r.1 b r.2 lt_b r.3 in
      let low : IsLeastWalk graph a b r.0 = record {
        is_walk = subst (λ n. IsWalk graph a r.0 n) same r.4;
        least = λ other h. let le : weight_of walk ≤ weight_of (map (lifted nodes) other) = l.least (map (lifted nodes) other) (walk_up a b other h) in omega (arith, le, weight_up nodes other, weight_up nodes r.0, ap weight_of r.5);
      } in
      (r.0, low, r.5)

  -- a least walk that has a first step begins with an edge to it
  step_of : (a b f : ℕ) (walk : List Edge) → IsLeastWalk graph a b walk → first_of walk ≡ Some f → (e : Edge) × (rest : List Edge) × IsLeastWalk graph a b (e ∷ rest) × (e.to ≡ f)
  step_of a b f [] l is = absurd cc
  step_of a b f (e ∷ rest) l is = (e, rest, l, cc)

  pub begins : (a b f : ℕ) → IsFirstStep graph a b (Some f) → (e : Edge) × (rest : List Edge) × IsLeastWalk graph a b (e ∷ rest) × (e.to ≡ f)
  begins a b f first = step_of a b f first.0.0 first.0.1 first.0.2

  pub first_within : (a b f : ℕ) → IsFirstStep graph a b (Some f) → f < length nodes
  first_within a b f first =
      let h = begins a b f first in
      let lt : h.0.to < length nodes = (sound h.0 h.2.is_walk.0).1 in
      omega (arith, lt, h.3)

  -- no edge between the same nodes weighs less than the first of a least walk
  pub first_least : (a b : ℕ) (e other : Edge) (rest : List Edge) → IsLeastWalk graph a b (e ∷ rest) → Contains graph other → other.from ≡ a → other.to ≡ e.to → e.weight ≤ other.weight
  first_least a b e other rest l among from to =
      let walk : IsWalk graph a (other ∷ rest) b = (among, from, subst (λ n. IsWalk graph n rest b) (sym to) l.is_walk.2) in
      let le : weight_of (e ∷ rest) ≤ weight_of (other ∷ rest) = l.least (other ∷ rest) walk in
      omega (arith, le, weight_cons e rest, weight_cons other rest)

  -- no least walk begins with an edge to a smaller address
  smallest_by : (a b f : ℕ) (other : Edge) (rest low : List Edge) → IsFirstStep graph a b (Some f) → IsLeastWalk graph a b low → map (lifted nodes) low ≡ other ∷ rest → name f ≤ other.to
  smallest_by a b f other rest [] first l is = absurd cc
  smallest_by a b f other rest (e ∷ low) first l is =
      let one : lifted nodes e ≡ other = cc in
      let le : f ≤ e.to = first.1 (e ∷ low) e.to l refl in
      let lt : e.to < length nodes = (sound e l.is_walk.0).1 in
      let small : name f ≤ name e.to = at_most nodes rise f e.to le lt in
      let to_is : name e.to ≡ other.to = ap (λ (x : Edge). x.to) one in
      omega (arith, small, to_is)

  pub smallest : (a b f : ℕ) (other : Edge) → a < length nodes → b < length nodes → IsFirstStep graph a b (Some f) → Begins edges (name a) (name b) other → name f ≤ other.to
  smallest a b f other lt_a lt_b first h =
      let r = least_down a b (other ∷ h.0) lt_a lt_b h.1 in
      smallest_by a b f other h.0 r.0 first r.1 r.2

  -- where no least walk has a step, no walk leads to another node
  none_by : (a b : ℕ) (walk : List Edge) (label : Option ℕ) → IsLabel graph a b label → IsFirstStep graph a b None → IsWalk graph a walk b → (a ≡ b → ⊥) → ⊥
  none_by a b walk None label first h apart = label walk h
  none_by a b walk (Some w) label first h apart =
      let empty : label.0 ≡ [] = first label.0 label.1 in
      apart (subst (λ (es : List Edge). IsWalk graph a es b) empty label.1.is_walk)

  pub no_walk : (a b : ℕ) (label : Option ℕ) → a < length nodes → b < length nodes → IsLabel graph a b label → IsFirstStep graph a b None → (name a ≡ name b → ⊥) → (walk : List Edge) → IsWalk edges (name a) walk (name b) → ⊥
  no_walk a b label lt_a lt_b is first apart walk h =
      let r = walk_down walk a (name b) lt_a h in
      let same : r.1 ≡ b = injective nodes rise r.1 b r.2 lt_b r.3 in
      none_by a b r.0 label is first (subst (λ n. IsWalk graph a r.0 n) same r.4) (λ e. apart (ap name e))
