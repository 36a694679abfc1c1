-- The link of the first step of a least walk.
use Rattle.std.proofs.Common.{◌≡◌, ◌∙◌, ℕ, ◌<◌, ◌≤◌, true, List, ◌∷◌, Option, Some, None, Contains, length, map, get_or, sym, ap, subst, arith}
use Rattle.std.specs.List.Sorted.{IsStrictlyIncreasing}
use Rattle.std.proofs.lemmas.Bool.Decides.{nat_tests}
use Rattle.rina_graph.specs.declared.graph.Edge.{Edge}
use Rattle.rina_graph.specs.declared.tree.Reach.{Reach}
use Rattle.rina_graph.specs.Walks.{AreEdges, IsFirstStep, IsTree, first_at, label_at}
use Rattle.rina_route.specs.declared.link.Link.{Link}
use Rattle.rina_route.specs.Nodes.{lifted}
use Rattle.rina_route.specs.Routes.{leads_to, joins, IsLeast, IsLeastIfAny, HaveLinks, IsHop}
use Rattle.rina_route.proofs.Lists.{contains_map, contains_any}
use Rattle.rina_route.proofs.Walks.{least_up, begins, first_within, first_least, smallest, no_walk}

-- an edge that joins two nodes is from the one to the other
joined : (a b : ℕ) (e : Edge) → joins a b e ≡ true → (e.from ≡ a) × (e.to ≡ b)
joined a b e h = (grind (arith, nat_tests, h), grind (arith, nat_tests, h))

joins_is : (a b : ℕ) (e : Edge) → e.from ≡ a → e.to ≡ b → joins a b e ≡ true
joins_is a b e from to = grind (arith, nat_tests, from, to)

module _ (nodes : List ℕ) (graph : List Edge) (links : List Link) (start at : ℕ) (tree : List (Option Reach)) (rise : IsStrictlyIncreasing nodes) (sound : AreEdges (length nodes) graph) (lt_start : start < length nodes) (lt_at : at < length nodes) (is_tree : IsTree graph start tree) where
  abbrev Hop : Option ℕ → Type 0
  Hop r = IsHop (map (lifted nodes) graph) links (get_or nodes start 0) (get_or nodes at 0) r

  step : (o : Option ℕ) → o ≡ first_at tree at → IsFirstStep graph start at o
  step o is = subst (IsFirstStep graph start at) (sym is) (is_tree.first_steps at)

  -- there is no first step
  pub hop_none : None ≡ first_at tree at → Hop None
  hop_none is apart walk h = no_walk nodes graph rise sound start at (label_at tree at) lt_start lt_at (is_tree.labels at) (step None is) apart walk h

  pub first_in : (f : ℕ) → Some f ≡ first_at tree at → f < length nodes
  first_in f is = first_within nodes graph rise sound start at f (step (Some f) is)

  -- there is an edge to the first step
  pub some_weight : (f : ℕ) → Some f ≡ first_at tree at → IsLeastIfAny (joins start f) (λ (e : Edge). e.weight) graph None → ⊥
  some_weight f is none =
      let h = begins nodes graph rise sound start at f (step (Some f) is) in
      none h.0 h.2.is_walk.0 (joins_is start f h.0 h.2.is_walk.1 h.3)

  -- its least weight is that of the first edge of a least walk
  weight_is : (f w : ℕ) (e : Edge) (rest : List Edge) → IsLeast (joins start f) (λ (x : Edge). x.weight) graph w → (begun : Contains graph e × (e.from ≡ start) × (e.to ≡ f)) → ((other : Edge) → Contains graph other → other.from ≡ start → other.to ≡ e.to → e.weight ≤ other.weight) → e.weight ≡ w
  weight_is f w e rest least begun first =
      let le : w ≤ e.weight = least.1 e begun.0 (joins_is start f e begun.1 begun.2) in
      let ends = joined start f least.0.0 least.0.2 in
      let ge : e.weight ≤ least.0.0.weight = first least.0.0 least.0.1 ends.0 (ends.1 ∙ sym begun.2) in
      omega (arith, le, ge, least.0.3)

  -- a link leads to the first step at that weight
  hop_by : (f w : ℕ) (e : Edge) (r : Option ℕ) → ((n : ℕ) → IsLeast (leads_to (get_or nodes e.to 0) e.weight) (λ (l : Link). l.number) links n → Hop (Some n)) → (link : Link) → Contains links link → leads_to (get_or nodes e.to 0) e.weight link ≡ true → e.to ≡ f → e.weight ≡ w → IsLeastIfAny (leads_to (get_or nodes f 0) w) (λ (l : Link). l.number) links r → Hop r
  hop_by f w e None made link among leads to weight none =
      absurd (none link among (subst (λ n. leads_to (get_or nodes n 0) w link ≡ true) to (subst (λ v. leads_to (get_or nodes e.to 0) v link ≡ true) weight leads)))
  hop_by f w e (Some n) made link among leads to weight least =
      made n (subst (λ m. IsLeast (leads_to (get_or nodes m 0) e.weight) (λ (l : Link). l.number) links n) (sym to) (subst (λ v. IsLeast (leads_to (get_or nodes f 0) v) (λ (l : Link). l.number) links n) (sym weight) least))

  pub hop_some : (f w : ℕ) (r : Option ℕ) → Some f ≡ first_at tree at → HaveLinks (get_or nodes start 0) links (map (lifted nodes) graph) → IsLeast (joins start f) (λ (e : Edge). e.weight) graph w → IsLeastIfAny (leads_to (get_or nodes f 0) w) (λ (l : Link). l.number) links r → Hop r
  hop_some f w r is have least linked =
      let h = begins nodes graph rise sound start at f (step (Some f) is) in
      let e : Edge = h.0 in
      let begun : Contains graph e × (e.from ≡ start) × (e.to ≡ f) = (h.2.is_walk.0, h.2.is_walk.1, h.3) in
      let weight : e.weight ≡ w = weight_is f w e h.1 least begun (λ other among from to. first_least nodes graph rise sound start at e other h.1 h.2 among from to) in
      let link = contains_any (leads_to (get_or nodes e.to 0) e.weight) links (have (lifted nodes e) (contains_map (lifted nodes) graph e begun.0) (ap (λ k. get_or nodes k 0) begun.1)) in
      hop_by f w e r (λ n number. (
        lifted nodes e,
        (map (lifted nodes) h.1, least_up nodes graph rise sound start at (e ∷ h.1) lt_start lt_at h.2),
        (λ other begin. subst (λ k. get_or nodes k 0 ≤ other.to) (sym h.3) (smallest nodes graph rise sound start at f other lt_start lt_at (step (Some f) is) begin)),
        number,
      )) link.0 link.1 link.2 h.3 weight linked

pub sound_is : (m n : ℕ) (seen graph : List Edge) → seen ≡ graph → m ≡ n → AreEdges m seen → AreEdges n graph
sound_is m n seen graph same size sound = subst (λ k. AreEdges k graph) size (subst (λ es. AreEdges m es) same sound)
