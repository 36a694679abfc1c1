-- Edges in the order of the nodes from which they lead: those from one node stand together, and walks are the same.
use Rattle.std.proofs.Common.{◌≡◌, ◌∙◌, ℕ, zero, suc, ◌+◌, ◌<◌, ◌≤◌, ◌==◌, false, List, [], ◌∷◌, Option, Some, None, Contains, length, get_or, take, drop, nat_lt, true, ◌-◌, refl, sym, ap, subst, arith}
use Rattle.std.specs.List.Sorted.{IsNonDecreasingBy, IsPartitionPoint, IsPartitionedBy, IsPermutation}
use Rattle.std.proofs.lemmas.List.Sorted.{Contains-permutation, IsPermutation-sym}
use Rattle.std.proofs.lemmas.List.{take_all, length-drop, get_or-drop, get_or_default}
use Rattle.std.proofs.lemmas.List.Elements.{Contains-get_or}
use Rattle.std.proofs.lemmas.Bool.Decides.{nat_tests}
use Rattle.rina_graph.specs.declared.graph.Edge.{Edge}
use Rattle.rina_graph.specs.declared.tree.Reach.{Reach}
use Rattle.rina_graph.specs.Walks.{AreEdges, IsWalk, IsLeastWalk, IsLabel, IsFirstStep, IsTree, label_at, first_at}
use Rattle.rina_graph.specs.Search.{followed_all, from_of}
use Rattle.rina_graph.proofs.Reached.{Nodes}

nowhere : Edge
nowhere = record { from = 0; to = 0; weight = 0 }

-- edges from other nodes are not followed
pub skips : (node : ℕ) (r : Reach) (es : List Edge) (reached : Nodes) → ((k : ℕ) (d : Edge) → k < length es → ((get_or es k d).from == node) ≡ false) → followed_all node r es reached ≡ reached
skips node r [] reached none = refl
skips node r (e ∷ es) reached none =
    let first : (e.from == node) ≡ false = none 0 e (omega arith) in
    rw first (skips node r es reached (λ k d lt. none (suc k) d (omega (arith, lt))))

pub skips_first : (node : ℕ) (r : Reach) (i : ℕ) (es : List Edge) (reached : Nodes) → ((k : ℕ) (d : Edge) → k < i → k < length es → ((get_or es k d).from == node) ≡ false) → followed_all node r (drop i es) reached ≡ followed_all node r es reached
skips_first node r zero es reached none = refl
skips_first node r (suc i) [] reached none = refl
skips_first node r (suc i) (e ∷ es) reached none =
    let first : (e.from == node) ≡ false = none 0 e (omega arith) (omega arith) in
    rw first (skips_first node r i es reached (λ k d lt within. none (suc k) d (omega (arith, lt)) (omega (arith, within))))

-- the edges from a place on
part_is : (i : ℕ) (es : List Edge) → take (length es - i) (drop i es) ≡ drop i es
part_is i es = let long = length-drop i es in take_all (length es - i) (drop i es) (omega arith)

module _ (node : ℕ) (r : Reach) (es : List Edge) (rise : IsNonDecreasingBy from_of es) (i : ℕ) (le : i ≤ length es) (at : IsPartitionPoint (λ e. nat_lt (from_of e) node ≡ true) (λ e. nat_lt (from_of e) node ≡ false) es i) where
  -- no edge before the place is from the node
  pub from_place : (reached : Nodes) → followed_all node r (take (length es - i) (drop i es)) reached ≡ followed_all node r es reached
  from_place reached =
      rw (part_is i es) (skips_first node r i es reached (λ k d lt within. let h = at.0 k d (omega arith) lt in grind (arith, nat_tests, h)))

  -- where one behind it is from another node, none behind that one is from the node
  pub past_place : (k : ℕ) (d : Edge) (reached : Nodes) → k < length (take (length es - i) (drop i es)) → ((get_or (take (length es - i) (drop i es)) k d).from ≡ node → ⊥) → followed_all node r (drop k (take (length es - i) (drop i es))) reached ≡ reached
  past_place k d reached lt apart = skips node r (drop k (take (length es - i) (drop i es))) reached others
    where
      part : List Edge
      part = take (length es - i) (drop i es)

      here : (j : ℕ) (b : Edge) → get_or part j b ≡ get_or es (i + j) b
      here j b = ap (λ l. get_or l j b) (part_is i es) ∙ get_or-drop i es j b

      long : length part ≡ length es - i
      long = ap length (part_is i es) ∙ length-drop i es

      others : (j : ℕ) (b : Edge) → j < length (drop k part) → ((get_or (drop k part) j b).from == node) ≡ false
      others j b within =
          let all = length-drop k part in
          let behind : from_of (get_or es (i + k) b) ≤ from_of (get_or es (i + (k + j)) b) = rise (i + k) (i + (k + j)) b (omega arith) (omega (arith, long)) in
          let low = at.1 (i + k) b (omega arith) (omega (arith, long)) in
          let first : from_of (get_or part k d) ≡ from_of (get_or es (i + k) b) = ap from_of (get_or_default part k d b lt ∙ here k b) in
          let one : from_of (get_or (drop k part) j b) ≡ from_of (get_or es (i + (k + j)) b) = ap from_of (get_or-drop k part j b ∙ here (k + j) b) in
          grind (arith, nat_tests, behind, low, first, one, apart)

-- where the edges from smaller nodes end
pub place : (node : ℕ) (es : List Edge) → IsNonDecreasingBy from_of es → IsPartitionedBy (λ e. nat_lt (from_of e) node) es
place node es rise i j d le lt h = let least : from_of (get_or es i d) ≤ from_of (get_or es j d) = rise i j d le lt in grind (arith, nat_tests, least, h)

-- each edge of a place on leads where all edges lead
pub inside_from : (nodes : ℕ) (es : List Edge) (i k : ℕ) (d : Edge) → AreEdges nodes es → k < length (take (length es - i) (drop i es)) → (get_or (take (length es - i) (drop i es)) k d).to < nodes
inside_from nodes es i k d sound lt =
    let long : length (take (length es - i) (drop i es)) ≡ length es - i = ap length (part_is i es) ∙ length-drop i es in
    let here : get_or (take (length es - i) (drop i es)) k d ≡ get_or es (i + k) d = ap (λ l. get_or l k d) (part_is i es) ∙ get_or-drop i es k d in
    rw here (sound (get_or es (i + k) d) (Contains-get_or es (i + k) d (omega (arith, lt, long)))).1

-- ---- walks over lists with the same edges
abbrev pub Within : List Edge → List Edge → Type 0
Within es fs = (e : Edge) → Contains es e → Contains fs e

-- the sorted edges, which are a vector's, are those of the graph
pub back_from : (es fs gs : List Edge) → IsPermutation es fs → gs ≡ fs → Within gs es
back_from es fs gs moved is e among = Contains-permutation fs es e (IsPermutation-sym es fs moved) (subst (λ l. Contains l e) is among)

pub on_to : (es fs gs : List Edge) → IsPermutation es fs → gs ≡ fs → Within es gs
on_to es fs gs moved is e among = subst (λ l. Contains l e) (sym is) (Contains-permutation es fs e moved among)

walk_to : (es fs : List Edge) → Within es fs → (walk : List Edge) (a b : ℕ) → IsWalk es a walk b → IsWalk fs a walk b
walk_to es fs to [] a b h = h
walk_to es fs to (e ∷ walk) a b h = (to e h.0, h.1, walk_to es fs to walk e.to b h.2)

least_to : (es fs : List Edge) → Within es fs → Within fs es → (walk : List Edge) (a b : ℕ) → IsLeastWalk es a b walk → IsLeastWalk fs a b walk
least_to es fs to back walk a b l = record { is_walk = walk_to es fs to walk a b l.is_walk; least = λ other h. l.least other (walk_to fs es back other a b h) }

module _ (es fs : List Edge) (to : Within es fs) (back : Within fs es) (a b : ℕ) where
  label_to : (label : Option ℕ) → IsLabel es a b label → IsLabel fs a b label
  label_to None h = λ walk walks. h walk (walk_to fs es back walk a b walks)
  label_to (Some n) h = (h.0, least_to es fs to back h.0 a b h.1, h.2)

  first_to : (first : Option ℕ) → IsFirstStep es a b first → IsFirstStep fs a b first
  first_to None h = λ walk l. h walk (least_to fs es back to walk a b l)
  first_to (Some x) h = ((h.0.0, least_to es fs to back h.0.0 a b h.0.1, h.0.2), λ walk y l is. h.1 walk y (least_to fs es back to walk a b l) is)

pub tree_to : (es fs : List Edge) (start : ℕ) (reached : Nodes) → Within es fs → Within fs es → IsTree es start reached → IsTree fs start reached
tree_to es fs start reached to back tree = record {
  labels = λ node. label_to es fs to back start node (label_at reached node) (tree.labels node);
  first_steps = λ node. first_to es fs to back start node (first_at reached node) (tree.first_steps node);
}
