-- The least weights of the edges so far, and the least links so far.
use Rattle.std.proofs.Common.{◌≡◌, ◌∙◌, ℕ, ◌+◌, ◌<◌, ◌≤◌, min, ⊎_elim, true, false, List, [], Option, Some, None, MatchOption, length, take, get_or, set, Bool, refl, sym, ap, subst, arith}
use Rattle.std.proofs.lemmas.Bool.{cases_eq}
use Rattle.std.proofs.lemmas.Bool.Decides.{nat_tests}
use Rattle.std.proofs.lemmas.List.{get_or-set_same, get_or-set_other, get_or_default, length-set}
use Rattle.std.specs.BTreeMap.{is_at}
use Rattle.std.specs.Cmp.{both_tied, unsigned_ties}
use Rattle.rina_route.specs.declared.link.Link.{Link}
use Rattle.rina_graph.specs.declared.graph.Edge.{Edge}
use Rattle.rina_route.specs.Routes.{joins, leads_to, IsLeastIfAny}
use Rattle.rina_route.specs.Weights.{AreWeights, ends_cmp, link_at, AreLeastLinks}
use Rattle.rina_route.proofs.Least.{least_passed, least_taken, least_all}
use Rattle.rina_route.proofs.Lists.{in_none}

abbrev weight : Edge → ℕ
weight e = e.weight

-- before the first edge there is none
pub weights_none : (start nodes : ℕ) (weights : List (Option ℕ)) → length weights ≡ nodes → ((to : ℕ) → get_or weights to None ≡ None) → AreWeights start [] nodes weights
weights_none start nodes weights long none = record { long = long; least = λ to lt. subst (IsLeastIfAny (joins start to) weight []) (sym (none to)) (λ e among yes. in_none e among) }

-- what is read of a node that has a place
pub offered : (old : List (Option ℕ)) (to w m : ℕ) (seen : Option ℕ) → to < length old → seen ≡ get_or old to seen → MatchOption seen (m ≡ w) (λ n. m ≡ min n w) → MatchOption (get_or old to None) (m ≡ w) (λ n. m ≡ min n w)
offered old to w m seen lt is least = subst (λ o. MatchOption o (m ≡ w) (λ n. m ≡ min n w)) (is ∙ get_or_default old to seen None lt) least

module _ (start nodes : ℕ) (edges : List Edge) (i : ℕ) (d : Edge) (old new : List (Option ℕ)) (lt : i < length edges) (before : AreWeights start (take i edges) nodes old) where
  -- an edge from another node
  pub weights_same : ((get_or edges i d).from ≡ start → ⊥) → new ≡ old → AreWeights start (take (i + 1) edges) nodes new
  weights_same apart same = record {
    long = ap length same ∙ before.long;
    least = λ to within.
        let fails : joins start to (get_or edges i d) ≡ false = grind (arith, nat_tests, apart) in
        least_passed (joins start to) weight edges i d (get_or old to None) (get_or new to None) lt fails (ap (λ ws. get_or ws to None) same) (before.least to within);
  }

  -- an edge from the node
  pub weights_put : (m : ℕ) → (get_or edges i d).from ≡ start → (get_or edges i d).to < nodes → MatchOption (get_or old (get_or edges i d).to None) (m ≡ (get_or edges i d).weight) (λ n. m ≡ min n (get_or edges i d).weight) → new ≡ set old (get_or edges i d).to (Some m) → AreWeights start (take (i + 1) edges) nodes new
  weights_put m from inside is same = record {
    long = ap length same ∙ length-set old (get_or edges i d).to (Some m) ∙ before.long;
    least = λ to within. ⊎_elim
        (λ here.
        let passes : joins start (get_or edges i d).to (get_or edges i d) ≡ true = grind (arith, nat_tests, from) in
        let put : get_or new (get_or edges i d).to None ≡ Some m = ap (λ ws. get_or ws (get_or edges i d).to None) same ∙ get_or-set_same old (get_or edges i d).to (Some m) None (omega (arith, inside, before.long)) in
        subst (λ n. IsLeastIfAny (joins start n) weight (take (i + 1) edges) (get_or new n None)) (sym here) (least_taken (joins start (get_or edges i d).to) weight edges i d (get_or old (get_or edges i d).to None) (get_or new (get_or edges i d).to None) m lt passes is put (before.least (get_or edges i d).to inside)))
        (λ apart.
        let fails : joins start to (get_or edges i d) ≡ false = grind (arith, nat_tests, apart) in
        let kept : get_or new to None ≡ get_or old to None = ap (λ ws. get_or ws to None) same ∙ get_or-set_other old (get_or edges i d).to to (Some m) None apart in
        least_passed (joins start to) weight edges i d (get_or old to None) (get_or new to None) lt fails kept (before.least to within))
        (cases_eq to (get_or edges i d).to);
  }

pub weights_all : (start nodes : ℕ) (edges : List Edge) (i : ℕ) (weights : List (Option ℕ)) → length edges ≤ i → AreWeights start (take i edges) nodes weights → AreWeights start edges nodes weights
weights_all start nodes edges i weights le are = record { long = are.long; least = λ to within. least_all (joins start to) weight edges i (get_or weights to None) le (are.least to within) }

-- the weights are those of the graph
pub weights_of : (start nodes : ℕ) (seen edges : List Edge) (weights items : List (Option ℕ)) → seen ≡ edges → weights ≡ items → AreWeights start seen nodes items → AreWeights start edges nodes weights
weights_of start nodes seen edges weights items same is are = subst (λ es. AreWeights start es nodes weights) same (subst (AreWeights start seen nodes) (sym is) are)

-- ---- the least link for each neighbour and weight
leads_is : (l : Link) (ends : ℕ × ℕ) → leads_to ends.0 ends.1 l ≡ is_at (ends_cmp (l.peer, l.weight)) ends
leads_is l ends = both_tied _ _ _ _ (unsigned_ties l.peer ends.0) (unsigned_ties l.weight ends.1)

module _ (links : List Link) (i : ℕ) (d : Link) (old new : List ((ℕ × ℕ) × ℕ)) (m : ℕ) (lt : i < length links) where
  abbrev next : Link
  next = get_or links i d

  abbrev key : ℕ × ℕ
  key = (next.peer, next.weight)

  abbrev Least : ℕ × ℕ → Option ℕ → Type 0
  Least ends = IsLeastIfAny (leads_to ends.0 ends.1) (λ (l : Link). l.number) (take (i + 1) links)

  links_by : (ends : ℕ × ℕ) (b : Bool) → leads_to ends.0 ends.1 next ≡ b → MatchOption (link_at old key) (m ≡ next.number) (λ n. m ≡ min n next.number) → link_at new key ≡ Some m → ((q : ℕ × ℕ) → is_at (ends_cmp key) q ≡ false → link_at new q ≡ link_at old q) → AreLeastLinks (take i links) old → Least ends (link_at new ends)
  links_by ends true leads is put others before =
      let peer : next.peer ≡ ends.0 = grind (arith, nat_tests, leads) in
      let heavy : next.weight ≡ ends.1 = grind (arith, nat_tests, leads) in
      let passes : leads_to next.peer next.weight next ≡ true = grind (arith, nat_tests) in
      let same : key ≡ ends = λ j. (peer j, heavy j) in
      subst (λ q. Least q (link_at new q)) same (least_taken (leads_to next.peer next.weight) (λ (l : Link). l.number) links i d (link_at old key) (link_at new key) m lt passes is put (before key))
  links_by ends false leads is put others before =
      least_passed (leads_to ends.0 ends.1) (λ (l : Link). l.number) links i d (link_at old ends) (link_at new ends) lt leads (others ends (sym (leads_is next ends) ∙ leads)) (before ends)

  pub links_put : MatchOption (link_at old key) (m ≡ next.number) (λ n. m ≡ min n next.number) → link_at new key ≡ Some m → ((q : ℕ × ℕ) → is_at (ends_cmp key) q ≡ false → link_at new q ≡ link_at old q) → AreLeastLinks (take i links) old → AreLeastLinks (take (i + 1) links) new
  links_put is put others before ends = links_by ends (leads_to ends.0 ends.1 next) refl is put others before
