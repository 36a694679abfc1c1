-- Keys of edges and of links: a search among them finds one exactly if it is there.
use Rattle.std.proofs.Common.{◌≡◌, ◌∙◌, ℕ, Bool, true, false, ◌&&◌, ◌||◌, ◌==◌, ◌<◌, List, [], ◌∷◌, Result, Ok, Err, is_ok, ⊎_elim, length, get_or, map, refl, sym, ap, subst, arith}
use Rattle.std.specs.List.{list_any}
use Rattle.std.specs.List.Sorted.{IsBinarySearchResult, IsPartitionPoint, IsSearchInRange}
use Rattle.std.specs.Prelude.{All}
use Rattle.std.specs.declared.cmp.Ordering.TheVariants.{Less, Equal, Greater}
use Rattle.std.proofs.lemmas.Bool.{cases_lt}
use Rattle.std.specs.Cmp.{IsTotalOrder, both_tied, unsigned_ties}
use Rattle.std.specs.Ordering.{is_eq}
use Rattle.std.proofs.lemmas.Cmp.{then_total, on_total, nat_cmp_total}
use Rattle.std.proofs.lemmas.List.Folds.{list_any_at, list_any_none}
use Rattle.std.proofs.lemmas.List.Sorted.{list_any-IsPermutation, searchable_from_sorted}
use Rattle.rina_graph.specs.declared.graph.Edge.{Edge}
use Rattle.rina_route.specs.Routes.{same_edge, is_claimed, leads_to, has_link}
use Rattle.rina_route.specs.Keys.{key_of, key_cmp, AreKeys, ends_of, AreEnds}
use Rattle.rina_route.specs.Weights.{ends_cmp}
use Rattle.rina_route.specs.declared.link.Link.{Link}

abbrev Key : Type 0
Key = ℕ × ℕ × ℕ

-- a key is that of the edge
abbrev is_key : Edge → Key → Bool
is_key e k = (k.0 == e.from) && (k.1 == e.to) && (k.2 == e.weight)

key_total : IsTotalOrder key_cmp
key_total = then_total (then_total (on_total (λ (k : Key). k.0) nat_cmp_total) (on_total (λ (k : Key). k.1) nat_cmp_total)) (on_total (λ (k : Key). k.2) nat_cmp_total)

key_ties : (e : Edge) (k : Key) → is_key e k ≡ is_eq (key_cmp k (key_of e))
key_ties e k = both_tied _ _ _ _ (both_tied _ _ _ _ (unsigned_ties k.0 e.from) (unsigned_ties k.1 e.to)) (unsigned_ties k.2 e.weight)

any_key : (e : Edge) (es : List Edge) → list_any (is_key e) (map key_of es) ≡ is_claimed es e
any_key e [] = refl
any_key e (x ∷ es) = ap (λ b. same_edge e x || b) (any_key e es)

pub claimed_is : (claimed : List Edge) (keys : List Key) (e : Edge) → AreKeys claimed keys → is_claimed claimed e ≡ list_any (is_key e) keys
claimed_is claimed keys e are = sym (any_key e claimed) ∙ list_any-IsPermutation (is_key e) (map key_of claimed) keys are.moved

-- what the answers of a search come to
found_at : (keys : List Key) (e : Edge) (i : ℕ) → i < length keys → key_cmp (get_or keys i (key_of e)) (key_of e) ≡ Equal → list_any (is_key e) keys ≡ true
found_at keys e i lt is = list_any_at (is_key e) keys i (key_of e) lt (key_ties e (get_or keys i (key_of e)) ∙ ap is_eq is)

module _ (keys : List Key) (e : Edge) (i : ℕ) (h : IsPartitionPoint (λ k. key_cmp k (key_of e) ≡ Less) (λ k. key_cmp k (key_of e) ≡ Greater) keys i) where
  none_at : All (λ k. is_key e k ≡ false) keys
  none_at j d lt = ⊎_elim
      (λ below. key_ties e (get_or keys j d) ∙ ap is_eq (h.0 j d (omega arith) below))
      (λ above. key_ties e (get_or keys j d) ∙ ap is_eq (h.1 j d above lt))
      (cases_lt j i)

searched_by : (claimed : List Edge) (keys : List Key) (e : Edge) (r : Result ℕ ℕ) → IsSearchInRange r (length keys) → IsBinarySearchResult (λ k. key_cmp k (key_of e)) keys r → AreKeys claimed keys → is_ok r ≡ is_claimed claimed e
searched_by claimed keys e (Ok i) within is are = sym (claimed_is claimed keys e are ∙ found_at keys e i within (is (key_of e)))
searched_by claimed keys e (Err i) within is are =
    let rises = searchable_from_sorted key_total (λ (k : Key). k) keys (key_of e) are.rise in
    sym (claimed_is claimed keys e are ∙ list_any_none (is_key e) keys (none_at keys e i (is rises)))

pub searched_is : (claimed : List Edge) (keys : List Key) (e : Edge) (key : Key) (r : Result ℕ ℕ) → key ≡ key_of e → IsSearchInRange r (length keys) → IsBinarySearchResult (λ k. key_cmp k key) keys r → AreKeys claimed keys → is_ok r ≡ is_claimed claimed e
searched_is claimed keys e key r same within is are = searched_by claimed keys e r within (subst (λ k. IsBinarySearchResult (λ l. key_cmp l k) keys r) same is) are

-- ---- the same of links
abbrev Ends : Type 0
Ends = ℕ × ℕ

-- the ends are those that are wanted
abbrev are_ends : Ends → Ends → Bool
are_ends wanted k = (k.0 == wanted.0) && (k.1 == wanted.1)

ends_total : IsTotalOrder ends_cmp
ends_total = then_total (on_total (λ (k : Ends). k.0) nat_cmp_total) (on_total (λ (k : Ends). k.1) nat_cmp_total)

ends_ties : (wanted k : Ends) → are_ends wanted k ≡ is_eq (ends_cmp k wanted)
ends_ties wanted k = both_tied _ _ _ _ (unsigned_ties k.0 wanted.0) (unsigned_ties k.1 wanted.1)

any_ends : (wanted : Ends) (links : List Link) → list_any (are_ends wanted) (map ends_of links) ≡ has_link links wanted.0 wanted.1
any_ends wanted [] = refl
any_ends wanted (l ∷ links) = ap (λ b. leads_to wanted.0 wanted.1 l || b) (any_ends wanted links)

linked_is : (links : List Link) (ends : List Ends) (wanted : Ends) → AreEnds links ends → has_link links wanted.0 wanted.1 ≡ list_any (are_ends wanted) ends
linked_is links ends wanted are = sym (any_ends wanted links) ∙ list_any-IsPermutation (are_ends wanted) (map ends_of links) ends are.moved

module _ (ends : List Ends) (wanted : Ends) (i : ℕ) (h : IsPartitionPoint (λ k. ends_cmp k wanted ≡ Less) (λ k. ends_cmp k wanted ≡ Greater) ends i) where
  no_ends : All (λ k. are_ends wanted k ≡ false) ends
  no_ends j d lt = ⊎_elim
      (λ below. ends_ties wanted (get_or ends j d) ∙ ap is_eq (h.0 j d (omega arith) below))
      (λ above. ends_ties wanted (get_or ends j d) ∙ ap is_eq (h.1 j d above lt))
      (cases_lt j i)

pub linked_found : (links : List Link) (ends : List Ends) (wanted : Ends) (r : Result ℕ ℕ) → IsSearchInRange r (length ends) → IsBinarySearchResult (λ k. ends_cmp k wanted) ends r → AreEnds links ends → is_ok r ≡ has_link links wanted.0 wanted.1
linked_found links ends wanted (Ok i) within is are = sym (linked_is links ends wanted are ∙ list_any_at (are_ends wanted) ends i wanted within (ends_ties wanted (get_or ends i wanted) ∙ ap is_eq (is wanted)))
linked_found links ends wanted (Err i) within is are =
    let rises = searchable_from_sorted ends_total (λ (k : Ends). k) ends wanted are.rise in
    sym (linked_is links ends wanted are ∙ list_any_none (are_ends wanted) ends (no_ends ends wanted i (is rises)))
