-- Numbers of addresses that rise.
use Rattle.std.proofs.Common.{◌≡◌, ◌∙◌, ℕ, ◌+◌, ◌<◌, ◌≤◌, ◌⊎◌, inl, inr, ⊎_elim, suc, zero, List, [], ◌∷◌, ◌++◌, Contains, Err, length, take, get_or, sym, ap, subst, arith}
use Rattle.std.specs.List.Sorted.{IsBinarySearchResult, IsStrictlyIncreasing}
use Rattle.std.specs.Ordering.{nat_cmp}
use Rattle.std.proofs.lemmas.Bool.{cases_eq, cases_lt}
use Rattle.std.proofs.lemmas.List.{get_or_default, take_more, take_all}
use Rattle.std.proofs.lemmas.List.Elements.{Contains-append_left, Contains-push, Contains-push_cases}
use Rattle.std.proofs.lemmas.List.Kept.{AllPairs-from_increasing}
use Rattle.std.proofs.lemmas.List.Sorted.{searched}
use Rattle.rina_graph.specs.declared.graph.Edge.{Edge}

pub at_most : (nodes : List ℕ) → IsStrictlyIncreasing nodes → (i j : ℕ) → i ≤ j → j < length nodes → get_or nodes i 0 ≤ get_or nodes j 0
at_most nodes rise i j le lt = ⊎_elim
    (λ below. let h : get_or nodes i 0 < get_or nodes j 0 = AllPairs-from_increasing nodes rise i j 0 below lt in omega (arith, h))
    (λ above. let same : i ≡ j = omega (arith, le, above) in let e : get_or nodes i 0 ≡ get_or nodes j 0 = ap (λ k. get_or nodes k 0) same in omega (arith, e))
    (cases_lt i j)

pub injective : (nodes : List ℕ) → IsStrictlyIncreasing nodes → (i j : ℕ) → i < length nodes → j < length nodes → get_or nodes i 0 ≡ get_or nodes j 0 → i ≡ j
injective nodes rise i j lt_i lt_j same = ⊎_elim
    (λ below. let h : get_or nodes i 0 < get_or nodes j 0 = AllPairs-from_increasing nodes rise i j 0 below lt_j in absurd (omega (arith, h, same)))
    (λ above. ⊎_elim
    (λ below. let h : get_or nodes j 0 < get_or nodes i 0 = AllPairs-from_increasing nodes rise j i 0 below lt_i in absurd (omega (arith, h, same)))
    (λ beyond. omega (arith, above, beyond))
    (cases_lt j i))
    (cases_lt i j)

-- the number of an address that is there
pub number : (nodes : List ℕ) (addr : ℕ) → Contains nodes addr → (k : ℕ) × (k < length nodes) × (get_or nodes k 0 ≡ addr)
number nodes addr h = (h.0, h.1, get_or_default nodes h.0 0 addr h.1 ∙ h.2)

-- the address of a number is there
pub is_there : (nodes : List ℕ) (k addr : ℕ) → k < length nodes → get_or nodes k 0 ≡ addr → Contains nodes addr
is_there nodes k addr lt is = (k, lt, get_or_default nodes k addr 0 lt ∙ is)

not_there : (nodes : List ℕ) (x addr : ℕ) → (x ≡ addr → ⊥) → (Contains nodes addr → ⊥) → (k : ℕ) → k < length (x ∷ nodes) → get_or (x ∷ nodes) k addr ≡ addr → ⊥
not_there nodes x addr apart none zero lt is = apart is
not_there nodes x addr apart none (suc k) lt is = none (k, omega (arith, lt), is)

there_or_by : (nodes : List ℕ) (x addr : ℕ) → (x ≡ addr) ⊎ (x ≡ addr → ⊥) → Contains nodes addr ⊎ (Contains nodes addr → ⊥) → Contains (x ∷ nodes) addr ⊎ (Contains (x ∷ nodes) addr → ⊥)
there_or_by nodes x addr (inl same) rest = inl (0, omega arith, same)
there_or_by nodes x addr (inr apart) (inl there) = inl (suc there.0, omega (arith, there.1), there.2)
there_or_by nodes x addr (inr apart) (inr none) = inr (λ h. not_there nodes x addr apart none h.0 h.1 h.2)

-- an address is there or not
pub there_or : (nodes : List ℕ) (addr : ℕ) → Contains nodes addr ⊎ (Contains nodes addr → ⊥)
there_or [] addr = inr (λ h. omega (arith, h.1))
there_or (x ∷ nodes) addr = there_or_by nodes x addr (cases_eq x addr) (there_or nodes addr)

-- a search finds an address that is there
found_by : (nodes : List ℕ) (addr i : ℕ) → IsStrictlyIncreasing nodes → (k : ℕ) × (k < length nodes) × (get_or nodes k 0 ≡ addr) → (i ≤ length nodes) × ((k : ℕ) → k < i → get_or nodes k 0 < addr) × ((k : ℕ) → i ≤ k → k < length nodes → addr < get_or nodes k 0) → ⊥
found_by nodes addr i rise at h = ⊎_elim
    (λ below. let lt : get_or nodes at.0 0 < addr = h.1 at.0 below in omega (arith, lt, at.2))
    (λ above. let lt : addr < get_or nodes at.0 0 = h.2 at.0 above at.1 in omega (arith, lt, at.2))
    (cases_lt at.0 i)

pub found : (nodes : List ℕ) (addr i : ℕ) → IsStrictlyIncreasing nodes → Contains nodes addr → IsBinarySearchResult (λ y. nat_cmp y addr) nodes (Err i) → ⊥
found nodes addr i rise there position = found_by nodes addr i rise (number nodes addr there) (searched nodes addr (Err i) position (λ a b le lt. at_most nodes rise a b le lt))

-- two more addresses
pub keeps : (old mid new : List ℕ) (a b addr : ℕ) → mid ≡ old ++ a ∷ [] → new ≡ mid ++ b ∷ [] → Contains old addr → Contains new addr
keeps old mid new a b addr first second h = rw (second, first) (Contains-append_left (old ++ a ∷ []) (b ∷ []) addr (Contains-append_left old (a ∷ []) addr h))

-- one more edge, and its ends
pub ends_more : (edges : List Edge) (i : ℕ) (d : Edge) (old mid new : List ℕ) → i < length edges → mid ≡ old ++ (get_or edges i d).from ∷ [] → new ≡ mid ++ (get_or edges i d).to ∷ [] → ((e : Edge) → Contains (take i edges) e → Contains old e.from × Contains old e.to) → (e : Edge) → Contains (take (i + 1) edges) e → Contains new e.from × Contains new e.to
ends_more edges i d old mid new lt first second before e among =
    let x : Edge = get_or edges i d in
    let more : take (i + 1) edges ≡ take i edges ++ x ∷ [] = take_more edges i d lt in
    let from_in : Contains new x.from = rw (second, first) (Contains-append_left (old ++ x.from ∷ []) (x.to ∷ []) x.from (Contains-push old x.from)) in
    let to_in : Contains new x.to = rw second (Contains-push mid x.to) in
    ⊎_elim
    (λ old_one. let h = before e old_one in (keeps old mid new x.from x.to e.from first second h.0, keeps old mid new x.from x.to e.to first second h.1))
    (λ same. (subst (λ (y : Edge). Contains new y.from) same from_in, subst (λ (y : Edge). Contains new y.to) same to_in))
    (Contains-push_cases (take i edges) x e (subst (λ es. Contains es e) more among))

pub ends_all : (edges : List Edge) (i : ℕ) (nodes : List ℕ) → length edges ≤ i → ((e : Edge) → Contains (take i edges) e → Contains nodes e.from × Contains nodes e.to) → (e : Edge) → Contains edges e → Contains nodes e.from × Contains nodes e.to
ends_all edges i nodes le before e among = before e (subst (λ es. Contains es e) (sym (take_all i edges le)) among)
