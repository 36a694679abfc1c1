-- The rows of the addresses of a table.
use Rattle.std.proofs.Common.{◌≡◌, ◌∙◌, ℕ, ◌+◌, ◌<◌, ◌≤◌, ◌⊎◌, inl, inr, ⊎_elim, false, List, [], ◌∷◌, Option, Some, None, Contains, length, get_or, sym, ap, subst, arith}
use Rattle.std.specs.List.Sorted.{IsStrictlyIncreasing}
use Rattle.std.specs.Ordering.{nat_cmp}
use Rattle.std.specs.BTreeMap.{is_at}
use Rattle.std.proofs.lemmas.Bool.{cases_lt}
use Rattle.std.proofs.lemmas.Bool.Decides.{nat_tests}
use Rattle.std.specs.Cmp.{unsigned_ties}
use Rattle.rina_graph.specs.declared.graph.Edge.{Edge}
use Rattle.rina_graph.specs.Walks.{IsWalk}
use Rattle.rina_route.specs.declared.link.Link.{Link}
use Rattle.rina_route.specs.Nodes.{AreNodes}
use Rattle.rina_route.specs.Routes.{IsHop, hop_at}
use Rattle.rina_route.proofs.Numbers.{injective, number, is_there, there_or}

-- the first addresses have their rows, and no other has one
pub record AreRows (P : ℕ → Option ℕ → Type 0) (nodes : List ℕ) (rows : List (ℕ × ℕ)) (n : ℕ) : Type 0 where
  pub done : (k : ℕ) → k < n → P (get_or nodes k 0) (hop_at rows (get_or nodes k 0))
  pub rest : (q : ℕ) → ((k : ℕ) → k < n → get_or nodes k 0 ≡ q → ⊥) → hop_at rows q ≡ None

pub rows_none : (P : ℕ → Option ℕ → Type 0) (nodes : List ℕ) (rows : List (ℕ × ℕ)) → rows ≡ [] → AreRows P nodes rows 0
rows_none P nodes rows is = record {
  done = λ k lt. absurd (omega (arith, lt));
  rest = λ q none. ap (λ rs. hop_at rs q) is;
}

apart_is : (a q : ℕ) → (a ≡ q → ⊥) → is_at (nat_cmp a) q ≡ false
apart_is a q apart = sym (unsigned_ties a q) ∙ grind (arith, nat_tests, apart)

not_before : (nodes : List ℕ) (at k : ℕ) → IsStrictlyIncreasing nodes → at < length nodes → k < at → get_or nodes k 0 ≡ get_or nodes at 0 → ⊥
not_before nodes at k rise lt below same = let e : k ≡ at = injective nodes rise k at (omega (arith, lt, below)) lt same in omega (arith, e, below)

here : (k at : ℕ) → k < at + 1 → at ≤ k → k ≡ at
here k at lt le = omega (arith, lt, le)

-- the next address has no row
pub rows_same : (P : ℕ → Option ℕ → Type 0) (nodes : List ℕ) (old new : List (ℕ × ℕ)) (at : ℕ) → IsStrictlyIncreasing nodes → at < length nodes → P (get_or nodes at 0) None → new ≡ old → AreRows P nodes old at → AreRows P nodes new (at + 1)
rows_same P nodes old new at rise lt none same rows = rw same (record {
  done = λ k lt_k. ⊎_elim
      (λ below. rows.done k below)
      (λ above.
      let empty : hop_at old (get_or nodes at 0) ≡ None = rows.rest (get_or nodes at 0) (λ j below is. not_before nodes at j rise lt below is) in
      subst (λ j. P (get_or nodes j 0) (hop_at old (get_or nodes j 0))) (sym (here k at lt_k above)) (subst (λ o. P (get_or nodes at 0) o) (sym empty) none))
      (cases_lt k at);
  rest = λ q absent. rows.rest q (λ k below is. absent k (omega (arith, below)) is);
})

-- the next address has one
pub rows_put : (P : ℕ → Option ℕ → Type 0) (nodes : List ℕ) (old new : List (ℕ × ℕ)) (at v : ℕ) → IsStrictlyIncreasing nodes → at < length nodes → P (get_or nodes at 0) (Some v) → hop_at new (get_or nodes at 0) ≡ Some v → ((q : ℕ) → is_at (nat_cmp (get_or nodes at 0)) q ≡ false → hop_at new q ≡ hop_at old q) → AreRows P nodes old at → AreRows P nodes new (at + 1)
rows_put P nodes old new at v rise lt some put others rows = record {
  done = λ k lt_k. ⊎_elim
      (λ below.
      let same : hop_at new (get_or nodes k 0) ≡ hop_at old (get_or nodes k 0) = others (get_or nodes k 0) (apart_is (get_or nodes at 0) (get_or nodes k 0) (λ is. not_before nodes at k rise lt below (sym is))) in
      subst (λ o. P (get_or nodes k 0) o) (sym same) (rows.done k below))
      (λ above. subst (λ j. P (get_or nodes j 0) (hop_at new (get_or nodes j 0))) (sym (here k at lt_k above)) (subst (λ o. P (get_or nodes at 0) o) (sym put) some))
      (cases_lt k at);
  rest = λ q absent. others q (apart_is (get_or nodes at 0) q (λ is. absent at (omega arith) is)) ∙ rows.rest q (λ k below is. absent k (omega (arith, below)) is);
}

-- all addresses have their rows, and one without a number has none
all_by : (P : ℕ → Option ℕ → Type 0) (nodes : List ℕ) (rows : List (ℕ × ℕ)) (n dst : ℕ) → length nodes ≤ n → n ≤ length nodes → AreRows P nodes rows n → ((q : ℕ) → (Contains nodes q → ⊥) → P q None) → Contains nodes dst ⊎ (Contains nodes dst → ⊥) → P dst (hop_at rows dst)
all_by P nodes rows n dst le ge are out (inl there) =
    let k = number nodes dst there in
    subst (λ q. P q (hop_at rows q)) k.2 (are.done k.0 (omega (arith, k.1, le)))
all_by P nodes rows n dst le ge are out (inr none) =
    let empty : hop_at rows dst ≡ None = are.rest dst (λ k lt is. none (is_there nodes k dst (omega (arith, lt, ge)) is)) in
    subst (λ o. P dst o) (sym empty) (out dst none)

pub rows_all : (P : ℕ → Option ℕ → Type 0) (nodes : List ℕ) (rows : List (ℕ × ℕ)) (n : ℕ) → length nodes ≤ n → n ≤ length nodes → AreRows P nodes rows n → ((q : ℕ) → (Contains nodes q → ⊥) → P q None) → (dst : ℕ) → P dst (hop_at rows dst)
rows_all P nodes rows n le ge are out dst = all_by P nodes rows n dst le ge are out (there_or nodes dst)

-- ---- walks end at addresses that have a number
walk_end : (own dst : ℕ) (edges : List Edge) (nodes : List ℕ) → AreNodes own edges nodes → (walk : List Edge) (a : ℕ) → IsWalk edges a walk dst → (a ≡ dst) ⊎ Contains nodes dst
walk_end own dst edges nodes named [] a h = inl h
walk_end own dst edges nodes named (e ∷ walk) a h = ⊎_elim (λ same. inr (subst (λ q. Contains nodes q) same (named.ends e h.0).1)) (λ there. inr there) (walk_end own dst edges nodes named walk e.to h.2)

pub no_hop : (own dst : ℕ) (edges : List Edge) (links : List Link) (nodes : List ℕ) → AreNodes own edges nodes → (Contains nodes dst → ⊥) → IsHop edges links own dst None
no_hop own dst edges links nodes named none apart walk h = ⊎_elim apart none (walk_end own dst edges nodes named walk own h)
