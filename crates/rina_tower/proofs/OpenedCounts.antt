-- Where a flow of the stack stands among all that is bound on its rank.
use Rattle.std.proofs.Common.{◌≡◌, ◌∙◌, ℕ, zero, suc, ◌+◌, ◌<◌, ◌==◌, cond, Bool, true, false, List, [], ◌∷◌, ◌++◌, length, map, slice_get, take, Option, Some, None, refl, sym, ap, arith}
use Rattle.std.specs.Prelude.{count_by, flat_map}
use Rattle.std.specs.List.{range_with_len}
use Rattle.std.proofs.lemmas.Bool.Decides.{nat_tests}
use Rattle.std.proofs.lemmas.List.{append_assoc, map-append}
use Rattle.std.proofs.lemmas.List.Concat.{flat_map-cons}
use Rattle.std.proofs.lemmas.Option.{same_Some, slice_get_within}
use Rattle.rina_iface.specs.declared.ask.Fixed.{Fixed}
use Rattle.rina_plan.specs.declared.dif.DifPlan.{DifPlan}
use Rattle.rina_plan.specs.declared.dif.FlowPlan.{FlowPlan}
use Rattle.rina_plan.specs.declared.dif.Lower.TheVariants.{Dif}
use Rattle.rina_plan.specs.Links.{rank_in, rank_of}
use Rattle.rina_plan.specs.Numbers.{number_in_rank}
use Rattle.rina_stack.specs.declared.plan.Plan.{Plan}
use Rattle.rina_dif.specs.Planned.{flow_fixed, flows_in, flows_of}
use Rattle.rina_tower.specs.Fits.{flows_at, links_at}
use Rattle.rina_tower.specs.Flows.{links_on}
use Rattle.rina_tower.proofs.FitCounts.{count_append, count_cons, count_grows, count_none, one_if}

-- a flow is on this facility
abbrev pub is_on : ℕ → Fixed → Bool
is_on n f = f.fac == n

-- Lists

-- a list about the element at a place
record IsParted {X : Type 0} (xs : List X) (k : ℕ) (x : X) : Type 0 where
  front : List X
  back : List X
  is : xs ≡ front ++ x ∷ back
  count : length front ≡ k

part_at : {X : Type 0} (xs : List X) (k : ℕ) (x : X) → slice_get xs k ≡ Some x → IsParted xs k x
part_at [] k x h = cc
part_at (y ∷ xs) zero x h = record { front = []; back = xs; is = ap (λ z. z ∷ xs) (same_Some y x h); count = refl }
part_at (y ∷ xs) (suc k) x h = let r = part_at xs k x h in record { front = y ∷ r.front; back = r.back; is = ap (λ zs. y ∷ zs) r.is; count = ap suc r.count }

-- a row of lists about the i-th
flat_parts : (g : ℕ → List Fixed) (a n i : ℕ) → i < n → (ys : List Fixed) × (flat_map g (range_with_len a n) ≡ flat_map g (range_with_len a i) ++ (g (a + i) ++ ys))
flat_parts g a zero i within = absurd (omega (arith, within))
flat_parts g a (suc n) zero within =
    let here : a ≡ a + 0 = omega arith in
    (flat_map g (range_with_len (a + 1) n), flat_map-cons g a (range_with_len (a + 1) n) ∙ ap (λ (m : ℕ). g m ++ flat_map g (range_with_len (a + 1) n)) here)
flat_parts g a (suc n) (suc i) within =
    let r = flat_parts g (a + 1) n i (omega (arith, within)) in
    let here : a + 1 + i ≡ a + suc i = omega arith in
    let rest : flat_map g (range_with_len (a + 1) n) ≡ flat_map g (range_with_len (a + 1) i) ++ (g (a + suc i) ++ r.0) = r.1 ∙ ap (λ (m : ℕ). flat_map g (range_with_len (a + 1) i) ++ (g m ++ r.0)) here in
    let front : g a ++ flat_map g (range_with_len (a + 1) i) ≡ flat_map g (range_with_len a (suc i)) = sym (flat_map-cons g a (range_with_len (a + 1) i)) in
    (r.0, flat_map-cons g a (range_with_len (a + 1) n) ∙ (ap (λ (ys : List Fixed). g a ++ ys) rest ∙ (sym (append_assoc (g a) (flat_map g (range_with_len (a + 1) i)) (g (a + suc i) ++ r.0)) ∙ ap (λ (ys : List Fixed). ys ++ (g (a + suc i) ++ r.0)) front)))

flat_none : (p : Fixed → Bool) (g : ℕ → List Fixed) (a m : ℕ) → ((j : ℕ) → j < a + m → count_by p (g j) ≡ 0) → count_by p (flat_map g (range_with_len a m)) ≡ 0
flat_none p g a zero none = refl
flat_none p g a (suc m) none =
    let here : count_by p (g a) ≡ 0 = none a (omega arith) in
    let rest : count_by p (flat_map g (range_with_len (a + 1) m)) ≡ 0 = flat_none p g (a + 1) m (λ j lt. none j (omega (arith, lt))) in
    let split : count_by p (g a ++ flat_map g (range_with_len (a + 1) m)) ≡ count_by p (g a) + count_by p (flat_map g (range_with_len (a + 1) m)) = count_append p (g a) (flat_map g (range_with_len (a + 1) m)) in
    ap (count_by p) (flat_map-cons g a (range_with_len (a + 1) m)) ∙ omega (arith, split, here, rest)

count_all : {X : Type 0} (p : Fixed → Bool) (f : X → Fixed) (xs : List X) → ((x : X) → p (f x) ≡ true) → count_by p (map f xs) ≡ length xs
count_all p f [] each = refl
count_all p f (x ∷ xs) each =
    let one : one_if (p (f x)) ≡ 1 = ap one_if (each x) in
    let rest : count_by p (map f xs) ≡ length xs = count_all p f xs each in
    let long : length (x ∷ xs) ≡ suc (length xs) = refl in
    count_cons p (f x) (map f xs) ∙ omega (arith, one, rest, long)

-- Flows of other DIFs

same : (m n : ℕ) → (m == n) ≡ true → m ≡ n
same m n h = grind (arith, nat_tests)

same_is : (n : ℕ) → (n == n) ≡ true
same_is n = grind (arith, nat_tests)

differs : (m n : ℕ) → m < n → (m == n) ≡ false
differs m n h = grind (arith, nat_tests)

-- the number of a DIF of this rank
numbered : (difs : List DifPlan) (i r : ℕ) (d : DifPlan) → slice_get difs i ≡ Some d → d.rank ≡ r → number_in_rank difs i ≡ count_by (λ (z : DifPlan). z.rank == r) (take i difs)
numbered difs i r d at is = let rank : rank_of difs (Dif i) ≡ r = ap rank_in at ∙ is in ap (λ (m : ℕ). count_by (λ (z : DifPlan). z.rank == m) (take i difs)) rank

-- a DIF of the same rank that stands before it has a smaller one
less : (difs : List DifPlan) (i j : ℕ) (d e : DifPlan) → slice_get difs i ≡ Some d → slice_get difs j ≡ Some e → e.rank ≡ d.rank → j < i → number_in_rank difs j < number_in_rank difs i
less difs i j d e at here rank before =
    let a = numbered difs i d.rank d at refl in
    let b = numbered difs j d.rank e here rank in
    let up = count_grows (λ (z : DifPlan). z.rank == d.rank) difs j i e here (ap (λ (m : ℕ). m == d.rank) rank ∙ same_is d.rank) before in
    omega (arith, a, b, up)

-- no flow of a DIF before the i-th is on the i-th
none_there : (plan : Plan) (i j : ℕ) (d : DifPlan) → slice_get plan.difs i ≡ Some d → j < i → (o : Option DifPlan) → slice_get plan.difs j ≡ o → count_by (is_on (number_in_rank plan.difs i)) (cond (rank_in o == d.rank) (flows_in plan j o) []) ≡ 0
none_there plan i j d at before None here = elim (0 == d.rank) as (λ b. count_by (is_on (number_in_rank plan.difs i)) (cond b [] []) ≡ 0) [
  | true ↦ refl
  | false ↦ refl
]
none_there plan i j d at before (Some e) here = elim (e.rank == d.rank) as (λ b. (e.rank == d.rank) ≡ b → count_by (is_on (number_in_rank plan.difs i)) (cond b (map (flow_fixed plan j) e.flows) []) ≡ 0) [
  | false ↦ λ h. refl
  | true ↦ λ h.
      let other : (number_in_rank plan.difs j == number_in_rank plan.difs i) ≡ false = differs (number_in_rank plan.difs j) (number_in_rank plan.difs i) (less plan.difs i j d e at here (same e.rank d.rank h) before) in
      count_none (is_on (number_in_rank plan.difs i)) (flow_fixed plan j) e.flows (λ f. other)
] refl

-- The flow

-- the k-th flow of the i-th DIF stands behind the links on that DIF and the flows before it
pub record IsAmong (plan : Plan) (i k : ℕ) (d : DifPlan) (f : FlowPlan) : Type 0 where
  pub front : List Fixed
  pub back : List Fixed
  pub is : links_at plan (d.rank + 1) ++ flows_at plan d.rank ≡ front ++ flow_fixed plan i f ∷ back
  pub count : count_by (is_on (number_in_rank plan.difs i)) front ≡ links_on plan i d + k

abbrev there : Plan → ℕ → ℕ → List Fixed
there plan r j = cond (rank_of plan.difs (Dif j) == r) (flows_of plan j) []

own_flows : (plan : Plan) (i : ℕ) (d : DifPlan) → slice_get plan.difs i ≡ Some d → there plan d.rank i ≡ map (flow_fixed plan i) d.flows
own_flows plan i d at = ap (λ (o : Option DifPlan). cond (rank_in o == d.rank) (flows_in plan i o) []) at ∙ ap (λ (b : Bool). cond b (map (flow_fixed plan i) d.flows) []) (same_is d.rank)

shifted : (ls ms bs : List Fixed) (x : Fixed) (cs ds : List Fixed) → ls ++ (ms ++ ((bs ++ x ∷ cs) ++ ds)) ≡ ((ls ++ ms) ++ bs) ++ x ∷ (cs ++ ds)
shifted ls ms bs x cs ds =
    let inner : (bs ++ x ∷ cs) ++ ds ≡ bs ++ x ∷ (cs ++ ds) = append_assoc bs (x ∷ cs) ds in
    ap (λ (ys : List Fixed). ls ++ (ms ++ ys)) inner ∙ (sym (append_assoc ls ms (bs ++ x ∷ (cs ++ ds))) ∙ sym (append_assoc (ls ++ ms) bs (x ∷ (cs ++ ds))))

pub among : (plan : Plan) (i k : ℕ) (d : DifPlan) (f : FlowPlan) → slice_get plan.difs i ≡ Some d → slice_get d.flows k ≡ Some f → IsAmong plan i k d f
among plan i k d f at flow =
    let n : ℕ = number_in_rank plan.difs i in
    let g : ℕ → List Fixed = there plan d.rank in
    let fixed : FlowPlan → Fixed = flow_fixed plan i in
    let links : List Fixed = links_at plan (d.rank + 1) in
    let before : List Fixed = flat_map g (range_with_len 0 i) in
    let row = flat_parts g 0 (length plan.difs) i (slice_get_within plan.difs i d at) in
    let own = part_at d.flows k f flow in
    let place : 0 + i ≡ i = omega arith in
    let mine : g (0 + i) ≡ map fixed own.front ++ fixed f ∷ map fixed own.back = ap g place ∙ (own_flows plan i d at ∙ (ap (map fixed) own.is ∙ map-append fixed own.front (f ∷ own.back))) in
    let whole : links ++ flows_at plan d.rank ≡ links ++ (before ++ ((map fixed own.front ++ fixed f ∷ map fixed own.back) ++ row.0)) = ap (λ (ys : List Fixed). links ++ ys) (row.1 ∙ ap (λ (ys : List Fixed). before ++ (ys ++ row.0)) mine) in
    let none : count_by (is_on n) before ≡ 0 = flat_none (is_on n) g 0 i (λ j lt. none_there plan i j d at (omega (arith, lt)) (slice_get plan.difs j) refl) in
    let all : count_by (is_on n) (map fixed own.front) ≡ k = count_all (is_on n) fixed own.front (λ x. same_is n) ∙ own.count in
    let one = count_append (is_on n) links before in
    let two = count_append (is_on n) (links ++ before) (map fixed own.front) in
    record {
      front = (links ++ before) ++ map fixed own.front;
      back = map fixed own.back ++ row.0;
      is = whole ∙ shifted links before (map fixed own.front) (fixed f) (map fixed own.back) row.0;
      count = omega (arith, none, all, one, two);
    }
