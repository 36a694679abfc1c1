-- The links and flows of a plan can be bound on a rank of DIFs.
use Rattle.std.proofs.Common.{◌≡◌, ◌≢◌, ℕ, suc, ◌+◌, ◌-◌, ◌*◌, ◌^◌, ◌≤◌, ◌==◌, ◌&&◌, ◌||◌, ◌∙◌, cond, Bool, true, false, List, [], ◌∷◌, ◌++◌, length, map, slice_get, take, Some, None, Option, inl, inr, refl, sym, ap, subst, arith}
use Rattle.std.specs.Prelude.{All, count_by, flat_map, sum_by}
use Rattle.std.specs.List.{range_with_len}
use Rattle.std.proofs.lemmas.Bool.{and_from, and_parts}
use Rattle.std.proofs.lemmas.Bool.Decides.{eqb_tells, nat_tests}
use Rattle.std.proofs.lemmas.List.Sums.{sum_by-le-sum_by}
use Rattle.std.proofs.lemmas.Option.{get_or_from_slice_get, same_Some, slice_get_within}
use Rattle.rina_iface.proofs.Changed.{all_at}
use Rattle.rina_iface.specs.declared.ask.Fixed.{Fixed}
use Rattle.rina_iface.specs.Ends.{drawn_at}
use Rattle.rina_iface.specs.Seen.{Fac, Seen, is_member}
use Rattle.rina_plan.specs.declared.dif.DifPlan.{DifPlan}
use Rattle.rina_plan.specs.declared.dif.FlowPlan.{FlowPlan}
use Rattle.rina_plan.specs.declared.dif.LinkPlan.{LinkPlan}
use Rattle.rina_plan.specs.declared.dif.Lower.{Lower}
use Rattle.rina_plan.specs.declared.dif.Lower.TheVariants.{Wire, Dif}
use Rattle.rina_plan.specs.declared.dif.MemberPlan.{MemberPlan}
use Rattle.rina_plan.specs.Counts.{IsRoomy, has_flow_end, has_link_end, is_on_dif, links_of as all_links, cep_ids_needed}
use Rattle.rina_plan.specs.Difs.{greatest_of}
use Rattle.rina_plan.specs.Kept.{IsStatic}
use Rattle.rina_plan.specs.Links.{carries, is_member as has_node, is_there, rank_in, rank_of}
use Rattle.rina_plan.specs.Walks.{IsCarriedFlow}
use Rattle.rina_plan.specs.Numbers.{facility_number, number_in_rank}
use Rattle.rina_pci.specs.Spelling.{IsWidth}
use Rattle.rina_stack.specs.declared.plan.Plan.{Plan}
use Rattle.rina_stack.specs.Ranges.{IsRangedDif}
use Rattle.rina_stack.specs.Plan.{IsPlan, wire_ends}
use Rattle.rina_tower.specs.Rooms.{ArePlaced, HasRoom, IsPlaced, ends_there}
use Rattle.rina_tower.specs.Fits.{DifsFit, IsFreshRank, flows_at, fresh_dif, links_at}
use Rattle.rina_dif.specs.Planned.{flow_fixed, flows_in, flows_of, ipc_name, link_fixed, links_in, links_of}
use Rattle.rina_tower.proofs.FitRooms.{binds_fit}
use Rattle.rina_tower.proofs.FitCounts.{count_append, count_cons, count_flat, count_map, count_none, over_places, same_place, sum_only}
use Rattle.rina_tower.proofs.FitFacts.{any_element, carries_cube, has_flows, lacks_member, link_facts, shows_cube, shows_member, shows_one}

-- Places in a row

pub placed_append : (s : Seen) (xs ys : List Fixed) → ArePlaced s xs → ArePlaced s ys → ArePlaced s (xs ++ ys)
placed_append s [] ys p q = q
placed_append s (x ∷ xs) ys p q = (p.0, placed_append s xs ys p.1 q)

pub placed_flat : {X : Type 0} (s : Seen) (g : X → List Fixed) (xs : List X) → ((x : X) → ArePlaced s (g x)) → ArePlaced s (flat_map g xs)
placed_flat s g [] each = tt
placed_flat s g (x ∷ xs) each = placed_append s (g x) (flat_map g xs) (each x) (placed_flat s g xs each)

pub placed_map : {X : Type 0} (s : Seen) (f : X → Fixed) (xs : List X) → ((k : ℕ) (x : X) → slice_get xs k ≡ Some x → IsPlaced s (f x)) → ArePlaced s (map f xs)
placed_map s f [] each = tt
placed_map s f (x ∷ xs) each = (each 0 x refl, placed_map s f xs (λ k y h. each (suc k) y h))

pub placed_if : (s : Seen) (b : Bool) (xs : List Fixed) → (b ≡ true → ArePlaced s xs) → ArePlaced s (cond b xs [])
placed_if s true xs h = h refl
placed_if s false xs h = tt

same : (m n : ℕ) → (m == n) ≡ true → m ≡ n
same m n h = grind (arith, nat_tests)

same_is : (n : ℕ) → (n == n) ≡ true
same_is n = grind (arith, nat_tests)

-- A DIF of the rank

pub record IsAbove (difs : List DifPlan) (k r : ℕ) : Type 0 where
  pub dif : DifPlan
  pub at : slice_get difs k ≡ Some dif
  pub rank : dif.rank ≡ r

pub below_in : (difs : List DifPlan) (k r : ℕ) (o : Option DifPlan) → slice_get difs k ≡ o → rank_in o + 1 ≡ r + 1 → 1 ≤ r → IsAbove difs k r
below_in difs k r None at h least = absurd (omega (arith, h, least))
below_in difs k r (Some d) at h least = record { dif = d; at = at; rank = omega (arith, h) }

-- its number tells its place
one_place : (difs : List DifPlan) (r i k : ℕ) (d e : DifPlan) → slice_get difs i ≡ Some d → slice_get difs k ≡ Some e → d.rank ≡ r → e.rank ≡ r → number_in_rank difs k ≡ number_in_rank difs i → k ≡ i
one_place difs r i k d e at_i at_k rank_i rank_k h =
    let i_is : rank_of difs (Dif i) ≡ r = ap rank_in at_i ∙ rank_i in
    let k_is : rank_of difs (Dif k) ≡ r = ap rank_in at_k ∙ rank_k in
    let counts : count_by (λ (d' : DifPlan). d'.rank == r) (take k difs) ≡ count_by (λ (d' : DifPlan). d'.rank == r) (take i difs) =
    subst (λ (m : ℕ). count_by (λ (d' : DifPlan). d'.rank == m) (take k difs) ≡ count_by (λ (d' : DifPlan). d'.rank == r) (take i difs)) k_is (subst (λ (m : ℕ). number_in_rank difs k ≡ count_by (λ (d' : DifPlan). d'.rank == m) (take i difs)) i_is h) in
    same_place (λ (d' : DifPlan). d'.rank == r) difs k i e d at_k at_i (ap (λ (m : ℕ). m == r) rank_k ∙ same_is r) (ap (λ (m : ℕ). m == r) rank_i ∙ same_is r) counts

-- Links

placed_on : (plan : Plan) (r : ℕ) (s : Seen) (d : DifPlan) (l : LinkPlan) (on : Lower) → IsFreshRank plan r s → d.rank ≡ r + 1
    → rank_of plan.difs on + 1 ≡ d.rank → l.a ≢ l.b → is_there (map wire_ends plan.wires) plan.difs l.a on ≡ true → is_there (map wire_ends plan.wires) plan.difs l.b on ≡ true → carries (map wire_ends plan.wires) plan.difs d.pdu l.cube on ≡ true → IsStatic plan.difs on
    → IsPlaced s (record { fac = facility_number plan.difs on; cube = l.cube; a = l.a; a_app = ipc_name plan d l.a; b = l.b; b_app = ipc_name plan d l.b })
placed_on plan r s d l (Wire w) fresh rank above apart a b carried static = absurd (let least = fresh.least in omega (arith, rank, above, least))
placed_on plan r s d l (Dif k) fresh rank above apart a b carried static =
    let e = below_in plan.difs k r (slice_get plan.difs k) refl (above ∙ rank) fresh.least in
    let a_in : has_node l.a e.dif ≡ true = rw e.at at a in
    let b_in : has_node l.b e.dif ≡ true = rw e.at at b in
    let all = rw e.at at carried in
    let cube = shows_cube e.dif l.cube (carries_cube e.dif d.pdu l.cube all) in
    record {
      facility = fresh_dif e.dif;
      stands = fresh.each k e.dif e.at e.rank;
      apart = apart;
      a_in = shows_member e.dif l.a (static e.dif e.at) a_in;
      b_in = shows_member e.dif l.b (static e.dif e.at) b_in;
      cube = cube.0;
      offer = cube.1;
    }

placed_links : (plan : Plan) (r : ℕ) (s : Seen) (j : ℕ) (o : Option DifPlan) → IsPlan plan → IsFreshRank plan r s → slice_get plan.difs j ≡ o → ArePlaced s (cond (rank_in o == r + 1) (links_in plan o) [])
placed_links plan r s j None p fresh at = placed_if s (0 == r + 1) [] (λ h. tt)
placed_links plan r s j (Some d) p fresh at = placed_if s (d.rank == r + 1) (map (link_fixed plan d) d.links) (λ h. placed_map s (link_fixed plan d) d.links (λ k l link.
    let f = link_facts plan p j d at k l link in
    placed_on plan r s d l l.on fresh (same d.rank (r + 1) h) f.rank f.apart f.a_there f.b_there f.carried f.static))

-- Flows

carried_flow : (plan : Plan) → IsPlan plan → (j : ℕ) (d : DifPlan) → slice_get plan.difs j ≡ Some d → (k : ℕ) (f : FlowPlan) → slice_get d.flows k ≡ Some f → IsCarriedFlow d f
carried_flow plan p j d at k f flow = all_at (IsCarriedFlow d) d.flows k f (all_at (λ (e : DifPlan). All (IsCarriedFlow e) e.flows) plan.difs j d p.flows at) flow

placed_flows : (plan : Plan) (r : ℕ) (s : Seen) (j : ℕ) (o : Option DifPlan) → IsPlan plan → IsFreshRank plan r s → slice_get plan.difs j ≡ o → ArePlaced s (cond (rank_in o == r) (flows_in plan j o) [])
placed_flows plan r s j None p fresh at = placed_if s (0 == r) [] (λ h. tt)
placed_flows plan r s j (Some d) p fresh at = placed_if s (d.rank == r) (map (flow_fixed plan j) d.flows) (λ h. placed_map s (flow_fixed plan j) d.flows (λ k f flow.
    let c = carried_flow plan p j d at k f flow in
    let static = has_flows plan p j d at k f flow in
    let cube = shows_cube d f.cube c.cube in
    record {
      facility = fresh_dif d;
      stands = fresh.each j d at (same d.rank r h);
      apart = c.apart;
      a_in = shows_member d f.from.node static c.from;
      b_in = shows_member d f.to.node static c.to;
      cube = cube.0;
      offer = cube.1;
    }))

all_placed : (plan : Plan) (r : ℕ) (s : Seen) → IsPlan plan → IsFreshRank plan r s → ArePlaced s (links_at plan (r + 1) ++ flows_at plan r)
all_placed plan r s p fresh = placed_append s (links_at plan (r + 1)) (flows_at plan r)
    (placed_flat s (λ i. cond (rank_of plan.difs (Dif i) == r + 1) (links_of plan i) []) (range_with_len 0 (length plan.difs)) (λ j. placed_links plan r s j (slice_get plan.difs j) p fresh refl))
    (placed_flat s (λ i. cond (rank_of plan.difs (Dif i) == r) (flows_of plan i) []) (range_with_len 0 (length plan.difs)) (λ j. placed_flows plan r s j (slice_get plan.difs j) p fresh refl))

-- How many ends there are at a node of the i-th DIF

counts_on : (plan : Plan) (r i n node a b : ℕ) (d e : DifPlan) (on : Lower) → slice_get plan.difs i ≡ Some d → d.rank ≡ r → number_in_rank plan.difs i ≡ n → 1 ≤ r → e.rank ≡ r + 1 → rank_of plan.difs on + 1 ≡ e.rank
    → ((facility_number plan.difs on == n) && ((a == node) || (b == node))) ≡ true → (is_on_dif i on && ((a == node) || (b == node))) ≡ true
counts_on plan r i n node a b d e (Wire w) at rank number least up above h = absurd (omega (arith, least, up, above))
counts_on plan r i n node a b d e (Dif k) at rank number least up above h =
    let parts = and_parts (number_in_rank plan.difs k == n) ((a == node) || (b == node)) h in
    let below = below_in plan.difs k r (slice_get plan.difs k) refl (above ∙ up) least in
    let k_is : k ≡ i = one_place plan.difs r i k d below.dif at below.at rank below.rank (same (number_in_rank plan.difs k) n parts.0 ∙ sym number) in
    and_from (k == i) ((a == node) || (b == node)) (ap (λ (m : ℕ). m == i) k_is ∙ same_is i) parts.1

abbrev its_links : Option DifPlan → List LinkPlan
its_links None = []
its_links (Some d) = d.links

-- a link on the i-th DIF has an end at the node
abbrev ends_on : ℕ → ℕ → LinkPlan → Bool
ends_on i node l = is_on_dif i l.on && has_link_end node l

pub none_or : (p : Fixed → Bool) (b : Bool) (xs : List Fixed) (m : ℕ) → (b ≡ true → count_by p xs ≤ m) → count_by p (cond b xs []) ≤ m
none_or p true xs m h = h refl
none_or p false xs m h = omega arith

links_count : (plan : Plan) (r i n node : ℕ) (d : DifPlan) → IsPlan plan → slice_get plan.difs i ≡ Some d → d.rank ≡ r → number_in_rank plan.difs i ≡ n → 1 ≤ r → (j : ℕ) (o : Option DifPlan) → slice_get plan.difs j ≡ o
    → count_by (ends_there n node) (cond (rank_in o == r + 1) (links_in plan o) []) ≤ count_by (ends_on i node) (its_links o)
links_count plan r i n node d p at rank number least j None here = none_or (ends_there n node) (0 == r + 1) [] 0 (λ h. omega arith)
links_count plan r i n node d p at rank number least j (Some e) here = none_or (ends_there n node) (e.rank == r + 1) (map (link_fixed plan e) e.links) (count_by (ends_on i node) e.links) (λ h.
    count_map (ends_there n node) (ends_on i node) (link_fixed plan e) e.links (λ k l link g.
    let f = link_facts plan p j e here k l link in
    counts_on plan r i n node l.a l.b d e l.on at rank number least (same e.rank (r + 1) h) f.rank g))

all_links_count : (plan : Plan) (r i n node : ℕ) (d : DifPlan) → IsPlan plan → slice_get plan.difs i ≡ Some d → d.rank ≡ r → number_in_rank plan.difs i ≡ n → 1 ≤ r
    → count_by (ends_there n node) (links_at plan (r + 1)) ≤ count_by (ends_on i node) (all_links plan.difs)
all_links_count plan r i n node d p at rank number least =
    let g : ℕ → List Fixed = λ j. cond (rank_of plan.difs (Dif j) == r + 1) (links_of plan j) [] in
    let places : List ℕ = range_with_len 0 (length plan.difs) in
    let split : count_by (ends_there n node) (flat_map g places) ≡ sum_by (λ j. count_by (ends_there n node) (g j)) places = count_flat (ends_there n node) g places in
    let each : sum_by (λ j. count_by (ends_there n node) (g j)) places ≤ sum_by (λ j. count_by (ends_on i node) (its_links (slice_get plan.difs j))) places =
    sum_by-le-sum_by (λ j. count_by (ends_there n node) (g j)) (λ j. count_by (ends_on i node) (its_links (slice_get plan.difs j))) places (λ j. links_count plan r i n node d p at rank number least j (slice_get plan.difs j) refl) in
    let over : sum_by (λ j. count_by (ends_on i node) (its_links (slice_get plan.difs j))) places ≡ sum_by (λ (e : DifPlan). count_by (ends_on i node) e.links) plan.difs = over_places (λ o. count_by (ends_on i node) (its_links o)) plan.difs in
    let whole : count_by (ends_on i node) (flat_map (λ (e : DifPlan). e.links) plan.difs) ≡ sum_by (λ (e : DifPlan). count_by (ends_on i node) e.links) plan.difs = count_flat (ends_on i node) (λ (e : DifPlan). e.links) plan.difs in
    omega (arith, split, each, over, whole)

not_here : (plan : Plan) (r i n node : ℕ) (d : DifPlan) → slice_get plan.difs i ≡ Some d → d.rank ≡ r → number_in_rank plan.difs i ≡ n → (j : ℕ) (o : Option DifPlan) → slice_get plan.difs j ≡ o → j ≢ i
    → count_by (ends_there n node) (cond (rank_in o == r) (flows_in plan j o) []) ≤ 0
not_here plan r i n node d at rank number j None here apart = none_or (ends_there n node) (0 == r) [] 0 (λ h. omega arith)
not_here plan r i n node d at rank number j (Some e) here apart = none_or (ends_there n node) (e.rank == r) (map (flow_fixed plan j) e.flows) 0 (λ h.
    let other : (number_in_rank plan.difs j == n) ≡ false = elim (eqb_tells (number_in_rank plan.difs j) n) [
      | inl t ↦ absurd (apart (one_place plan.difs r i j d e at here rank (same e.rank r h) (t.1 ∙ sym number)))
      | inr u ↦ u.0
    ] in
    let none : count_by (ends_there n node) (map (flow_fixed plan j) e.flows) ≡ 0 = count_none (ends_there n node) (flow_fixed plan j) e.flows (λ f. rw other refl) in
    omega (arith, none))

flows_count : (plan : Plan) (r i n node : ℕ) (d : DifPlan) → slice_get plan.difs i ≡ Some d → d.rank ≡ r → number_in_rank plan.difs i ≡ n
    → count_by (ends_there n node) (flows_at plan r) ≤ count_by (has_flow_end node) d.flows
flows_count plan r i n node d at rank number =
    let g : ℕ → List Fixed = λ j. cond (rank_of plan.difs (Dif j) == r) (flows_of plan j) [] in
    let places : List ℕ = range_with_len 0 (length plan.difs) in
    let split : count_by (ends_there n node) (flat_map g places) ≡ sum_by (λ j. count_by (ends_there n node) (g j)) places = count_flat (ends_there n node) g places in
    let one : sum_by (λ j. count_by (ends_there n node) (g j)) places ≤ count_by (ends_there n node) (g i) = sum_only (λ j. count_by (ends_there n node) (g j)) i 0 (length plan.difs) (λ j apart. let h : count_by (ends_there n node) (g j) ≤ 0 = not_here plan r i n node d at rank number j (slice_get plan.difs j) refl apart in omega (arith, h)) in
    let here : count_by (ends_there n node) (cond (d.rank == r) (flows_in plan i (Some d)) []) ≤ count_by (has_flow_end node) d.flows = none_or (ends_there n node) (d.rank == r) (map (flow_fixed plan i) d.flows) (count_by (has_flow_end node) d.flows) (λ h.
    count_map (ends_there n node) (has_flow_end node) (flow_fixed plan i) d.flows (λ k f flow e. (and_parts (number_in_rank plan.difs i == n) ((f.from.node == node) || (f.to.node == node)) e).1)) in
    let its : g i ≡ cond (d.rank == r) (flows_in plan i (Some d)) [] = ap (λ (o : Option DifPlan). cond (rank_in o == r) (flows_in plan i o) []) at in
    let its_count = ap (count_by (ends_there n node)) its in
    omega (arith, split, one, here, its_count)

-- Room

-- no flow has an end at a node of this facility, where none that is placed can have one
absent : (s : Seen) (n node : ℕ) → ((x : Fixed) → IsPlaced s x → ends_there n node x ≡ true → ⊥) → (xs : List Fixed) → ArePlaced s xs → count_by (ends_there n node) xs ≡ 0
absent s n node never [] ps = refl
absent s n node never (x ∷ xs) ps =
    let rest : count_by (ends_there n node) xs ≡ 0 = absent s n node never xs ps.1 in
    let here : ends_there n node x ≡ false = elim (ends_there n node x) as (λ b. ends_there n node x ≡ b → b ≡ false) [
      | false ↦ λ h. refl
      | true ↦ λ h. absurd (never x ps.0 h)
    ] refl in
    count_cons (ends_there n node) x xs ∙ rw here (omega (arith, rest))

-- what is placed on a DIF that nobody has used is between two nodes that it shows
record IsBetween (n node : ℕ) (d : DifPlan) (x : Fixed) : Type 0 where
  a_in : is_member (fresh_dif d).members x.a ≡ true
  b_in : is_member (fresh_dif d).members x.b ≡ true
  here : ((x.a == node) || (x.b == node)) ≡ true

between : (s : Seen) (n node : ℕ) (d : DifPlan) (x : Fixed) → slice_get s.facs n ≡ Some (fresh_dif d) → IsPlaced s x → ends_there n node x ≡ true → IsBetween n node d x
between s n node d x at p h =
    let parts = and_parts (x.fac == n) ((x.a == node) || (x.b == node)) h in
    let f_is : p.facility ≡ fresh_dif d = same_Some p.facility (fresh_dif d) (sym p.stands ∙ (ap (slice_get s.facs) (same x.fac n parts.0) ∙ at)) in
    record {
      a_in = subst (λ (f : Fac). is_member f.members x.a ≡ true) f_is p.a_in;
      b_in = subst (λ (f : Fac). is_member f.members x.b ≡ true) f_is p.b_in;
      here = parts.1;
    }

-- none is at a node that is no member's
no_member : (s : Seen) (n node : ℕ) (d : DifPlan) → slice_get s.facs n ≡ Some (fresh_dif d) → d.is_static ≡ true → has_node node d ≡ false → (x : Fixed) → IsPlaced s x → ends_there n node x ≡ true → ⊥
no_member s n node d at static none x p h =
    let t = between s n node d x at p h in
    let a_in : has_node x.a d ≡ true = lacks_member d x.a static t.a_in in
    let b_in : has_node x.b d ≡ true = lacks_member d x.b static t.b_in in
    elim (eqb_tells x.a node) [
      | inl t' ↦ let e : has_node node d ≡ true = subst (λ (m : ℕ). has_node m d ≡ true) t'.1 a_in in let f : true ≡ false = sym e ∙ none in cc
      | inr u ↦ let b_is : (false || (x.b == node)) ≡ true = rw u.0 at t.here in let e : has_node node d ≡ true = subst (λ (m : ℕ). has_node m d ≡ true) (same x.b node b_is) b_in in let f : true ≡ false = sym e ∙ none in cc
    ]

-- and none is on a DIF that is not static, which shows no two nodes
no_two : (s : Seen) (n node : ℕ) (d : DifPlan) → slice_get s.facs n ≡ Some (fresh_dif d) → d.is_static ≡ false → (x : Fixed) → IsPlaced s x → ends_there n node x ≡ true → ⊥
no_two s n node d at dynamic x p h =
    let t = between s n node d x at p h in
    p.apart (shows_one d x.a x.b dynamic t.a_in t.b_in)

most_is : (w : ℕ) → IsWidth w → greatest_of w ≡ 2 ^ (8 * w) - 1
unfolding greatest_of
most_is w h = grind arith

roomy_at : (plan : Plan) → IsPlan plan → (i : ℕ) (d : DifPlan) → slice_get plan.difs i ≡ Some d → IsRoomy (all_links plan.difs) i d
roomy_at plan p i d at = subst (IsRoomy (all_links plan.difs) i) (get_or_from_slice_get plan.difs i d d at) (p.counts i d (slice_get_within plan.difs i d at))

numbered : (plan : Plan) (r : ℕ) (s : Seen) → IsFreshRank plan r s → (n i : ℕ) (d : DifPlan) → slice_get plan.difs i ≡ Some d → d.rank ≡ r → number_in_rank plan.difs i ≡ n → slice_get s.facs n ≡ Some (fresh_dif d)
numbered plan r s fresh n i d at rank number = subst (λ (m : ℕ). slice_get s.facs m ≡ Some (fresh_dif d)) number (fresh.each i d at rank)

static_room : (plan : Plan) (r : ℕ) (s : Seen) → IsPlan plan → IsFreshRank plan r s → (n node : ℕ) (i : ℕ) (d : DifPlan) → slice_get plan.difs i ≡ Some d → d.rank ≡ r → number_in_rank plan.difs i ≡ n → d.is_static ≡ true
    → count_by (ends_there n node) (links_at plan (r + 1) ++ flows_at plan r) ≤ 2 ^ (8 * d.widths.cep) - 1
static_room plan r s p fresh n node i d at rank number static = elim (has_node node d) as (λ b. has_node node d ≡ b → count_by (ends_there n node) (links_at plan (r + 1) ++ flows_at plan r) ≤ 2 ^ (8 * d.widths.cep) - 1) [
  | false ↦ λ h.
      let none : count_by (ends_there n node) (links_at plan (r + 1) ++ flows_at plan r) ≡ 0 = absent s n node (no_member s n node d (numbered plan r s fresh n i d at rank number) static h) (links_at plan (r + 1) ++ flows_at plan r) (all_placed plan r s p fresh) in
      omega (arith, none)
  | true ↦ λ h.
      let m = any_element (λ (m : MemberPlan). m.node == node) d.members h in
      let member : MemberPlan = m.1 in
      let ids : cep_ids_needed (all_links plan.difs) i d member.node ≤ greatest_of d.widths.cep = all_at (λ (e : MemberPlan). cep_ids_needed (all_links plan.difs) i d e.node ≤ greatest_of d.widths.cep) d.members m.0 member (roomy_at plan p i d at).ids m.2 in
      let ids' : cep_ids_needed (all_links plan.difs) i d node ≤ greatest_of d.widths.cep = subst (λ (k : ℕ). cep_ids_needed (all_links plan.difs) i d k ≤ greatest_of d.widths.cep) (same member.node node m.3) ids in
      let ranged = all_at (IsRangedDif (length plan.nodes) (length plan.wires) (length plan.difs)) plan.difs i d p.difs at in
      let most : greatest_of d.widths.cep ≡ 2 ^ (8 * d.widths.cep) - 1 = most_is d.widths.cep ranged.widths.cep in
      let ls : count_by (ends_there n node) (links_at plan (r + 1)) ≤ count_by (ends_on i node) (all_links plan.difs) = all_links_count plan r i n node d p at rank number fresh.least in
      let fs : count_by (ends_there n node) (flows_at plan r) ≤ count_by (has_flow_end node) d.flows = flows_count plan r i n node d at rank number in
      let both : count_by (ends_there n node) (links_at plan (r + 1) ++ flows_at plan r) ≡ count_by (ends_there n node) (links_at plan (r + 1)) + count_by (ends_there n node) (flows_at plan r) = count_append (ends_there n node) (links_at plan (r + 1)) (flows_at plan r) in
      let needs : count_by (has_flow_end node) d.flows + count_by (ends_on i node) (all_links plan.difs) ≤ greatest_of d.widths.cep = ids' in
      omega (arith, most, ls, fs, both, needs)
] refl

room_at : (plan : Plan) (r : ℕ) (s : Seen) → IsPlan plan → IsFreshRank plan r s → (n node : ℕ) (i : ℕ) (d : DifPlan) → slice_get plan.difs i ≡ Some d → d.rank ≡ r → number_in_rank plan.difs i ≡ n
    → count_by (ends_there n node) (links_at plan (r + 1) ++ flows_at plan r) ≤ (fresh_dif d).admits
room_at plan r s p fresh n node i d at rank number = elim d.is_static as (λ b. d.is_static ≡ b → count_by (ends_there n node) (links_at plan (r + 1) ++ flows_at plan r) ≤ cond b (2 ^ (8 * d.widths.cep) - 1) 0) [
  | true ↦ λ static. static_room plan r s p fresh n node i d at rank number static
  | false ↦ λ dynamic.
      let none : count_by (ends_there n node) (links_at plan (r + 1) ++ flows_at plan r) ≡ 0 = absent s n node (no_two s n node d (numbered plan r s fresh n i d at rank number) dynamic) (links_at plan (r + 1) ++ flows_at plan r) (all_placed plan r s p fresh) in
      omega (arith, none)
] refl

has_room : (plan : Plan) (r : ℕ) (s : Seen) → IsPlan plan → IsFreshRank plan r s → HasRoom s (links_at plan (r + 1) ++ flows_at plan r)
has_room plan r s p fresh n node f stands =
    let a = fresh.only n f stands in
    let room = room_at plan r s p fresh n node a.place a.dif a.stands a.rank a.number in
    subst (λ (g : Fac). drawn_at node g.ends + count_by (ends_there n node) (links_at plan (r + 1) ++ flows_at plan r) ≤ g.admits) (sym a.is) (omega (arith, room))

pub difs_fit : DifsFit
difs_fit plan r s p fresh = binds_fit s (links_at plan (r + 1) ++ flows_at plan r) fresh.start (all_placed plan r s p fresh) (has_room plan r s p fresh)
