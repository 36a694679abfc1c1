-- The links of the lowest DIFs can be bound on the wires.
use Rattle.std.proofs.Common.{◌≡◌, ◌≢◌, ℕ, ◌+◌, ◌≤◌, ◌==◌, ◌&&◌, ◌||◌, ◌∙◌, cond, Bool, true, false, List, [], ◌∷◌, length, map, slice_get, Some, None, Option, nat_le, option_map, refl, sym, ap, subst, arith}
use Rattle.std.specs.Prelude.{count_by, flat_map, sum_by}
use Rattle.std.specs.List.{range_with_len}
use Rattle.std.proofs.lemmas.Bool.{and_parts}
use Rattle.std.proofs.lemmas.Bool.Decides.{nat_tests}
use Rattle.std.proofs.lemmas.List.Sums.{sum_by-le-sum_by}
use Rattle.std.proofs.lemmas.Option.{same_Some, slice_get-map, slice_get_within}
use Rattle.rina_iface.proofs.Changed.{all_at}
use Rattle.rina_iface.specs.declared.ask.Fixed.{Fixed}
use Rattle.rina_iface.specs.Ends.{drawn_at}
use Rattle.rina_iface.specs.Seen.{Fac, cube_in, is_member}
use Rattle.rina_plan.specs.declared.dif.DifPlan.{DifPlan}
use Rattle.rina_plan.specs.declared.dif.LinkPlan.{LinkPlan}
use Rattle.rina_plan.specs.declared.dif.Lower.{Lower}
use Rattle.rina_plan.specs.declared.dif.Lower.TheVariants.{Wire, Dif}
use Rattle.rina_plan.specs.declared.dif.WireEnds.{WireEnds}
use Rattle.rina_plan.specs.Counts.{is_on_wire, links_of as all_links, load_of}
use Rattle.rina_plan.specs.Links.{carries, has_end, has_member, is_there, rank_in, rank_of, wire_carries}
use Rattle.rina_plan.specs.Numbers.{facility_number}
use Rattle.rina_stack.specs.declared.plan.Plan.{Plan}
use Rattle.rina_stack.specs.declared.plan.WirePlan.{WirePlan}
use Rattle.rina_stack.specs.Ranges.{IsRangedDif}
use Rattle.rina_stack.specs.Plan.{IsPlan, wire_ends}
use Rattle.rina_wire.specs.Air.{fac_of, offer_of, seen_of}
use Rattle.rina_wire.specs.Plan.{air_of, line_of}
use Rattle.rina_tower.specs.Rooms.{ArePlaced, HasRoom, IsPlaced, ends_there}
use Rattle.rina_tower.specs.Fits.{WiresFit, links_at}
use Rattle.rina_dif.specs.Planned.{ipc_name, link_fixed, links_in, links_of}
use Rattle.rina_tower.proofs.FitRooms.{binds_fit}
use Rattle.rina_tower.proofs.FitCounts.{count_flat, count_map, over_places}
use Rattle.rina_tower.proofs.FitFacts.{link_facts}
use Rattle.rina_tower.proofs.FitDifs.{none_or, placed_flat, placed_if, placed_map}

same : (m n : ℕ) → (m == n) ≡ true → m ≡ n
same m n h = grind (arith, nat_tests)

-- a wire as a facility that nobody has used
abbrev pub fresh_wire : WirePlan → Fac
fresh_wire w = fac_of (line_of w)

twice : (o : Option WirePlan) → option_map fac_of (option_map line_of o) ≡ option_map fresh_wire o
twice None = refl
twice (Some w) = refl

pub shows_wire : (plan : Plan) (n : ℕ) → slice_get (seen_of (air_of plan)).facs n ≡ option_map fresh_wire (slice_get plan.wires n)
shows_wire plan n = slice_get-map fac_of (map line_of plan.wires) n ∙ (ap (option_map fac_of) (slice_get-map line_of plan.wires n) ∙ twice (slice_get plan.wires n))

-- the wire of a link
pub record IsWireAt (plan : Plan) (n : ℕ) : Type 0 where
  pub wire : WirePlan
  pub at : slice_get plan.wires n ≡ Some wire

pub its_wire : (plan : Plan) (n node : ℕ) (o : Option WirePlan) → slice_get plan.wires n ≡ o → has_end node (option_map wire_ends o) ≡ true → IsWireAt plan n
its_wire plan n node None at h = cc
its_wire plan n node (Some w) at h = record { wire = w; at = at }

an_end : (a b node : ℕ) → ((a == node) || (b == node)) ≡ true → is_member (a ∷ b ∷ []) node ≡ true
an_end a b node h = grind (arith, nat_tests)

its_cube : (w : WirePlan) (cube : ℕ) → cube ≡ 0 → cube_in (fresh_wire w).cubes cube ≡ Some (offer_of (line_of w))
its_cube w cube h = rw h refl

-- no DIF has rank 0
pub low_dif : (plan : Plan) → IsPlan plan → (k node : ℕ) (o : Option DifPlan) → slice_get plan.difs k ≡ o → rank_in o + 1 ≡ 1 → has_member node o ≡ true → ⊥
low_dif plan p k node None at rank h = let e : false ≡ true = h in cc
low_dif plan p k node (Some d) at rank h = let least = (all_at (IsRangedDif (length plan.nodes) (length plan.wires) (length plan.difs)) plan.difs k d p.difs at).least_rank in omega (arith, rank, least)

placed_on : (plan : Plan) (d : DifPlan) (l : LinkPlan) (on : Lower) → IsPlan plan → rank_of plan.difs on + 1 ≡ 1 → l.a ≢ l.b
    → is_there (map wire_ends plan.wires) plan.difs l.a on ≡ true → is_there (map wire_ends plan.wires) plan.difs l.b on ≡ true → carries (map wire_ends plan.wires) plan.difs d.pdu l.cube on ≡ true
    → IsPlaced (seen_of (air_of plan)) (record { fac = facility_number plan.difs on; cube = l.cube; a = l.a; a_app = ipc_name plan d l.a; b = l.b; b_app = ipc_name plan d l.b })
placed_on plan d l (Dif k) p rank apart a b carried = absurd (low_dif plan p k l.a (slice_get plan.difs k) refl rank a)
placed_on plan d l (Wire n) p rank apart a b carried =
    let ends_at : slice_get (map wire_ends plan.wires) n ≡ option_map wire_ends (slice_get plan.wires n) = slice_get-map wire_ends plan.wires n in
    let a' : has_end l.a (option_map wire_ends (slice_get plan.wires n)) ≡ true = subst (λ (o : Option WireEnds). has_end l.a o ≡ true) ends_at a in
    let w = its_wire plan n l.a (slice_get plan.wires n) refl a' in
    let is : slice_get (map wire_ends plan.wires) n ≡ Some (wire_ends w.wire) = ends_at ∙ ap (option_map wire_ends) w.at in
    let a_in : has_end l.a (Some (wire_ends w.wire)) ≡ true = subst (λ (o : Option WireEnds). has_end l.a o ≡ true) is a in
    let b_in : has_end l.b (Some (wire_ends w.wire)) ≡ true = subst (λ (o : Option WireEnds). has_end l.b o ≡ true) is b in
    let cube_is : wire_carries d.pdu l.cube (Some (wire_ends w.wire)) ≡ true = subst (λ (o : Option WireEnds). wire_carries d.pdu l.cube o ≡ true) is carried in
    let zero_is : l.cube ≡ 0 = same l.cube 0 (and_parts (l.cube == 0) (nat_le d.pdu w.wire.largest) cube_is).0 in
    record {
      facility = fresh_wire w.wire;
      stands = shows_wire plan n ∙ ap (option_map fresh_wire) w.at;
      apart = apart;
      a_in = an_end w.wire.a w.wire.b l.a a_in;
      b_in = an_end w.wire.a w.wire.b l.b b_in;
      cube = offer_of (line_of w.wire);
      offer = its_cube w.wire l.cube zero_is;
    }

placed_links : (plan : Plan) (j : ℕ) (o : Option DifPlan) → IsPlan plan → slice_get plan.difs j ≡ o → ArePlaced (seen_of (air_of plan)) (cond (rank_in o == 1) (links_in plan o) [])
placed_links plan j None p at = placed_if (seen_of (air_of plan)) (0 == 1) [] (λ h. tt)
placed_links plan j (Some d) p at = placed_if (seen_of (air_of plan)) (d.rank == 1) (map (link_fixed plan d) d.links) (λ h. placed_map (seen_of (air_of plan)) (link_fixed plan d) d.links (λ k l link.
    let f = link_facts plan p j d at k l link in
    placed_on plan d l l.on p (f.rank ∙ same d.rank 1 h) f.apart f.a_there f.b_there f.carried))

all_placed : (plan : Plan) → IsPlan plan → ArePlaced (seen_of (air_of plan)) (links_at plan 1)
all_placed plan p = placed_flat (seen_of (air_of plan)) (λ i. cond (rank_of plan.difs (Dif i) == 1) (links_of plan i) []) (range_with_len 0 (length plan.difs)) (λ j. placed_links plan j (slice_get plan.difs j) p refl)

-- How many links there are on a wire

counts_on : (plan : Plan) → IsPlan plan → (n node a b : ℕ) (on : Lower) → rank_of plan.difs on + 1 ≡ 1 → is_there (map wire_ends plan.wires) plan.difs a on ≡ true → ((facility_number plan.difs on == n) && ((a == node) || (b == node))) ≡ true → is_on_wire n on ≡ true
counts_on plan p n node a b (Dif k) rank there h = absurd (low_dif plan p k a (slice_get plan.difs k) refl rank there)
counts_on plan p n node a b (Wire w) rank there h = (and_parts (w == n) ((a == node) || (b == node)) h).0

abbrev its_links : Option DifPlan → List LinkPlan
its_links None = []
its_links (Some d) = d.links

links_count : (plan : Plan) → IsPlan plan → (n node j : ℕ) (o : Option DifPlan) → slice_get plan.difs j ≡ o
    → count_by (ends_there n node) (cond (rank_in o == 1) (links_in plan o) []) ≤ count_by (λ (l : LinkPlan). is_on_wire n l.on) (its_links o)
links_count plan p n node j None here = none_or (ends_there n node) (0 == 1) [] 0 (λ h. omega arith)
links_count plan p n node j (Some e) here = none_or (ends_there n node) (e.rank == 1) (map (link_fixed plan e) e.links) (count_by (λ (l : LinkPlan). is_on_wire n l.on) e.links) (λ h.
    count_map (ends_there n node) (λ (l : LinkPlan). is_on_wire n l.on) (link_fixed plan e) e.links (λ k l link g.
    let f = link_facts plan p j e here k l link in
    counts_on plan p n node l.a l.b l.on (f.rank ∙ same e.rank 1 h) f.a_there g))

load : (plan : Plan) → IsPlan plan → (n node : ℕ) → count_by (ends_there n node) (links_at plan 1) ≤ load_of (all_links plan.difs) n
load plan p n node =
    let g : ℕ → List Fixed = λ j. cond (rank_of plan.difs (Dif j) == 1) (links_of plan j) [] in
    let places : List ℕ = range_with_len 0 (length plan.difs) in
    let q : LinkPlan → Bool = λ l. is_on_wire n l.on in
    let split : count_by (ends_there n node) (flat_map g places) ≡ sum_by (λ j. count_by (ends_there n node) (g j)) places = count_flat (ends_there n node) g places in
    let each : sum_by (λ j. count_by (ends_there n node) (g j)) places ≤ sum_by (λ j. count_by q (its_links (slice_get plan.difs j))) places =
    sum_by-le-sum_by (λ j. count_by (ends_there n node) (g j)) (λ j. count_by q (its_links (slice_get plan.difs j))) places (λ j. links_count plan p n node j (slice_get plan.difs j) refl) in
    let over : sum_by (λ j. count_by q (its_links (slice_get plan.difs j))) places ≡ sum_by (λ (e : DifPlan). count_by q e.links) plan.difs = over_places (λ o. count_by q (its_links o)) plan.difs in
    let whole : count_by q (flat_map (λ (e : DifPlan). e.links) plan.difs) ≡ sum_by (λ (e : DifPlan). count_by q e.links) plan.difs = count_flat q (λ (e : DifPlan). e.links) plan.difs in
    omega (arith, split, each, over, whole)

room_on : (plan : Plan) → IsPlan plan → (n node : ℕ) (f : Fac) (o : Option WirePlan) → slice_get plan.wires n ≡ o → option_map fresh_wire o ≡ Some f → drawn_at node f.ends + count_by (ends_there n node) (links_at plan 1) ≤ f.admits
room_on plan p n node f None at h = cc
room_on plan p n node f (Some w) at h =
    let is : fresh_wire w ≡ f = same_Some (fresh_wire w) f h in
    let one : load_of (all_links plan.difs) n ≤ 1 = p.single n (slice_get_within plan.wires n w at) in
    let here = load plan p n node in
    subst (λ (g : Fac). drawn_at node g.ends + count_by (ends_there n node) (links_at plan 1) ≤ g.admits) is (omega (arith, one, here))

has_room : (plan : Plan) → IsPlan plan → HasRoom (seen_of (air_of plan)) (links_at plan 1)
has_room plan p n node f stands = room_on plan p n node f (slice_get plan.wires n) refl (sym (shows_wire plan n) ∙ stands)

pub wires_fit : WiresFit
wires_fit plan p = binds_fit (seen_of (air_of plan)) (links_at plan 1) refl (all_placed plan p) (has_room plan p)
