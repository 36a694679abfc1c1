-- A rank that was just made, and the wires at the start, are ground for the rank above.
use Rattle.std.proofs.Common.{◌≡◌, ◌∙◌, ℕ, zero, suc, ◌+◌, ◌-◌, ◌*◌, ◌^◌, ◌≤◌, ◌<◌, ◌==◌, cond, Bool, true, false, List, [], ◌∷◌, ◌++◌, length, map, slice_get, take, Option, option_map, Some, None, refl, sym, ap, subst, arith, inl, inr}
use Rattle.std.specs.Prelude.{count_by, flat_map}
use Rattle.std.specs.List.{range_with_len}
use Rattle.std.proofs.lemmas.Bool.Decides.{eqb_tells, nat_tests}
use Rattle.std.proofs.lemmas.List.Concat.{flat_map-cons}
use Rattle.std.proofs.lemmas.Option.{same_Some, slice_get-map, slice_get_within}
use Rattle.rina_iface.proofs.Changed.{all_at}
use Rattle.rina_iface.specs.declared.ask.Fixed.{Fixed}
use Rattle.rina_iface.specs.declared.ask.Registered.{Registered}
use Rattle.rina_iface.specs.declared.ends.End.{End}
use Rattle.rina_iface.specs.Seen.{Fac, Offer, Seen}
use Rattle.rina_plan.specs.declared.dif.DifPlan.{DifPlan}
use Rattle.rina_plan.specs.declared.dif.MemberPlan.{MemberPlan}
use Rattle.rina_plan.specs.declared.dif.Lower.TheVariants.{Dif as IsDif}
use Rattle.rina_plan.specs.Links.{rank_in, rank_of}
use Rattle.rina_plan.specs.Numbers.{number_in_rank}
use Rattle.rina_stack.specs.declared.plan.Plan.{Plan}
use Rattle.rina_stack.specs.declared.plan.WirePlan.{WirePlan}
use Rattle.rina_stack.specs.Ranges.{IsRangedDif}
use Rattle.rina_stack.specs.Plan.{IsPlan}
use Rattle.rina_data.proofs.Finding.{there}
use Rattle.rina_dif_law.proofs.Own.{map_at}
use Rattle.rina_data.specs.declared.settings.Member.{Member as Kept}
use Rattle.rina_data.specs.declared.settings.Settings.{Settings}
use Rattle.rina_dif_law.specs.Dif.{offer_of}
use Rattle.rina_dif.specs.declared.dif.Dif.{Dif}
use Rattle.rina_dif.specs.Laying.{CanBindAll}
use Rattle.rina_dif.specs.Planned.{flows_in, flows_of, members_from, processes_before}
use Rattle.rina_member.specs.Start.{first_enrolled}
use Rattle.rina_wire.specs.Air.{seen_of as seen_of_wires}
use Rattle.rina_wire.specs.Plan.{air_of}
use Rattle.rina_tower.specs.Built.{AreMade, has_rank, places_in}
use Rattle.rina_tower.specs.Fits.{IsFreshRank, flows_at, fresh_dif, links_at}
use Rattle.rina_tower.specs.Layout.{IsGround}
use Rattle.rina_tower.specs.Ranks.{fac_of_dif, seen_of_difs}
use Rattle.rina_tower.proofs.FitDifs.{difs_fit}
use Rattle.rina_tower.proofs.FitMade.{HasPlan, IsMadeAt, append_nil, in_last, in_two, made_at, made_long, places_count, places_more, planned, rank_is}
use Rattle.rina_tower.proofs.FitTakes.{difs_take, wires_take}
use Rattle.rina_tower.proofs.FitWires.{fresh_wire, shows_wire, wires_fit}

-- Places and numbers

abbrev ranked : ℕ → DifPlan → Bool
ranked r d = d.rank == r

in_cond : (b : Bool) (n k i : ℕ) → slice_get (cond b (n ∷ []) []) k ≡ Some i → (b ≡ true) × (n ≡ i) × (k ≡ 0)
in_cond true n k i h = let l = in_last n k i h in (refl, l.0, l.1)
in_cond false n k i h = cc

-- the place at an index has the rank, and so many of the rank before it
place_facts : (plan : Plan) (r m n i : ℕ) → m ≤ length plan.difs → slice_get (places_in plan r m) n ≡ Some i → (has_rank plan r i ≡ true) × (count_by (ranked r) (take i plan.difs) ≡ n)
place_facts plan r zero n i within h = cc
place_facts plan r (suc m) n i within h =
    let next : suc m ≡ m + 1 = omega arith in
    let at : slice_get (places_in plan r m ++ cond (has_rank plan r m) (m ∷ []) []) n ≡ Some i = ap (λ (xs : List ℕ). slice_get xs n) (sym (places_more plan r m)) ∙ subst (λ (q : ℕ). slice_get (places_in plan r q) n ≡ Some i) next h in
    elim (in_two (places_in plan r m) (cond (has_rank plan r m) (m ∷ []) []) n i at) [
      | inl old ↦ place_facts plan r m n i (omega (arith, within)) old
      | inr new ↦
          let c = in_cond (has_rank plan r m) m new.place i new.stands in
          let count = places_count plan r m (omega (arith, within)) in
          (subst (λ (q : ℕ). has_rank plan r q ≡ true) c.1 c.0, let sum = new.sum in let none = c.2 in subst (λ (q : ℕ). count_by (ranked r) (take q plan.difs) ≡ n) c.1 (omega (arith, count, sum, none)))
    ]

at_front : (xs ys : List ℕ) (k i : ℕ) → slice_get xs k ≡ Some i → slice_get (xs ++ ys) k ≡ Some i
at_front [] ys k i h = cc
at_front (x ∷ xs) ys zero i h = h
at_front (x ∷ xs) ys (suc k) i h = at_front xs ys k i h

at_back : (xs : List ℕ) (i : ℕ) → slice_get (xs ++ i ∷ []) (length xs) ≡ Some i
at_back [] i = refl
at_back (x ∷ xs) i = at_back xs i

-- and each place of the rank stands at its number
place_there : (plan : Plan) (r m i : ℕ) → m ≤ length plan.difs → i < m → has_rank plan r i ≡ true → slice_get (places_in plan r m) (count_by (ranked r) (take i plan.difs)) ≡ Some i
place_there plan r zero i within before own = absurd (omega (arith, before))
place_there plan r (suc m) i within before own =
    let next : m + 1 ≡ suc m = omega arith in
    let n : ℕ = count_by (ranked r) (take i plan.difs) in
    let goal : slice_get (places_in plan r m ++ cond (has_rank plan r m) (m ∷ []) []) n ≡ Some i = elim (eqb_tells i m) [
      | inl t ↦
          let yes : has_rank plan r m ≡ true = subst (λ (q : ℕ). has_rank plan r q ≡ true) t.1 own in
          let count : length (places_in plan r m) ≡ n = places_count plan r m (omega (arith, within)) ∙ ap (λ (q : ℕ). count_by (ranked r) (take q plan.difs)) (sym t.1) in
          let back : slice_get (places_in plan r m ++ m ∷ []) n ≡ Some m = subst (λ (q : ℕ). slice_get (places_in plan r m ++ m ∷ []) q ≡ Some m) count (at_back (places_in plan r m) m) in
          ap (λ (b : Bool). slice_get (places_in plan r m ++ cond b (m ∷ []) []) n) yes ∙ (back ∙ ap (λ (q : ℕ). Some q) (sym t.1))
      | inr u ↦ (let ne = u.1 in at_front (places_in plan r m) (cond (has_rank plan r m) (m ∷ []) []) n i (place_there plan r m i (omega (arith, within)) (omega (arith, before, ne)) own))
    ] in
    subst (λ (q : ℕ). slice_get (places_in plan r q) n ≡ Some i) next (ap (λ (xs : List ℕ). slice_get xs n) (places_more plan r m) ∙ goal)

-- the number of a DIF of the rank
number_is : (plan : Plan) (r i : ℕ) → has_rank plan r i ≡ true → number_in_rank plan.difs i ≡ count_by (ranked r) (take i plan.difs)
number_is plan r i own = let rank : rank_of plan.difs (IsDif i) ≡ r = same (rank_of plan.difs (IsDif i)) r own in ap (λ (m : ℕ). count_by (λ (z : DifPlan). z.rank == m) (take i plan.difs)) rank
  where
    same : (m n : ℕ) → (m == n) ≡ true → m ≡ n
    same m n h = grind (arith, nat_tests)

-- A new DIF as a facility

nodes_from : (plan : Plan) (d : DifPlan) (n : ℕ) (ms : List MemberPlan) → map (λ (m : Kept). m.node) (members_from plan d n ms) ≡ map (λ (m : MemberPlan). m.node) ms
nodes_from plan d n [] = refl
nodes_from plan d n (m ∷ ms) = ap (λ (ks : List ℕ). m.node ∷ ks) (nodes_from plan d (n + 1) ms)

-- the nodes of those that are enrolled from the start
enrolled_from : (plan : Plan) (d : DifPlan) (n : ℕ) (is_static : Bool) (ms : List MemberPlan) → map (λ (m : Kept). m.node) (first_enrolled is_static (members_from plan d n ms)) ≡ map (λ (m : MemberPlan). m.node) (cond is_static ms (take 1 ms))
enrolled_from plan d n true ms = nodes_from plan d n ms
enrolled_from plan d n false [] = refl
enrolled_from plan d n false (m ∷ ms) = refl

abbrev fac_with : List End → List ℕ → List Registered → List ℕ → List Offer → ℕ → Fac
fac_with ends waiting names members cubes admits = record { ends = ends; waiting = waiting; names = names; members = members; cubes = cubes; admits = admits }

fac_is : (ends : List End) (waiting : List ℕ) (names : List Registered) (members members' : List ℕ) (cubes cubes' : List Offer) (admits admits' : ℕ) → ends ≡ [] → waiting ≡ [] → names ≡ [] → members ≡ members' → cubes ≡ cubes' → admits ≡ admits' → fac_with ends waiting names members cubes admits ≡ fac_with [] [] [] members' cubes' admits'
fac_is ends waiting names members members' cubes cubes' admits admits' e w n m c a = rw (e, w, n, m, c, a) refl

fresh_of : (plan : Plan) (places : List ℕ) (n : ℕ) (x : Dif) (m : IsMadeAt plan places n x) (p : HasPlan plan m.place x.settings) → fac_of_dif x ≡ fresh_dif p.dif
fresh_of plan places n x m p =
    let enrolled : x.enrolled ≡ map (λ (k : MemberPlan). k.node) (cond p.dif.is_static p.dif.members (take 1 p.dif.members)) = m.enrolled p.dif p.at ∙ (ap (λ (t : Settings). map (λ (k : Kept). k.node) (first_enrolled p.dif.is_static t.members)) p.is ∙ enrolled_from plan p.dif (processes_before plan.difs m.place) p.dif.is_static p.dif.members) in
    let cubes : map offer_of x.settings.cubes ≡ map offer_of p.dif.cubes = ap (λ (t : Settings). map offer_of t.cubes) p.is in
    let admits : x.settings.admits ≡ cond p.dif.is_static (2 ^ (8 * p.dif.widths.cep) - 1) 0 = ap (λ (t : Settings). t.admits) p.is in
    fac_is x.flows.journal.ends x.waiting.items x.names x.enrolled (map (λ (k : MemberPlan). k.node) (cond p.dif.is_static p.dif.members (take 1 p.dif.members))) (map offer_of x.settings.cubes) (map offer_of p.dif.cubes) x.settings.admits (cond p.dif.is_static (2 ^ (8 * p.dif.widths.cep) - 1) 0) m.ends m.waiting m.names enrolled cubes admits

same_dif : (plan : Plan) (i : ℕ) (d e : DifPlan) → slice_get plan.difs i ≡ Some d → slice_get plan.difs i ≡ Some e → e ≡ d
same_dif plan i d e at at' = same_Some e d (sym at' ∙ at)

pub fresh_rank : (plan : Plan) (r : ℕ) (ground : Seen) (difs : List Dif) (below : Seen) → 1 ≤ r → AreMade plan (places_in plan r (length plan.difs)) ground difs below → IsFreshRank plan r (seen_of_difs 0 difs)
fresh_rank plan r ground difs below least made = record {
  start = refl;
  least = least;
  each = λ i d at rank.
      let own : has_rank plan r i ≡ true = ap (λ (o : Option DifPlan). rank_in o == r) at ∙ (ap (λ (m : ℕ). m == r) rank ∙ same_is r) in
      let n : ℕ = count_by (ranked r) (take i plan.difs) in
      let is_place : slice_get (places_in plan r (length plan.difs)) n ≡ Some i = place_there plan r (length plan.difs) i (omega arith) (slice_get_within plan.difs i d at) own in
      let long : length difs ≡ length (places_in plan r (length plan.difs)) = made_long plan (places_in plan r (length plan.difs)) ground difs below made in
      let room = slice_get_within (places_in plan r (length plan.difs)) n i is_place in
      let x = there difs n (omega (arith, long, room)) in
      let m = made_at plan (places_in plan r (length plan.difs)) ground difs below made n x.0 x.1 in
      let p = planned plan m.place x.0.settings m.settings in
      let place_is : m.place ≡ i = same_Some m.place i (sym m.is_place ∙ is_place) in
      let dif_is : p.dif ≡ d = same_dif plan i d p.dif at (subst (λ (q : ℕ). slice_get plan.difs q ≡ Some p.dif) place_is p.at) in
      ap (slice_get (map fac_of_dif difs)) (number_is plan r i own) ∙ (slice_get-map fac_of_dif difs n ∙ (ap (option_map fac_of_dif) x.1 ∙ ap (λ (f : Fac). Some f) (fresh_of plan (places_in plan r (length plan.difs)) n x.0 m p ∙ ap fresh_dif dif_is)));
  only = λ n f at.
      let x = map_at fac_of_dif difs n f at in
      let m = made_at plan (places_in plan r (length plan.difs)) ground difs below made n x.0 x.1 in
      let p = planned plan m.place x.0.settings m.settings in
      let facts = place_facts plan r (length plan.difs) n m.place (omega arith) m.is_place in
      record {
        place = m.place;
        dif = p.dif;
        stands = p.at;
        rank = rank_is plan r m.place p.dif p.at facts.0;
        number = number_is plan r m.place facts.0 ∙ facts.1;
        is = x.2 ∙ fresh_of plan (places_in plan r (length plan.difs)) n x.0 m p;
      };
}
  where
    same_is : (n : ℕ) → (n == n) ≡ true
    same_is n = grind (arith, nat_tests)

-- Ground

pub rank_ground : (plan : Plan) (r : ℕ) (ground : Seen) (difs : List Dif) (below : Seen) → IsPlan plan → 1 ≤ r → AreMade plan (places_in plan r (length plan.difs)) ground difs below → IsGround plan r (seen_of_difs 0 difs)
rank_ground plan r ground difs below p least made =
    let fresh = fresh_rank plan r ground difs below least made in
    record {
      empty = λ n f at. (let a = fresh.only n f at in ap (λ (g : Fac). g.ends) a.is);
      can = difs_fit plan r (seen_of_difs 0 difs) p fresh;
      take = λ i d s' at rank stay j l link. difs_take plan r i d (seen_of_difs 0 difs) s' p fresh at rank stay j l link;
    }

no_flows_in : (plan : Plan) → IsPlan plan → (j : ℕ) (o : Option DifPlan) → slice_get plan.difs j ≡ o → cond (rank_in o == 0) (flows_in plan j o) [] ≡ []
no_flows_in plan p j None at = refl
no_flows_in plan p j (Some d) at =
    let least = (all_at (IsRangedDif (length plan.nodes) (length plan.wires) (length plan.difs)) plan.difs j d p.difs at).least_rank in
    let no : (d.rank == 0) ≡ false = grind (arith, nat_tests, least) in
    ap (λ (b : Bool). cond b (flows_in plan j (Some d)) []) no

pub none_flat : (g : ℕ → List Fixed) (is : List ℕ) → ((i : ℕ) → g i ≡ []) → flat_map g is ≡ []
none_flat g [] none = refl
none_flat g (i ∷ is) none = flat_map-cons g i is ∙ (ap (λ (xs : List Fixed). xs ++ flat_map g is) (none i) ∙ none_flat g is none)

no_flows : (plan : Plan) → IsPlan plan → flows_at plan 0 ≡ []
no_flows plan p = none_flat (λ i. cond (rank_of plan.difs (IsDif i) == 0) (flows_of plan i) []) (range_with_len 0 (length plan.difs)) (λ j. no_flows_in plan p j (slice_get plan.difs j) refl)

wire_empty : (o : Option WirePlan) (f : Fac) → option_map fresh_wire o ≡ Some f → f.ends ≡ []
wire_empty None f h = cc
wire_empty (Some w) f h = ap (λ (g : Fac). g.ends) (sym (same_Some (fresh_wire w) f h))

pub wires_ground : (plan : Plan) → IsPlan plan → IsGround plan 0 (seen_of_wires (air_of plan))
wires_ground plan p = record {
  empty = λ n f at. wire_empty (slice_get plan.wires n) f (sym (shows_wire plan n) ∙ at);
  can = subst (CanBindAll (seen_of_wires (air_of plan))) (sym (ap (λ (fs : List Fixed). links_at plan 1 ++ fs) (no_flows plan p) ∙ append_nil (links_at plan 1))) (wires_fit plan p);
  take = λ i d s' at rank stay j l link. wires_take plan i d s' p at rank stay j l link;
}
