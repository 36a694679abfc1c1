-- The facility of a link takes the PDUs of its DIF.
use Rattle.std.proofs.Common.{◌≡◌, ℕ, ◌+◌, ◌≤◌, ◌==◌, ◌&&◌, ◌||◌, ◌∙◌, cond, Bool, true, false, List, [], ◌∷◌, length, map, slice_get, Some, Option, nat_le, option_map, refl, sym, ap, subst, arith}
use Rattle.std.specs.List.{list_any}
use Rattle.std.proofs.lemmas.Bool.{and_parts, or_parts}
use Rattle.std.proofs.lemmas.Bool.Decides.{nat_tests}
use Rattle.std.proofs.lemmas.Option.{same_Some, slice_get-map}
use Rattle.rina_cube.specs.declared.Cube.{Cube}
use Rattle.rina_dif_law.specs.Dif.{offer_of}
use Rattle.rina_iface.proofs.Changed.{all_at}
use Rattle.rina_iface.specs.Seen.{Fac, Offer, Seen, cube_in}
use Rattle.rina_plan.specs.declared.dif.DifPlan.{DifPlan}
use Rattle.rina_plan.specs.declared.dif.LinkPlan.{LinkPlan}
use Rattle.rina_plan.specs.declared.dif.Lower.{Lower}
use Rattle.rina_plan.specs.declared.dif.Lower.TheVariants.{Wire, Dif}
use Rattle.rina_plan.specs.declared.dif.WireEnds.{WireEnds}
use Rattle.rina_plan.specs.Difs.{has_twice, lacks_cubes}
use Rattle.rina_plan.specs.Links.{carries, has_end, is_there, rank_of, wire_carries}
use Rattle.rina_plan.specs.Numbers.{facility_number}
use Rattle.rina_stack.specs.declared.plan.Plan.{Plan}
use Rattle.rina_stack.specs.declared.plan.WirePlan.{WirePlan}
use Rattle.rina_stack.specs.Plan.{IsPlan, wire_ends}
use Rattle.rina_wire.specs.Air.{offer_of as wire_offer, seen_of}
use Rattle.rina_wire.specs.Plan.{air_of, line_of}
use Rattle.rina_tower.specs.Rooms.{OffersStay}
use Rattle.rina_tower.specs.Fits.{DifsTake, IsFreshRank, WiresTake, fresh_dif}
use Rattle.rina_tower.proofs.FitFacts.{any_map, any_weaker, link_facts}
use Rattle.rina_tower.proofs.FitDifs.{below_in}
use Rattle.rina_tower.proofs.FitWires.{fresh_wire, its_wire, low_dif, shows_wire}

within : (m n : ℕ) → nat_le m n ≡ true → m ≤ n
within m n h = grind (arith, nat_tests)

same : (m n : ℕ) → (m == n) ≡ true → m ≡ n
same m n h = grind (arith, nat_tests)

-- of cubes with different ids the one of an id takes what one of that id takes

takes : ℕ → ℕ → Cube → Bool
takes pdu id c = (c.id == id) && nat_le pdu c.largest

twice_parts : (x : ℕ) (xs : List ℕ) → has_twice (x ∷ xs) ≡ false → (list_any (λ y. y == x) xs ≡ false) × (has_twice xs ≡ false)
unfolding has_twice
twice_parts x xs h = or_parts (list_any (λ y. y == x) xs) (has_twice xs) h

no_other : (pdu id : ℕ) (cs : List Cube) → list_any (λ y. y == id) (map (λ (c : Cube). c.id) cs) ≡ false → list_any (λ (c : Cube). (c.id == id) && nat_le pdu c.largest) cs ≡ true → ⊥
no_other pdu id cs none h =
    let some : list_any (λ (c : Cube). c.id == id) cs ≡ true = any_weaker (λ (c : Cube). (c.id == id) && nat_le pdu c.largest) (λ (c : Cube). c.id == id) cs (λ c g. (and_parts (c.id == id) (nat_le pdu c.largest) g).0) h in
    let e : true ≡ false = sym some ∙ (sym (any_map (λ y. y == id) (λ (c : Cube). c.id) cs) ∙ none) in
    cc

found_takes : (pdu id : ℕ) (cs : List Cube) (o : Offer) → has_twice (map (λ (c : Cube). c.id) cs) ≡ false → list_any (λ (c : Cube). (c.id == id) && nat_le pdu c.largest) cs ≡ true → cube_in (map offer_of cs) id ≡ Some o → pdu ≤ o.largest
found_takes pdu id [] o once h at = cc
found_takes pdu id (c ∷ cs) o once h at =
    let parts = twice_parts c.id (map (λ (d : Cube). d.id) cs) once in
    elim (c.id == id) as (λ b. (c.id == id) ≡ b → ((b && nat_le pdu c.largest) || list_any (λ (d : Cube). (d.id == id) && nat_le pdu d.largest) cs) ≡ true → cond b (Some (offer_of c)) (cube_in (map offer_of cs) id) ≡ Some o → pdu ≤ o.largest) [
      | true ↦ λ e g k.
          let is : offer_of c ≡ o = same_Some (offer_of c) o k in
          let le : nat_le pdu c.largest ≡ true = elim (nat_le pdu c.largest) as (λ b. (b || list_any (λ (d : Cube). (d.id == id) && nat_le pdu d.largest) cs) ≡ true → b ≡ true) [
            | true ↦ λ q. refl
            | false ↦ λ q. absurd (no_other pdu id cs (subst (λ (n : ℕ). list_any (λ y. y == n) (map (λ (d : Cube). d.id) cs) ≡ false) (same c.id id e) parts.0) q)
          ] g in
          subst (λ (p : Offer). pdu ≤ p.largest) is (within pdu c.largest le)
      | false ↦ λ e g k. found_takes pdu id cs o parts.1 g k
    ] refl h at

once_in : (d : DifPlan) → lacks_cubes d ≡ false → has_twice (map (λ (c : Cube). c.id) d.cubes) ≡ false
unfolding lacks_cubes
once_in d h = (or_parts (length d.cubes == 0) (has_twice (map (λ (c : Cube). c.id) d.cubes)) h).1

-- A link

difs_take_on : (plan : Plan) (r : ℕ) (d : DifPlan) (fresh s : Seen) (l : LinkPlan) (on : Lower) → IsPlan plan → IsFreshRank plan r fresh → d.rank ≡ r + 1 → OffersStay fresh s
    → rank_of plan.difs on + 1 ≡ d.rank → carries (map wire_ends plan.wires) plan.difs d.pdu l.cube on ≡ true
    → (f : Fac) (o : Offer) → slice_get s.facs (facility_number plan.difs on) ≡ Some f → cube_in f.cubes l.cube ≡ Some o → d.pdu ≤ o.largest
difs_take_on plan r d fresh s l (Wire w) p rank up stay above carried f o at cube = absurd (let least = rank.least in omega (arith, up, above, least))
difs_take_on plan r d fresh s l (Dif k) p rank up stay above carried f o at cube =
    let e = below_in plan.difs k r (slice_get plan.difs k) refl (above ∙ up) rank.least in
    let all : list_any (λ (c : Cube). (c.id == l.cube) && nat_le d.pdu c.largest) e.dif.cubes ≡ true = rw e.at at carried in
    let was = stay (facility_number plan.difs (Dif k)) f at in
    let is : was.0 ≡ fresh_dif e.dif = same_Some was.0 (fresh_dif e.dif) (sym was.1 ∙ rank.each k e.dif e.at e.rank) in
    let cubes : f.cubes ≡ map offer_of e.dif.cubes = was.2 ∙ ap (λ (g : Fac). g.cubes) is in
    found_takes d.pdu l.cube e.dif.cubes o (once_in e.dif (all_at (λ (g : DifPlan). lacks_cubes g ≡ false) plan.difs k e.dif p.cubes e.at)) all (subst (λ (cs : List Offer). cube_in cs l.cube ≡ Some o) cubes cube)

pub difs_take : DifsTake
difs_take plan r i d fresh s p rank at up stay k l link f o facility cube =
    let c = link_facts plan p i d at k l link in
    difs_take_on plan r d fresh s l l.on p rank up stay c.rank c.carried f o facility cube

wire_found : (w : WirePlan) (cube : ℕ) (o : Offer) → cube ≡ 0 → cube_in (fresh_wire w).cubes cube ≡ Some o → o.largest ≡ w.largest
wire_found w cube o h at = let at' : Some (wire_offer (line_of w)) ≡ Some o = rw h at at in ap (λ (p : Offer). p.largest) (sym (same_Some (wire_offer (line_of w)) o at'))

wires_take_on : (plan : Plan) (d : DifPlan) (s : Seen) (l : LinkPlan) (on : Lower) → IsPlan plan → OffersStay (seen_of (air_of plan)) s
    → rank_of plan.difs on + 1 ≡ 1 → is_there (map wire_ends plan.wires) plan.difs l.a on ≡ true → carries (map wire_ends plan.wires) plan.difs d.pdu l.cube on ≡ true
    → (f : Fac) (o : Offer) → slice_get s.facs (facility_number plan.difs on) ≡ Some f → cube_in f.cubes l.cube ≡ Some o → d.pdu ≤ o.largest
wires_take_on plan d s l (Dif k) p stay rank there carried f o at cube = absurd (low_dif plan p k l.a (slice_get plan.difs k) refl rank there)
wires_take_on plan d s l (Wire n) p stay rank there carried f o at cube =
    let ends_at : slice_get (map wire_ends plan.wires) n ≡ option_map wire_ends (slice_get plan.wires n) = slice_get-map wire_ends plan.wires n in
    let w = its_wire plan n l.a (slice_get plan.wires n) refl (subst (λ (x : Option WireEnds). has_end l.a x ≡ true) ends_at there) in
    let is : slice_get (map wire_ends plan.wires) n ≡ Some (wire_ends w.wire) = ends_at ∙ ap (option_map wire_ends) w.at in
    let parts = and_parts (l.cube == 0) (nat_le d.pdu w.wire.largest) (subst (λ (x : Option WireEnds). wire_carries d.pdu l.cube x ≡ true) is carried) in
    let was = stay n f at in
    let was_is : was.0 ≡ fresh_wire w.wire = same_Some was.0 (fresh_wire w.wire) (sym was.1 ∙ (shows_wire plan n ∙ ap (option_map fresh_wire) w.at)) in
    let cubes : f.cubes ≡ (fresh_wire w.wire).cubes = was.2 ∙ ap (λ (g : Fac). g.cubes) was_is in
    let found : o.largest ≡ w.wire.largest = wire_found w.wire l.cube o (same l.cube 0 parts.0) (subst (λ (cs : List Offer). cube_in cs l.cube ≡ Some o) cubes cube) in
    let le = within d.pdu w.wire.largest parts.1 in
    omega (arith, found, le)

pub wires_take : WiresTake
wires_take plan i d s p at up stay k l link f o facility cube =
    let c = link_facts plan p i d at k l link in
    wires_take_on plan d s l l.on p stay (c.rank ∙ up) c.a_there c.carried f o facility cube
