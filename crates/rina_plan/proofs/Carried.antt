-- What holds where the rules on walks and on counts are not broken.
use Rattle.std.proofs.Common.{◌≡◌, ◌≢◌, ◌==◌, ◌||◌, ◌&&◌, ℕ, zero, suc, ◌+◌, ◌<◌, ◌≤◌, nat_lt, Bool, true, false, not, cond, List, [], ◌∷◌, length, count_by, get_or, Option, Some, None, refl, sym, ap, ◌∙◌, subst, arith}
use Rattle.std.specs.Prelude.{All}
use Rattle.std.specs.List.{list_any, range_with_len}
use Rattle.std.proofs.lemmas.Bool.{or_parts}
use Rattle.std.proofs.lemmas.Bool.Decides.{nat_tests}
use Rattle.std.proofs.lemmas.List.FromFn.{length-range_with_len, get_or-range_with_len}
use Rattle.rina_plan.specs.declared.dif.MemberPlan.{MemberPlan}
use Rattle.rina_plan.specs.declared.dif.Lower.{Lower}
use Rattle.rina_plan.specs.declared.dif.Lower.TheVariants.{Wire, Dif}
use Rattle.rina_plan.specs.declared.dif.LinkPlan.{LinkPlan}
use Rattle.rina_plan.specs.declared.dif.FlowPlan.{FlowPlan}
use Rattle.rina_plan.specs.declared.dif.DifPlan.{DifPlan}
use Rattle.rina_plan.specs.Difs.{greatest_of, is_crowded}
use Rattle.rina_plan.specs.Links.{is_member}
use Rattle.rina_plan.specs.Walks.{is_joined, has_cube, is_unfit_flow, joins_in, joins_on, is_unjoined_link, is_unjoined, IsCarriedFlow, AreJoinedOn, IsCarriedLink}
use Rattle.rina_plan.specs.Counts.{links_of, load_of, first_loaded, has_link_end, cep_ids_needed, is_overloaded, is_full, full_from, IsRoomy}
use Rattle.rina_plan.proofs.Places.{none_pass, nowhere}
use Rattle.rina_plan.proofs.Walking.{joined_walk}

-- ---- walks

unfit_flow_parts : (c e m n j : Bool) → (not c || e || not (m && n) || not j) ≡ false → (c ≡ true) × (e ≡ false) × (m ≡ true) × (n ≡ true) × (j ≡ true)
unfit_flow_parts false e m n j h = cc
unfit_flow_parts true true m n j h = cc
unfit_flow_parts true false false n j h = cc
unfit_flow_parts true false true false j h = cc
unfit_flow_parts true false true true false h = cc
unfit_flow_parts true false true true true h = (refl, refl, refl, refl, refl)

differ : (m n : ℕ) → (m == n) ≡ false → m ≢ n
differ m n h = grind (arith, nat_tests)

flow_carried : (d : DifPlan) (f : FlowPlan) → is_unfit_flow d f ≡ false → IsCarriedFlow d f
unfolding is_unfit_flow
flow_carried d f h =
    let (cube, apart, from, to, joined) = unfit_flow_parts (has_cube f.cube d) (f.from.node == f.to.node) (is_member f.from.node d) (is_member f.to.node d) (is_joined d.links f.from.node f.to.node) h in
    record { cube = cube; apart = differ f.from.node f.to.node apart; from = from; to = to; walk = joined_walk d.links f.from.node f.to.node joined }

not_false : (b : Bool) → not b ≡ false → b ≡ true
not_false true h = refl
not_false false h = cc

on_joined : (difs : List DifPlan) (m n : ℕ) (on : Lower) → joins_on difs m n on ≡ true → AreJoinedOn difs m n on
on_joined difs m n (Wire i) h = tt
on_joined difs m n (Dif i) h = λ d is. joined_walk d.links m n (ap (joins_in m n) (sym is) ∙ h)

pub carried : (difs : List DifPlan) (d : DifPlan) → is_unjoined difs d ≡ false → All (IsCarriedFlow d) d.flows × All (IsCarriedLink difs) d.links
unfolding is_unjoined
carried difs d h =
    let (flows, links) = or_parts (list_any (is_unfit_flow d) d.flows) (list_any (is_unjoined_link difs) d.links) h in (
      λ k e within. flow_carried d (get_or d.flows k e) (none_pass (is_unfit_flow d) d.flows flows k e within),
      λ k e within. let l = get_or d.links k e in on_joined difs l.a l.b l.on (not_false (joins_on difs l.a l.b l.on) (none_pass (is_unjoined_link difs) d.links links k e within)),
    )

-- ---- counts

crowd_of : (a b c : ℕ) → (nat_lt 64 a || nat_lt 8 b || nat_lt 256 c) ≡ false → (a ≤ 64) × (b ≤ 8) × (c ≤ 256)
crowd_of a b c h = (grind (arith, nat_tests), grind (arith, nat_tests), grind (arith, nat_tests))

not_crowded : (d : DifPlan) → is_crowded d ≡ false → (length d.members ≤ 64) × (length d.cubes ≤ 8) × (length d.rules ≤ 256)
unfolding is_crowded
not_crowded d h = crowd_of (length d.members) (length d.cubes) (length d.rules) h

at_most : (a b : ℕ) → nat_lt a b ≡ false → b ≤ a
at_most a b h = grind (arith, nat_tests)

not_strained : (links : List LinkPlan) (at : ℕ) (d : DifPlan) (m : MemberPlan) → is_overloaded links at d m ≡ false → (count_by (has_link_end m.node) d.links ≤ 16) × (cep_ids_needed links at d m.node ≤ greatest_of d.widths.cep)
unfolding is_overloaded
not_strained links at d m h =
    let (few, ids) = or_parts (nat_lt 16 (count_by (has_link_end m.node) d.links)) (nat_lt (greatest_of d.widths.cep) (cep_ids_needed links at d m.node)) h in
    (at_most 16 (count_by (has_link_end m.node) d.links) few, at_most (greatest_of d.widths.cep) (cep_ids_needed links at d m.node) ids)

roomy : (links : List LinkPlan) (at : ℕ) (d : DifPlan) → is_full links at d ≡ false → IsRoomy links at d
unfolding is_full
roomy links at d h =
    let (crowd, each) = or_parts (is_crowded d) (list_any (is_overloaded links at d) d.members) h in
    let (members, cubes, rules) = not_crowded d crowd in
    record {
      members = members;
      cubes = cubes;
      rules = rules;
      links = λ k e within. (not_strained links at d (get_or d.members k e) (none_pass (is_overloaded links at d) d.members each k e within)).0;
      ids = λ k e within. (not_strained links at d (get_or d.members k e) (none_pass (is_overloaded links at d) d.members each k e within)).1;
    }

not_here : (b : Bool) (n : ℕ) (rest : Option ℕ) → cond b (Some n) rest ≡ None → (b ≡ false) × (rest ≡ None)
not_here false n rest h = (refl, h)
not_here true n rest h = cc

all_roomy : (links : List LinkPlan) (at : ℕ) (ds : List DifPlan) → full_from links at ds ≡ None → (i : ℕ) (e : DifPlan) → i < length ds → IsRoomy links (at + i) (get_or ds i e)
unfolding full_from
all_roomy links at [] h = λ i e within. absurd (omega arith)
all_roomy links at (d ∷ ds) h = λ i e within.
    let (here, later) = not_here (is_full links at d) at (full_from links (at + 1) ds) h in
    elim i as (λ j. j < suc (length ds) → IsRoomy links (at + j) (get_or (d ∷ ds) j e)) [
      | zero ↦ λ _. let same : at ≡ at + 0 = omega arith in subst (λ n. IsRoomy links n d) same (roomy links at d here)
      | suc j ↦ λ room. let same : at + 1 + j ≡ at + suc j = omega arith in subst (λ n. IsRoomy links n (get_or ds j e)) same (all_roomy links (at + 1) ds later j e (omega arith))
    ]
    within

pub each_roomy : (difs : List DifPlan) → full_from (links_of difs) 0 difs ≡ None → (i : ℕ) (e : DifPlan) → i < length difs → IsRoomy (links_of difs) i (get_or difs i e)
each_roomy difs h = λ i e within.
    let same : 0 + i ≡ i = omega arith in
    subst (λ n. IsRoomy (links_of difs) n (get_or difs i e)) same (all_roomy (links_of difs) 0 difs h i e within)

pub single : (wires : ℕ) (difs : List DifPlan) → first_loaded wires difs ≡ None → (i : ℕ) → i < wires → load_of (links_of difs) i ≤ 1
unfolding first_loaded
single wires difs h = λ i within.
    let room : i < length (range_with_len 0 wires) = omega (arith, within, length-range_with_len 0 wires) in
    let fails = nowhere (λ k. nat_lt 1 (load_of (links_of difs) k)) (range_with_len 0 wires) h i 0 room in
    let same : get_or (range_with_len 0 wires) i 0 ≡ i = omega (arith, get_or-range_with_len 0 wires i 0 within) in
    at_most 1 (load_of (links_of difs) i) (ap (λ k. nat_lt 1 (load_of (links_of difs) k)) (sym same) ∙ fails)
