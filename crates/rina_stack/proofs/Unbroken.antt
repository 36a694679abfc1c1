-- What holds of a stack that breaks none of the rules from 8 on.
use Rattle.std.proofs.Common.{◌≡◌, ◌≢◌, ℕ, ◌+◌, ◌<◌, ◌≤◌, nat_lt, Bool, false, cond, ◌||◌, ◌==◌, List, length, map, get_or, Option, Some, None, Ok, refl, sym, ◌∙◌, arith}
use Rattle.std.specs.Prelude.{All, option_map}
use Rattle.std.proofs.lemmas.Bool.{false_from_ne_true, false≢true, or_parts}
use Rattle.std.proofs.lemmas.Bool.Decides.{nat_tests}
use Rattle.std.proofs.lemmas.List.Folds.{list_any_at}
use Rattle.std.specs.List.{list_any, position}
use Rattle.rina_plan.specs.declared.dif.DifPlan.{DifPlan}
use Rattle.rina_plan.specs.declared.dif.WireEnds.{WireEnds}
use Rattle.rina_cube.specs.Cubes.{IsCube}
use Rattle.rina_plan.specs.Difs.{lacks_lower, lacks_cubes, is_mistimed, has_mistimed, is_misplaced, has_unfit_pdu, has_oversized}
use Rattle.rina_plan.specs.Links.{is_misused, has_unfit_link, is_uncarried}
use Rattle.rina_plan.specs.Walks.{is_unjoined}
use Rattle.rina_plan.specs.Counts.{links_of, load_of, first_loaded, first_full, IsRoomy}
use Rattle.rina_plan.proofs.Places.{nowhere}
use Rattle.rina_plan.proofs.Carried.{each_roomy, single}
use Rattle.rina_table.specs.declared.sketch.WireSketch.{WireSketch}
use Rattle.rina_table.specs.declared.sketch.Sketch.{Sketch}
use Rattle.rina_table.specs.Faults.{unless}
use Rattle.rina_stack.specs.Rules.{first_wire, is_unfit_wire, spread_of, top_fault}
use Rattle.rina_stack.specs.Order.{ends_of, alone_at, linked_at, difs_at, rules_at}
use Rattle.rina_stack.specs.Ranges.{IsFlowCube, IsManageCube}
use Rattle.rina_stack.specs.Unbroken.{NoDif}
use Rattle.rina_stack.proofs.Inversion.{bind_ok, unbroken}
use Rattle.rina_stack.proofs.SoundDif.{whole_cube}

-- no element passes a test
pub none_pass : {X : Type 0} (p : X → Bool) (xs : List X) → list_any p xs ≡ false → All (λ x. p x ≡ false) xs
none_pass p xs h = λ k d within. false_from_ne_true (p (get_or xs k d)) (λ passes. false≢true (sym h ∙ list_any_at p xs k d within passes))

pub no_more : (f : ℕ → ℕ) (o : Option ℕ) → option_map f o ≡ None → o ≡ None
no_more f None h = refl
no_more f (Some i) h = cc

few_of : (a b c : ℕ) → cond {A = Option ℕ} (nat_lt 64 a || nat_lt 128 b || nat_lt 16 c) (Some 0) None ≡ None → (a ≤ 64) × (b ≤ 128) × (c ≤ 16)
few_of a b c h = (grind (arith, nat_tests), grind (arith, nat_tests), grind (arith, nat_tests))

few : (s : Sketch) → top_fault s ≡ None → (length s.nodes ≤ 64) × (length s.wires ≤ 128) × (length s.difs ≤ 16)
unfolding top_fault
few s h = few_of (length s.nodes) (length s.wires) (length s.difs) h

straight_of : (a b life reach : ℕ) → ((a == b) || nat_lt life reach) ≡ false → (a ≢ b) × (reach ≤ life)
straight_of a b life reach h = (grind (arith, nat_tests), grind (arith, nat_tests))

pub straight : (w : WireSketch) → is_unfit_wire w ≡ false → (w.a ≢ w.b) × (w.delay + spread_of w.storm ≤ w.life)
unfolding is_unfit_wire
straight w h = straight_of w.a w.b w.life (w.delay + spread_of w.storm) h

-- no DIF breaks a rule
pub record NoneBrokenBy (wires : List WireEnds) (difs : List DifPlan) : Type 0 where
  pub ranks : NoDif (lacks_lower difs) difs
  pub cubes : NoDif lacks_cubes difs
  pub times : NoDif has_mistimed difs
  pub members : NoDif is_misplaced difs
  pub pdus : NoDif has_unfit_pdu difs
  pub sdus : NoDif has_oversized difs
  pub uses : NoDif (is_misused difs) difs
  pub links : NoDif (has_unfit_link wires difs) difs
  pub carried : NoDif (is_uncarried wires difs) difs
  pub single : (i : ℕ) → i < length wires → load_of (links_of difs) i ≤ 1
  pub joined : NoDif (is_unjoined difs) difs

no_dif : (n first : ℕ) (p : DifPlan → Bool) (difs : List DifPlan) (t : Unit {0}) → unless n (option_map (λ i. first + i) (position p difs)) ≡ Ok t → NoDif p difs
no_dif n first p difs t h = nowhere p difs (no_more (λ i. first + i) (position p difs) (unbroken n (option_map (λ i. first + i) (position p difs)) t h))

-- nor one of those that it breaks by itself
record NoneAlone (difs : List DifPlan) : Type 0 where
  ranks : NoDif (lacks_lower difs) difs
  cubes : NoDif lacks_cubes difs
  times : NoDif has_mistimed difs
  members : NoDif is_misplaced difs
  pdus : NoDif has_unfit_pdu difs
  sdus : NoDif has_oversized difs

none_alone : (first : ℕ) (difs : List DifPlan) (t : Unit {0}) → alone_at first difs ≡ Ok t → NoneAlone difs
unfolding alone_at
none_alone first difs t h =
    let (_, r9, h10) = bind_ok (unless 9 (option_map (λ i. first + i) (position (lacks_lower difs) difs))) _ t h in
    let (_, r10, h11) = bind_ok (unless 10 (option_map (λ i. first + i) (position lacks_cubes difs))) _ t h10 in
    let (_, r11, h12) = bind_ok (unless 11 (option_map (λ i. first + i) (position has_mistimed difs))) _ t h11 in
    let (_, r12, h13) = bind_ok (unless 12 (option_map (λ i. first + i) (position is_misplaced difs))) _ t h12 in
    let (_, r13, h14) = bind_ok (unless 13 (option_map (λ i. first + i) (position has_unfit_pdu difs))) _ t h13 in
    record {
      ranks = no_dif 9 first (lacks_lower difs) difs _ r9;
      cubes = no_dif 10 first lacks_cubes difs _ r10;
      times = no_dif 11 first has_mistimed difs _ r11;
      members = no_dif 12 first is_misplaced difs _ r12;
      pdus = no_dif 13 first has_unfit_pdu difs _ r13;
      sdus = no_dif 14 first has_oversized difs t h14;
    }

none_by : (first : ℕ) (wires : List WireEnds) (difs : List DifPlan) (t : Unit {0}) → difs_at first wires difs ≡ Ok t → NoneBrokenBy wires difs
unfolding difs_at linked_at
none_by first wires difs t h =
    let (u, by_itself, h15) = bind_ok (alone_at first difs) _ t h in
    let alone = none_alone first difs u by_itself in
    let (_, r15, h16) = bind_ok (unless 15 (option_map (λ i. first + i) (position (is_misused difs) difs))) _ t h15 in
    let (_, r16a, h16b) = bind_ok (unless 16 (option_map (λ i. 1 + i) (first_loaded (length wires) difs))) _ t h16 in
    let (_, r16, h17) = bind_ok (unless 16 (option_map (λ i. first + i) (position (has_unfit_link wires difs) difs))) _ t h16b in
    let (_, r17, h18) = bind_ok (unless 17 (option_map (λ i. first + i) (position (is_uncarried wires difs) difs))) _ t h17 in
    record {
      ranks = alone.ranks;
      cubes = alone.cubes;
      times = alone.times;
      members = alone.members;
      pdus = alone.pdus;
      sdus = alone.sdus;
      uses = no_dif 15 first (is_misused difs) difs _ r15;
      links = no_dif 16 first (has_unfit_link wires difs) difs _ r16;
      carried = no_dif 17 first (is_uncarried wires difs) difs _ r17;
      single = single (length wires) difs (no_more (λ i. 1 + i) (first_loaded (length wires) difs) (unbroken 16 (option_map (λ i. 1 + i) (first_loaded (length wires) difs)) _ r16a));
      joined = no_dif 18 first (is_unjoined difs) difs t h18;
    }

-- a stack breaks none of the rules from 8 on
pub record NoneBroken (s : Sketch) : Type 0 where
  pub few_nodes : length s.nodes ≤ 64
  pub few_wires : length s.wires ≤ 128
  pub few_difs : length s.difs ≤ 16
  pub wires : All (λ w. is_unfit_wire w ≡ false) s.wires
  pub difs : NoneBrokenBy (map ends_of s.wires) s.difs
  pub counts : (i : ℕ) (e : DifPlan) → i < length s.difs → IsRoomy (links_of s.difs) i (get_or s.difs i e)

pub unbroken_all : (s : Sketch) (t : Unit {0}) → rules_at s ≡ Ok t → NoneBroken s
unfolding rules_at
unbroken_all s t h =
    let (_, r8, h9) = bind_ok (unless 8 (first_wire is_unfit_wire s.wires)) _ t h in
    let (tried, r9, h19) = bind_ok (difs_at (1 + length s.wires) (map ends_of s.wires) s.difs) _ t h9 in
    let (top, r19, h19b) = bind_ok (unless 19 (top_fault s)) _ t h19 in
    let counts = few s (unbroken 19 (top_fault s) top r19) in
    let none_full = no_more (λ i. 1 + length s.wires + i) (first_full s.difs) (unbroken 19 (option_map (λ i. 1 + length s.wires + i) (first_full s.difs)) t h19b) in
    record {
      few_nodes = counts.0;
      few_wires = counts.1;
      few_difs = counts.2;
      wires = nowhere is_unfit_wire s.wires (no_more (λ i. 1 + i) (position is_unfit_wire s.wires) (unbroken 8 (first_wire is_unfit_wire s.wires) _ r8));
      difs = none_by (1 + length s.wires) (map ends_of s.wires) s.difs tried r9;
      counts = each_roomy s.difs none_full;
    }

-- the cubes of a DIF, with the times of their kinds
pub whole_cubes : (d : DifPlan) → IsManageCube d.manage → All IsFlowCube d.cubes → has_mistimed d ≡ false → IsCube d.manage × All IsCube d.cubes
unfolding has_mistimed
whole_cubes d manage cubes h =
    let (one, others) = or_parts (is_mistimed d.manage) (list_any is_mistimed d.cubes) h in
    (whole_cube d.manage manage.ranged one, λ k e within. whole_cube (get_or d.cubes k e) (cubes k e within).ranged (none_pass is_mistimed d.cubes others k e within))
