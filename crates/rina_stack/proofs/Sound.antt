-- What holds of the plan of a stack that breaks no rule.
use Rattle.std.proofs.Common.{◌≡◌, ◌≢◌, ℕ, ◌+◌, ◌^◌, ◌<◌, ◌≤◌, Bool, List, [], ◌∷◌, length, map, get_or, Option, Result, Ok, Err, IfOk, refl, sym, ap, arith, subst}
use Rattle.std.specs.Prelude.{All}
use Rattle.std.proofs.lemmas.List.{length-map}
use Rattle.std.proofs.lemmas.List.Elements.{All-map}
use Rattle.toml.specs.Data.{Data}
use Rattle.rina_plan.proofs.Carried.{carried}
use Rattle.rina_plan.proofs.Kept.{has_lower, has_cubes, has_members, has_roomy_pdu, has_fit_sdus, is_standing, fit_links, are_taken}
use Rattle.rina_plan.specs.declared.dif.DifPlan.{DifPlan}
use Rattle.rina_plan.specs.declared.dif.WireEnds.{WireEnds}
use Rattle.rina_stack.specs.declared.plan.Plan.{Plan}
use Rattle.rina_table.specs.declared.sketch.WireSketch.{WireSketch}
use Rattle.rina_table.specs.declared.sketch.Sketch.{Sketch}
use Rattle.rina_table.specs.declared.error.StackError.{StackError}
use Rattle.rina_table.specs.Faults.{Gives, unless}
use Rattle.rina_table.specs.Keys.{keys_fault}
use Rattle.rina_table.specs.Items.{sketch_at}
use Rattle.rina_stack.specs.Rules.{duplicate_fault, wire_names, spread_of}
use Rattle.rina_stack.specs.Order.{ends_of, rules_at}
use Rattle.rina_stack.specs.Scopes.{unresolved_scope}
use Rattle.rina_stack.specs.Stack.{narrow, plan_of, unknown_item, resolved_at, stack_at}
use Rattle.rina_stack.specs.Ranges.{IsRangedWire, IsRangedDif}
use Rattle.rina_stack.specs.Plan.{names_of, wire_ends, IsSoundWire, IsPlan}
use Rattle.rina_stack.proofs.Inversion.{bind_ok}
use Rattle.rina_stack.proofs.Unbroken.{straight, NoneBrokenBy, whole_cubes}
use Rattle.rina_stack.proofs.Tried.{IsTried, tried}

-- a fault that was found is that which is defined
pub same_fault : (n : ℕ) (fault found : Option ℕ) (t : Unit {0}) → ◌≡◌ {A = Result (Option ℕ) StackError} (Ok fault) (Ok found) → unless n found ≡ Ok t → unless n fault ≡ Ok t
same_fault n fault found t is h =
    let same : found ≡ fault = cc in
    subst (λ o. unless n o ≡ Ok t) same h

same_narrow_names : (ws : List WireSketch) → names_of (map narrow ws) ≡ wire_names ws
same_narrow_names [] = refl
same_narrow_names (w ∷ ws) = ap (λ ts. w.name ∷ ts) (same_narrow_names ws)

-- the stack that is resolved among the names it has
pub resolved : (known : List ℕ → Bool) (d : Data) (named s : Sketch) (t t' : Unit {0}) → sketch_at (unresolved_scope 4) d ≡ Ok named → unless 5 (duplicate_fault named) ≡ Ok t → resolved_at known named d ≡ Ok s → rules_at s ≡ Ok t' → IsTried s
unfolding resolved_at
resolved known d named s t t' is_named five is_s rest = tried d named s (unknown_item known named) t t' is_named five is_s rest

pub narrows : (s : Sketch) → IsTried s → All (λ (w : WireSketch). (w.a < 2 ^ 16) × (w.b < 2 ^ 16)) s.wires
narrows s r = λ k e within.
    let w = r.wires k e within in
    (omega (arith, w.a, r.unbroken_rules.few_nodes), omega (arith, w.b, r.unbroken_rules.few_nodes))

wire_planned : (nodes : ℕ) (w : WireSketch) → IsRangedWire nodes w → (w.a ≢ w.b) × (w.delay + spread_of w.storm ≤ w.life) → IsSoundWire nodes (narrow w)
wire_planned nodes w s h = record {
  a = s.a;
  b = s.b;
  apart = h.0;
  least_delay = s.least_delay;
  delay = omega (arith, h.1);
  arrives = h.1;
  life = s.life;
  least_largest = s.least_largest;
  largest = s.largest;
  storm = s.storm;
}

same_ends : (ws : List WireSketch) → map ends_of ws ≡ map wire_ends (map narrow ws)
same_ends [] = refl
same_ends (w ∷ ws) = ap (λ es. ends_of w ∷ es) (same_ends ws)

planned : (s : Sketch) → IsTried s → IsPlan (plan_of s)
planned s r =
    let by : NoneBrokenBy (map wire_ends (map narrow s.wires)) s.difs = subst (λ es. NoneBrokenBy es s.difs) (same_ends s.wires) r.unbroken_rules.difs in
    let ends : List WireEnds = map wire_ends (map narrow s.wires) in
    let ranked : All (λ (e : DifPlan). 1 ≤ e.rank) s.difs = λ k e within. (r.difs k e within).least_rank in
    record {
      few_nodes = r.unbroken_rules.few_nodes;
      few_wires = omega (arith, r.unbroken_rules.few_wires, length-map s.wires narrow);
      nodes_differ = r.nodes_differ;
      wires_differ = rw (same_narrow_names s.wires) r.wires_differ;
      wires = All-map (IsSoundWire (length s.nodes)) narrow s.wires (λ k e within. wire_planned (length s.nodes) (get_or s.wires k e) (r.wires k e within) (straight (get_or s.wires k e) (r.unbroken_rules.wires k e within)));
      few_difs = r.unbroken_rules.few_difs;
      difs_differ = r.difs_differ;
      labels_differ = r.labels_differ;
      dif_names = λ k e within. (r.named k e within).name;
      app_names = λ k e within. (r.named k e within).flows;
      difs = subst (λ (m : ℕ). All (IsRangedDif (length s.nodes) m (length s.difs)) s.difs) (sym (length-map s.wires narrow)) r.difs;
      ranks = λ k e within. has_lower s.difs (get_or s.difs k e) (by.ranks k e within);
      ids = λ k e within. has_cubes (get_or s.difs k e) (by.cubes k e within);
      cubes = by.cubes;
      times = λ k e within. let d = get_or s.difs k e in let ranged = r.difs k e within in whole_cubes d ranged.manage ranged.cubes (by.times k e within);
      places = λ k e within. has_members (get_or s.difs k e) (r.difs k e within).widths.addr (by.members k e within);
      members = by.members;
      sizes = λ k e within. has_roomy_pdu (get_or s.difs k e) (r.difs k e within).widths.len (by.pdus k e within);
      pdus = by.pdus;
      sdus = λ k e within. has_fit_sdus (get_or s.difs k e) (by.sdus k e within);
      uses = λ k e within. is_standing ends s.difs (get_or s.difs k e) ranked (by.links k e within) (by.uses k e within);
      joints = λ k e within. fit_links ends s.difs (get_or s.difs k e) (by.links k e within);
      links = by.links;
      taken = λ k e within. are_taken ends s.difs (get_or s.difs k e) (by.carried k e within);
      carried = by.carried;
      single = λ i within. by.single i (omega (arith, length-map s.wires narrow, length-map (map narrow s.wires) wire_ends));
      flows = λ k e within. (carried s.difs (get_or s.difs k e) (by.joined k e within)).0;
      joined = λ k e within. (carried s.difs (get_or s.difs k e) (by.joined k e within)).1;
      counts = r.unbroken_rules.counts;
    }

pub is_plan : (known : List ℕ → Bool) (t : Data) (p : Plan) → stack_at known t ≡ Ok p → IsPlan p
unfolding stack_at
is_plan known t p h =
    let (_, _, h1) = bind_ok (unless 2 (keys_fault t)) _ p h in
    let (_, _, h2) = bind_ok (sketch_at (unresolved_scope 3) t) _ p h1 in
    let (named, is_named, h3) = bind_ok (sketch_at (unresolved_scope 4) t) _ p h2 in
    let (five, is_five, h4) = bind_ok (unless 5 (duplicate_fault named)) _ p h3 in
    let (_, _, h5) = bind_ok (sketch_at (unresolved_scope 6) t) _ p h4 in
    let (s, is_s, h6) = bind_ok (resolved_at known named t) _ p h5 in
    let (fine, is_fine, h7) = bind_ok (rules_at s) _ p h6 in
    let same : plan_of s ≡ p = cc in
    subst IsPlan same (planned s (resolved known t named s five fine is_named is_five is_s is_fine))

pub read_plan : (known : List ℕ → Bool) (r : Result Plan StackError) (t : Data) → Gives (λ p. p) r (stack_at known t) → IfOk r IsPlan
read_plan known (Ok p) t h = is_plan known t p h
read_plan known (Err e) t h = tt
