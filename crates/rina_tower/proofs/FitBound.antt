-- Flows that were bound on the top rank of a tower.
use Rattle.std.proofs.Common.{◌≡◌, ◌≢◌, ◌∙◌, ℕ, zero, suc, ◌+◌, ◌-◌, ◌≤◌, ◌<◌, ◌==◌, cond, Bool, true, false, List, [], ◌∷◌, ◌++◌, length, map, get_or, slice_get, take, Option, Some, Ok, refl, sym, ap, subst, arith}
use Rattle.std.specs.Prelude.{All, flat_map}
use Rattle.std.specs.List.{range_with_len}
use Rattle.std.proofs.lemmas.Bool.Decides.{nat_tests}
use Rattle.std.proofs.lemmas.List.{map-append}
use Rattle.std.proofs.lemmas.Grind.{flat_map-append}
use Rattle.std.proofs.lemmas.List.Concat.{flat_map-cons}
use Rattle.std.proofs.lemmas.Option.{same_Some, slice_get-get_or}
use Rattle.rina_base.specs.declared.number.Port.{Port}
use Rattle.rina_base.specs.Names.{name_at}
use Rattle.rina_iface.specs.declared.ask.Fixed.{Fixed}
use Rattle.rina_iface.specs.Bind.{Binds, CanBind}
use Rattle.rina_iface.specs.Seen.{Seen}
use Rattle.rina_iface.proofs.Changed.{all_at}
use Rattle.rina_plan.specs.declared.dif.DifPlan.{DifPlan}
use Rattle.rina_plan.specs.declared.dif.FlowPlan.{FlowPlan}
use Rattle.rina_plan.specs.Links.{rank_in}
use Rattle.rina_stack.specs.declared.plan.Plan.{Plan}
use Rattle.rina_stack.specs.Ranges.{HasNames, IsRangedDif}
use Rattle.rina_stack.specs.Plan.{IsPlan}
use Rattle.rina_dif.specs.Laying.{BindsAll, CanBindAll}
use Rattle.rina_dif.specs.Planned.{flows_in, flows_of}
use Rattle.rina_tower.specs.declared.tower.Tower.{Tower}
use Rattle.rina_tower.specs.Bystanders.{IsIpc}
use Rattle.rina_tower.specs.Built.{has_rank}
use Rattle.rina_tower.specs.Calls.{BindsWhole}
use Rattle.rina_tower.specs.Fits.{flows_at}
use Rattle.rina_tower.specs.BuildSteps.{AreBound, HasBound, IsPlain, flows_before, flows_there}
use Rattle.rina_tower.specs.Ranks.{seen_of}
use Rattle.rina_tower.specs.Stands.{IsTower}
use Rattle.rina_tower.specs.Levels.{SameBelow, same_refl, same_trans}
use Rattle.rina_tower.proofs.Alone.{all_alone, now_on}
use Rattle.rina_tower.proofs.Calling.{binds_alone}
use Rattle.rina_tower.proofs.FitChains.{front_can, rest_can}
use Rattle.rina_tower.proofs.FitNames.{plain_name}
use Rattle.rina_tower.proofs.FitMade.{append_nil, range_more}
use Rattle.rina_tower.proofs.FitWhole.{turn_on}

-- In parts

binds_on : (s t u : Seen) (xs ys : List Fixed) (ps qs : List (Port × Port)) → BindsAll s xs ps t → BindsAll t ys qs u → BindsAll s (xs ++ ys) (ps ++ qs) u
binds_on s t u [] ys [] qs a b = subst (λ (z : Seen). BindsAll z ys qs u) a b
binds_on s t u [] ys (p ∷ ps) qs a b = absurd a
binds_on s t u (x ∷ xs) ys [] qs a b = absurd a
binds_on s t u (x ∷ xs) ys (p ∷ ps) qs a b = (a.0, a.1, binds_on a.0 t u xs ys ps qs a.2 b)

pub bound_on : (s t u : Seen) (xs ys : List Fixed) → AreBound s xs t → AreBound t ys u → AreBound s (xs ++ ys) u
bound_on s t u xs ys a b = record { ports = a.ports ++ b.ports; bound = binds_on s t u xs ys a.ports b.ports a.bound b.bound }

pub has_none : (t : Tower) → IsTower t → HasBound t [] t
has_none t valid = record {
  valid = valid;
  below = same_refl t;
  alone = all_alone IsIpc (seen_of t);
  bound = record { ports = []; bound = refl };
  whole = refl;
}

pub has_more : (t u v : Tower) (xs ys : List Fixed) → HasBound t xs u → HasBound u ys v → HasBound t (xs ++ ys) v
has_more t u v xs ys a b = record {
  valid = b.valid;
  below = same_trans t u v a.below b.below;
  alone = now_on IsIpc (seen_of t) (seen_of u) (seen_of v) a.alone b.alone;
  bound = bound_on (seen_of t) (seen_of u) (seen_of v) xs ys a.bound b.bound;
  whole = turn_on t u v xs ys a.whole b.whole;
}

pub has_one : (t t' : Tower) (fixed : Fixed) (ports : Port × Port) → IsTower t' → SameBelow t t' → IsPlain fixed → Binds (seen_of t) fixed (Ok ports) (seen_of t') → BindsWhole t fixed (Ok ports) t' → HasBound t (fixed ∷ []) t'
has_one t t' fixed ports valid same plain w does = record {
  valid = valid;
  below = same;
  alone = binds_alone IsIpc (seen_of t) fixed (Ok ports) (seen_of t') plain.a plain.b w;
  bound = record { ports = ports ∷ []; bound = (seen_of t', w, refl) };
  whole = (ports, t', does, refl);
}

-- what can be bound after the first of them
pub can_after : (s s' : Seen) (all xs ys : List Fixed) → CanBindAll s all → all ≡ xs ++ ys → AreBound s xs s' → CanBindAll s' ys
can_after s s' all xs ys can is b = rest_can s xs ys b.ports s' (subst (CanBindAll s) is can) b.bound

-- The flows of a DIF

abbrev IsSplit : {X : Type 0} → List X → ℕ → X → Type 0
IsSplit {X} xs i x = (ys : List X) × (xs ≡ take i xs ++ x ∷ ys) × (take (suc i) xs ≡ take i xs ++ x ∷ [])

split : {X : Type 0} (xs : List X) (i : ℕ) (x : X) → slice_get xs i ≡ Some x → IsSplit xs i x
split [] i x h = cc
split (y ∷ xs) zero x h = let same : y ≡ x = same_Some y x h in (xs, ap (λ z. z ∷ xs) same, ap (λ z. z ∷ []) same)
split (y ∷ xs) (suc i) x h = let r = split xs i x h in (r.0, ap (λ zs. y ∷ zs) r.1, ap (λ zs. y ∷ zs) r.2)

-- the next can be bound
pub can_next : {X : Type 0} (f : X → Fixed) (xs : List X) (i : ℕ) (x : X) (s s' : Seen) → slice_get xs i ≡ Some x → CanBindAll s (map f xs) → AreBound s (map f (take i xs)) s' → CanBind s' (f x)
can_next f xs i x s s' at can b =
    let r = split xs i x at in
    let is : map f xs ≡ map f (take i xs) ++ f x ∷ map f r.0 = ap (map f) r.1 ∙ map-append f (take i xs) (x ∷ r.0) in
    let all : CanBindAll s' (f x ∷ map f r.0) = can_after s s' (map f xs) (map f (take i xs)) (f x ∷ map f r.0) can is b in
    all.0

-- and was
pub has_next : {X : Type 0} (f : X → Fixed) (xs : List X) (i : ℕ) (x : X) (t u v : Tower) → slice_get xs i ≡ Some x → HasBound t (map f (take i xs)) u → HasBound u (f x ∷ []) v → HasBound t (map f (take (i + 1) xs)) v
has_next f xs i x t u v at a b =
    let next : suc i ≡ i + 1 = omega arith in
    let is : map f (take (i + 1) xs) ≡ map f (take i xs) ++ f x ∷ [] = ap (λ (n : ℕ). map f (take n xs)) (sym next) ∙ (ap (map f) (split xs i x at).2 ∙ map-append f (take i xs) (x ∷ [])) in
    subst (λ (ys : List Fixed). HasBound t ys v) (sym is) (has_more t u v (map f (take i xs)) (f x ∷ []) a b)

-- the element at a place of what was gone over
pub item_at : {X : Type 0} (items xs : List X) (i : ℕ) (x : X) → items ≡ xs → i < length items → x ≡ get_or items i x → slice_get xs i ≡ Some x
item_at items xs i x same within is = ap (λ ys. slice_get ys i) (sym same) ∙ (slice_get-get_or items i x within ∙ ap (λ y. Some y) (sym is))

-- both ends of a flow of the plan are at nodes
pub flow_nodes : (plan : Plan) (at i : ℕ) (d : DifPlan) (f : FlowPlan) → IsPlan plan → slice_get plan.difs at ≡ Some d → slice_get d.flows i ≡ Some f → (f.from.node < length plan.nodes) × (f.to.node < length plan.nodes)
flow_nodes plan at i d f p is here = all_at (λ (g : FlowPlan). (g.from.node < length plan.nodes) × (g.to.node < length plan.nodes)) d.flows i f (all_at (IsRangedDif (length plan.nodes) (length plan.wires) (length plan.difs)) plan.difs at d p.difs is).flows here

pub flow_names : (plan : Plan) (at i : ℕ) (d : DifPlan) (f : FlowPlan) → IsPlan plan → slice_get plan.difs at ≡ Some d → slice_get d.flows i ≡ Some f → HasNames f
flow_names plan at i d f p is here = all_at HasNames d.flows i f (all_at (λ (e : DifPlan). All HasNames e.flows) plan.difs at d p.app_names is) here

-- an application of such a name is no IPC process
pub plain_as : (name app : List ℕ) → name_at name ≡ Ok name → app ≡ name → IsIpc app → ⊥
plain_as name app is same ipc = plain_name name is (subst IsIpc same ipc)

-- The flows of a rank

pub rank_yes : (plan : Plan) (r i : ℕ) (d : DifPlan) → slice_get plan.difs i ≡ Some d → d.rank ≡ r → has_rank plan r i ≡ true
rank_yes plan r i d at is = ap (λ (o : Option DifPlan). rank_in o == r) at ∙ grind (arith, nat_tests, is)

pub rank_no : (plan : Plan) (r i : ℕ) (d : DifPlan) → slice_get plan.difs i ≡ Some d → d.rank ≢ r → has_rank plan r i ≡ false
rank_no plan r i d at other = ap (λ (o : Option DifPlan). rank_in o == r) at ∙ grind (arith, nat_tests, other)

-- those of the DIF of a place
pub there_yes : (plan : Plan) (r i : ℕ) (d : DifPlan) → slice_get plan.difs i ≡ Some d → d.rank ≡ r → flows_there plan r i ≡ flows_in plan i (Some d)
there_yes plan r i d at is = ap (λ (b : Bool). cond b (flows_of plan i) []) (rank_yes plan r i d at is) ∙ ap (flows_in plan i) at

pub there_no : (plan : Plan) (r i : ℕ) (d : DifPlan) → slice_get plan.difs i ≡ Some d → d.rank ≢ r → flows_there plan r i ≡ []
there_no plan r i d at other = ap (λ (b : Bool). cond b (flows_of plan i) []) (rank_no plan r i d at other)

pub has_skipped : (plan : Plan) (r i : ℕ) (d : DifPlan) (t : Tower) → slice_get plan.difs i ≡ Some d → d.rank ≢ r → IsTower t → HasBound t (flows_there plan r i) t
has_skipped plan r i d t at other valid = subst (λ (fs : List Fixed). HasBound t fs t) (sym (there_no plan r i d at other)) (has_none t valid)

before_more : (plan : Plan) (r at : ℕ) → flows_before plan r (at + 1) ≡ flows_before plan r at ++ flows_there plan r at
before_more plan r at =
    let zero_is : 0 + at ≡ at = omega arith in
    let one : flat_map (flows_there plan r) ((0 + at) ∷ []) ≡ flows_there plan r at = flat_map-cons (flows_there plan r) (0 + at) [] ∙ (append_nil (flows_there plan r (0 + at)) ∙ ap (flows_there plan r) zero_is) in
    ap (flat_map (flows_there plan r)) (range_more 0 at) ∙ (flat_map-append (flows_there plan r) (range_with_len 0 at) ((0 + at) ∷ []) ∙ ap (λ (fs : List Fixed). flows_before plan r at ++ fs) one)

range_split : (a n m : ℕ) → range_with_len a (n + m) ≡ range_with_len a n ++ range_with_len (a + n) m
range_split a zero m =
    let left : 0 + m ≡ m = omega arith in
    let right : a ≡ a + 0 = omega arith in
    ap (range_with_len a) left ∙ ap (λ (b : ℕ). range_with_len b m) right
range_split a (suc n) m =
    let long : suc n + m ≡ suc (n + m) = omega arith in
    let start : a + 1 + n ≡ a + suc n = omega arith in
    ap (range_with_len a) long ∙ ap (λ (ks : List ℕ). a ∷ ks) (range_split (a + 1) n m ∙ ap (λ (b : ℕ). range_with_len (a + 1) n ++ range_with_len b m) start)

-- the first of them, and the rest
at_split : (plan : Plan) (r at : ℕ) → at ≤ length plan.difs → flows_at plan r ≡ flows_before plan r at ++ flat_map (flows_there plan r) (range_with_len (0 + at) (length plan.difs - at))
at_split plan r at within =
    let sum : length plan.difs ≡ at + (length plan.difs - at) = omega (arith, within) in
    ap (λ (n : ℕ). flat_map (flows_there plan r) (range_with_len 0 n)) sum ∙ (ap (flat_map (flows_there plan r)) (range_split 0 at (length plan.difs - at)) ∙ flat_map-append (flows_there plan r) (range_with_len 0 at) (range_with_len (0 + at) (length plan.difs - at)))

-- those of the next DIF can be bound
pub can_there : (plan : Plan) (r at : ℕ) (s s' : Seen) → at < length plan.difs → CanBindAll s (flows_at plan r) → AreBound s (flows_before plan r at) s' → CanBindAll s' (flows_there plan r at)
can_there plan r at s s' within can b =
    let more : CanBindAll s (flows_before plan r (at + 1)) = front_can s (flows_before plan r (at + 1)) _ (subst (CanBindAll s) (at_split plan r (at + 1) (omega (arith, within))) can) in
    can_after s s' (flows_before plan r (at + 1)) (flows_before plan r at) (flows_there plan r at) more (before_more plan r at) b

-- and were
pub has_there : (plan : Plan) (r at : ℕ) (t u v : Tower) → HasBound t (flows_before plan r at) u → HasBound u (flows_there plan r at) v → HasBound t (flows_before plan r (at + 1)) v
has_there plan r at t u v a b = subst (λ (fs : List Fixed). HasBound t fs v) (sym (before_more plan r at)) (has_more t u v (flows_before plan r at) (flows_there plan r at) a b)
