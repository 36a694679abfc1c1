-- The ends of the stack's own flows stand in a tower that was just built.
use Rattle.std.proofs.Common.{◌≡◌, ◌∙◌, ℕ, suc, ◌+◌, ◌*◌, ◌≤◌, ◌==◌, cond, Bool, List, [], ◌∷◌, ◌++◌, length, length-append, slice_get, Some, refl, sym, ap, subst, arith, inl, inr}
use Rattle.std.specs.Prelude.{count_by}
use Rattle.std.proofs.lemmas.Bool.Decides.{eqb_tells}
use Rattle.std.proofs.lemmas.List.{append_assoc}
use Rattle.std.proofs.lemmas.Option.{same_Some}
use Rattle.rina_base.specs.declared.number.FlowName.{FlowName}
use Rattle.rina_base.specs.declared.number.Port.{Port}
use Rattle.rina_iface.specs.declared.ask.Fixed.{Fixed}
use Rattle.rina_iface.specs.declared.ends.End.{End}
use Rattle.rina_iface.specs.declared.state.PortState.TheVariants.{Allocated}
use Rattle.rina_iface.specs.declared.state.Role.TheVariants.{Asker, Far}
use Rattle.rina_iface.specs.Allocate.{new_end, next_port}
use Rattle.rina_iface.specs.Bind.{IsBound, bound}
use Rattle.rina_iface.specs.Seen.{Fac, Seen}
use Rattle.rina_iface.proofs.Changed.{all_at, slice_get-set_other, slice_get-set_same}
use Rattle.rina_plan.specs.declared.dif.DifPlan.{DifPlan}
use Rattle.rina_plan.specs.declared.dif.FlowPlan.{FlowPlan}
use Rattle.rina_plan.specs.Numbers.{number_in_rank}
use Rattle.rina_stack.specs.declared.plan.Plan.{Plan}
use Rattle.rina_stack.specs.Ranges.{IsRangedDif}
use Rattle.rina_stack.specs.Plan.{IsPlan}
use Rattle.rina_dif.specs.Laying.{BindsAll}
use Rattle.rina_dif.specs.Planned.{flow_fixed}
use Rattle.rina_tower.specs.declared.tower.Tower.{Tower, Wires, Rank'}
use Rattle.rina_tower.specs.Built.{AreMade, IsBuilt, IsBuiltFrom, IsUsed, places_in}
use Rattle.rina_tower.specs.Fits.{IsFreshRank, fresh_dif}
use Rattle.rina_tower.specs.Flows.{HasFlow, IsOpenAt, links_on}
use Rattle.rina_tower.specs.BuildSteps.{IsHighest}
use Rattle.rina_tower.specs.Ranks.{height_of, rank_of, seen_of}
use Rattle.rina_tower.proofs.FitBound.{flow_names, plain_as}
use Rattle.rina_tower.proofs.FitCounts.{count_cons, one_if}
use Rattle.rina_tower.proofs.FitGround.{fresh_rank}
use Rattle.rina_tower.proofs.FitMade.{append_nil}
use Rattle.rina_tower.proofs.OpenedCounts.{among, is_on}

-- Binds only add ends

-- the journal of a facility is these ends, and so many more
record HasMore (s : Seen) (n : ℕ) (ends : List End) (m : ℕ) : Type 0 where
  facility : Fac
  stands : slice_get s.facs n ≡ Some facility
  more : List End
  is : facility.ends ≡ ends ++ more
  count : length more ≡ m

abbrev asker : Fac → Fixed → FlowName → End
asker f fixed flow = new_end flow Asker (next_port f fixed.fac fixed.a) fixed.a_app fixed.b_app fixed.cube Allocated

abbrev far : Fac → Fixed → FlowName → End
far f fixed flow = new_end flow Far (next_port f fixed.fac fixed.b) fixed.b_app fixed.a_app fixed.cube Allocated

bound_there : (s s' : Seen) (x : Fixed) (p q : Port) (b : IsBound s x p q s') → slice_get s'.facs x.fac ≡ Some (bound b.facility x b.flow)
bound_there s s' x p q b = subst (λ (z : Seen). slice_get z.facs x.fac ≡ Some (bound b.facility x b.flow)) (sym b.new_is) (slice_get-set_same s.facs x.fac b.facility (bound b.facility x b.flow) b.stands)

one_more : (s s' : Seen) (x : Fixed) (p q : Port) (n : ℕ) (f : Fac) → IsBound s x p q s' → slice_get s.facs n ≡ Some f → HasMore s' n f.ends (2 * one_if (x.fac == n))
one_more s s' x p q n f b at = elim (eqb_tells x.fac n) [
  | inl t ↦
      let same : b.facility ≡ f = same_Some b.facility f (sym b.stands ∙ (ap (slice_get s.facs) t.1 ∙ at)) in
      record {
        facility = bound b.facility x b.flow;
        stands = subst (λ (m : ℕ). slice_get s'.facs m ≡ Some (bound b.facility x b.flow)) t.1 (bound_there s s' x p q b);
        more = asker b.facility x b.flow ∷ far b.facility x b.flow ∷ [];
        is = ap (λ (g : Fac). g.ends ++ asker b.facility x b.flow ∷ far b.facility x b.flow ∷ []) same;
        count = ap (λ (v : Bool). 2 * one_if v) (sym t.0);
      }
  | inr u ↦ record {
    facility = f;
    stands = subst (λ (z : Seen). slice_get z.facs n ≡ Some f) (sym b.new_is) (slice_get-set_other s.facs x.fac n (bound b.facility x b.flow) (λ e. u.1 (sym e)) ∙ at);
    more = [];
    is = sym (append_nil f.ends);
    count = ap (λ (v : Bool). 2 * one_if v) (sym u.0);
  }
]

all_more : (s : Seen) (xs : List Fixed) (ps : List (Port × Port)) (s' : Seen) (n : ℕ) (f : Fac) → BindsAll s xs ps s' → slice_get s.facs n ≡ Some f → HasMore s' n f.ends (2 * count_by (is_on n) xs)
all_more s [] [] s' n f b at = record { facility = f; stands = subst (λ (z : Seen). slice_get z.facs n ≡ Some f) (sym b) at; more = []; is = sym (append_nil f.ends); count = refl }
all_more s [] (p ∷ ps) s' n f b at = absurd b
all_more s (x ∷ xs) [] s' n f b at = absurd b
all_more s (x ∷ xs) (p ∷ ps) s' n f b at =
    let one = one_more s b.0 x p.0 p.1 n f b.1 at in
    let rest = all_more b.0 xs ps s' n one.facility b.2 one.stands in
    let long : length (one.more ++ rest.more) ≡ length one.more + length rest.more = length-append one.more rest.more in
    let first : length one.more ≡ 2 * one_if (x.fac == n) = one.count in
    let others : length rest.more ≡ 2 * count_by (is_on n) xs = rest.count in
    let all : count_by (is_on n) (x ∷ xs) ≡ one_if (x.fac == n) + count_by (is_on n) xs = count_cons (is_on n) x xs in
    record {
      facility = rest.facility;
      stands = rest.stands;
      more = one.more ++ rest.more;
      is = rest.is ∙ (ap (λ (es : List End). es ++ rest.more) one.is ∙ append_assoc f.ends one.more rest.more);
      count = omega (arith, long, first, others, all);
    }

-- The two ends of one flow

-- they stand at a place and behind it
record HasEnds (s : Seen) (x : Fixed) (place : ℕ) : Type 0 where
  facility : Fac
  stands : slice_get s.facs x.fac ≡ Some facility
  base : Fac
  flow : FlowName
  asker_at : slice_get facility.ends place ≡ Some (asker base x flow)
  far_at : slice_get facility.ends (place + 1) ≡ Some (far base x flow)

first_at : (xs : List End) (a z : End) (ys : List End) → slice_get ((xs ++ a ∷ z ∷ []) ++ ys) (length xs) ≡ Some a
first_at [] a z ys = refl
first_at (x ∷ xs) a z ys = first_at xs a z ys

next_at : (xs : List End) (a z : End) (ys : List End) → slice_get ((xs ++ a ∷ z ∷ []) ++ ys) (suc (length xs)) ≡ Some z
next_at [] a z ys = refl
next_at (x ∷ xs) a z ys = next_at xs a z ys

-- when it is the next, over a journal of so many ends
ends_next : (s : Seen) (x : Fixed) (xs : List Fixed) (ps : List (Port × Port)) (s' : Seen) (f : Fac) (m : ℕ) → BindsAll s (x ∷ xs) ps s' → slice_get s.facs x.fac ≡ Some f → length f.ends ≡ m → HasEnds s' x m
ends_next s x xs [] s' f m b at long = absurd b
ends_next s x xs (p ∷ ps) s' f m b at long =
    let c = b.1 in
    let same : c.facility ≡ f = same_Some c.facility f (sym c.stands ∙ at) in
    let rest = all_more b.0 xs ps s' x.fac (bound c.facility x c.flow) b.2 (bound_there s b.0 x p.0 p.1 c) in
    let count : length c.facility.ends ≡ m = ap (λ (g : Fac). length g.ends) same ∙ long in
    let up : suc (length c.facility.ends) ≡ m + 1 = omega (arith, count) in
    record {
      facility = rest.facility;
      stands = rest.stands;
      base = c.facility;
      flow = c.flow;
      asker_at = ap (λ (es : List End). slice_get es m) rest.is ∙ subst (λ (k : ℕ). slice_get ((c.facility.ends ++ asker c.facility x c.flow ∷ far c.facility x c.flow ∷ []) ++ rest.more) k ≡ Some (asker c.facility x c.flow)) count (first_at c.facility.ends (asker c.facility x c.flow) (far c.facility x c.flow) rest.more);
      far_at = ap (λ (es : List End). slice_get es (m + 1)) rest.is ∙ subst (λ (k : ℕ). slice_get ((c.facility.ends ++ asker c.facility x c.flow ∷ far c.facility x c.flow ∷ []) ++ rest.more) k ≡ Some (far c.facility x c.flow)) up (next_at c.facility.ends (asker c.facility x c.flow) (far c.facility x c.flow) rest.more);
    }

-- when others come before it
ends_after : (s : Seen) (front : List Fixed) (x : Fixed) (back : List Fixed) (ps : List (Port × Port)) (s' : Seen) (f : Fac) → BindsAll s (front ++ x ∷ back) ps s' → slice_get s.facs x.fac ≡ Some f → HasEnds s' x (length f.ends + 2 * count_by (is_on x.fac) front)
ends_after s [] x back ps s' f b at = ends_next s x back ps s' f (length f.ends + 0) b at (omega arith)
ends_after s (y ∷ front) x back [] s' f b at = absurd b
ends_after s (y ∷ front) x back (p ∷ ps) s' f b at =
    let one = one_more s b.0 y p.0 p.1 x.fac f b.1 at in
    let rest = ends_after b.0 front x back ps s' one.facility b.2 one.stands in
    let long : length one.facility.ends ≡ length f.ends + length one.more = ap length one.is ∙ length-append f.ends one.more in
    let first : length one.more ≡ 2 * one_if (y.fac == x.fac) = one.count in
    let all : count_by (is_on x.fac) (y ∷ front) ≡ one_if (y.fac == x.fac) + count_by (is_on x.fac) front = count_cons (is_on x.fac) y front in
    let place : length one.facility.ends + 2 * count_by (is_on x.fac) front ≡ length f.ends + 2 * count_by (is_on x.fac) (y ∷ front) = omega (arith, long, first, all) in
    subst (HasEnds s' x) place rest

-- The tower of the plan

-- what a rank of a tower that was built showed first, and what was bound there
record IsBuiltAt (plan : Plan) (t : Tower) (r : ℕ) : Type 0 where
  tower : Tower
  is_rank : rank_of t r ≡ Some tower
  fresh : Seen
  is_fresh : IsFreshRank plan r fresh
  used : IsUsed plan r fresh (seen_of tower)

built_at : (plan : Plan) (t : Tower) (fresh : Seen) (r : ℕ) → IsBuiltFrom plan t fresh → 1 ≤ r → r ≤ height_of t → IsBuiltAt plan t r
built_at plan (Wires a) fresh r b least most = absurd (omega (arith, least, most))
built_at plan (Rank' p difs below) fresh r b least most = elim (eqb_tells r (height_of below + 1)) [
  | inl t ↦ record {
    tower = Rank' p difs below;
    is_rank = ap (λ (v : Bool). cond v (Some (Rank' p difs below)) (rank_of below r)) t.0;
    fresh = fresh;
    is_fresh = subst (IsFreshRank plan r) (sym b.2.shows) (fresh_rank plan r b.0 b.2.difs b.2.below least (subst (λ (m : ℕ). AreMade plan (places_in plan m (length plan.difs)) b.0 b.2.difs b.2.below) (sym t.1) b.2.made));
    used = subst (λ (m : ℕ). IsUsed plan m fresh (seen_of (Rank' p difs below))) (sym t.1) b.3;
  }
  | inr u ↦
      let ne = u.1 in
      let deep = built_at plan below b.0 r b.1 least (omega (arith, most, ne)) in
      record {
        tower = deep.tower;
        is_rank = ap (λ (v : Bool). cond v (Some (Rank' p difs below)) (rank_of below r)) u.0 ∙ deep.is_rank;
        fresh = deep.fresh;
        is_fresh = deep.is_fresh;
        used = deep.used;
      }
]

is_flow : (plan : Plan) (i k : ℕ) (d : DifPlan) (f : FlowPlan) (s : Seen) (place : ℕ) → IsPlan plan → slice_get plan.difs i ≡ Some d → slice_get d.flows k ≡ Some f → (h : HasEnds s (flow_fixed plan i f) place) → HasFlow (number_in_rank plan.difs i) f h.facility.ends place
is_flow plan i k d f s place p at flow h =
    let names = flow_names plan i k d f p at flow in
    record {
      from = asker h.base (flow_fixed plan i f) h.flow;
      from_at = h.asker_at;
      from_is = record { fac = refl; node = refl; app = refl; peer = refl; plain = plain_as f.from.app f.from.app names.0 refl; state = refl; sent = refl; got = refl; taken = refl };
      to = far h.base (flow_fixed plan i f) h.flow;
      to_at = h.far_at;
      to_is = record { fac = refl; node = refl; app = refl; peer = refl; plain = plain_as f.to.app f.to.app names.1 refl; state = refl; sent = refl; got = refl; taken = refl };
    }

-- the ends of each flow of the stack stand in the tower, in stack order, behind the links on its DIF
pub opened : (plan : Plan) (t : Tower) → IsPlan plan → IsBuilt plan t → IsHighest plan.difs (height_of t) → (i k : ℕ) (d : DifPlan) (f : FlowPlan) → slice_get plan.difs i ≡ Some d → slice_get d.flows k ≡ Some f → IsOpenAt plan t i k d f
opened plan t p built high i k d f at flow =
    let n : ℕ = number_in_rank plan.difs i in
    let least = (all_at (IsRangedDif (length plan.nodes) (length plan.wires) (length plan.difs)) plan.difs i d p.difs at).least_rank in
    let b = built_at plan t built.0 d.rank built.1 least (high.most i d at) in
    let a = among plan i k d f at flow in
    let bound = subst (λ (xs : List Fixed). BindsAll b.fresh xs b.used.ports (seen_of b.tower)) a.is b.used.bound in
    let h = ends_after b.fresh a.front (flow_fixed plan i f) a.back b.used.ports (seen_of b.tower) (fresh_dif d) bound (b.is_fresh.each i d at refl) in
    let count = a.count in
    let place : 0 + 2 * count_by (is_on n) a.front ≡ 2 * (links_on plan i d + k) = omega (arith, count) in
    record {
      tower = b.tower;
      is_rank = b.is_rank;
      facility = h.facility;
      stands = h.stands;
      flow = subst (HasFlow n f h.facility.ends) place (is_flow plan i k d f (seen_of b.tower) (0 + 2 * count_by (is_on n) a.front) p at flow h);
    }
