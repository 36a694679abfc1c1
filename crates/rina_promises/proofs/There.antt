-- Each DIF of the stack stands in the tower of the stack, with the cubes of its flows.
use Rattle.std.proofs.Common.{◌≡◌, ◌∙◌, ℕ, zero, suc, ◌+◌, ◌<◌, ◌≤◌, ◌^◌, ◌==◌, cond, Bool, true, false, List, [], ◌∷◌, ◌++◌, length, map, take, slice_get, Some, None, inl, inr, refl, sym, ap, subst, arith}
use Rattle.std.specs.Prelude.{◌||◌, All, IsSome, count_by}
use Rattle.std.specs.List.{list_any}
use Rattle.std.proofs.lemmas.Bool.Decides.{eqb_tells}
use Rattle.std.proofs.lemmas.Option.{same_Some}
use Rattle.rina_cube.specs.declared.Cube.{Cube}
use Rattle.rina_base.specs.declared.number.Port.{Port}
use Rattle.rina_iface.specs.declared.ask.Fixed.{Fixed}
use Rattle.rina_iface.specs.Bind.{IsBound, bound}
use Rattle.rina_iface.specs.Seen.{Fac, Seen}
use Rattle.rina_iface.proofs.Changed.{all_at, slice_get-set_other, slice_get-set_same}
use Rattle.rina_plan.specs.declared.dif.DifPlan.{DifPlan}
use Rattle.rina_plan.specs.declared.dif.FlowPlan.{FlowPlan}
use Rattle.rina_plan.specs.declared.dif.Lower.TheVariants.{Dif as IsDif}
use Rattle.rina_plan.specs.Links.{rank_in, rank_of as rank_in_stack}
use Rattle.rina_plan.specs.Numbers.{number_in_rank}
use Rattle.rina_plan.specs.Walks.{IsCarriedFlow}
use Rattle.rina_stack.specs.declared.plan.Plan.{Plan}
use Rattle.rina_stack.specs.Ranges.{IsRangedDif}
use Rattle.rina_data.specs.Configs.{cube_by}
use Rattle.rina_data.specs.declared.settings.Settings.{Settings}
use Rattle.rina_dif.specs.declared.dif.Dif.{Dif}
use Rattle.rina_dif.specs.Laying.{BindsAll}
use Rattle.rina_dif.specs.Planned.{settings_by, settings_in}
use Rattle.rina_wire.specs.Air.{Air}
use Rattle.rina_tower.specs.declared.tower.Tower.{Tower, Rank', Wires}
use Rattle.rina_tower.specs.Built.{AreMade, IsBuiltFrom, places_in}
use Rattle.rina_tower.specs.Fits.{IsFreshRank, flows_at, fresh_dif, links_at}
use Rattle.rina_tower.specs.Ledgers.{dif_at, dif_of}
use Rattle.rina_tower.specs.PlanSettings.{IsAsPlanned, IsOfPlan}
use Rattle.rina_tower.specs.Ranks.{fac_of_dif, height_of, rank_of, seen_of}
use Rattle.rina_tower.specs.Stands.{IsTower}
use Rattle.rina_tower.proofs.FitBound.{flow_nodes}
use Rattle.rina_tower.proofs.FitCounts.{same_place}
use Rattle.rina_tower.proofs.FitGround.{fresh_rank}
use Rattle.rina_tower.proofs.Owned.{rank_valid}
use Rattle.rina_promises.specs.Promises.{IsFlowOf, IsStanding, IsTowerOf}
use Rattle.rina_promises.proofs.Standings.{own_there}

-- Ranks

-- the rank of wires is 0
wires_low : (t : Tower) (r : ℕ) (a : Air) → rank_of t r ≡ Some (Wires a) → r ≡ 0
wires_low (Wires b) r a h = elim (eqb_tells r 0) [
  | inl t ↦ t.1
  | inr f ↦ let no : None ≡ Some (Wires a) = rw f.0 at h in cc
]
wires_low (Rank' p difs below) r a h = elim (eqb_tells r (height_of below + 1)) [
  | inl t ↦ let no : Rank' p difs below ≡ Wires a = same_Some (Rank' p difs below) (Wires a) (rw t.0 at h) in cc
  | inr f ↦ wires_low below r a (rw f.0 at h)
]

mapped : {X Y : Type 0} (f : X → Y) (xs : List X) (n : ℕ) (y : Y) → slice_get (map f xs) n ≡ Some y → (x : X) × (slice_get xs n ≡ Some x)
mapped f [] n y h = cc
mapped f (x ∷ xs) zero y h = (x, refl)
mapped f (x ∷ xs) (suc n) y h = mapped f xs n y h

-- a facility of a rank above wires is a DIF
dif_shown : (t : Tower) (r n : ℕ) (u : Tower) (f : Fac) → 1 ≤ r → rank_of t r ≡ Some u → slice_get (seen_of u).facs n ≡ Some f → (d : Dif) × (dif_of u n ≡ Some d)
dif_shown t r n (Wires a) f least at h = let low = wires_low t r a at in absurd (omega (arith, least, low))
dif_shown t r n (Rank' p difs below) f least at h = mapped fac_of_dif difs n f h

none_some : {X : Type 0} (x : X) → None ≡ Some x → ⊥
none_some x h = cc

-- a DIF has the settings of one of the stack
planned_there : (plan : Plan) (t : Tower) (r n : ℕ) (u : Tower) (d : Dif) → IsAsPlanned plan t → rank_of t r ≡ Some u → dif_of u n ≡ Some d → IsOfPlan plan r d
planned_there plan (Wires a) r n u d h at own = elim (eqb_tells r 0) [
  | inl t ↦
      let same : Wires a ≡ u = same_Some (Wires a) u (rw t.0 at at) in
      absurd (none_some d (subst (λ (v : Tower). dif_of v n ≡ Some d) (sym same) own))
  | inr f ↦ absurd (none_some u (rw f.0 at at))
]
planned_there plan (Rank' p difs below) r n u d h at own = elim (eqb_tells r (height_of below + 1)) [
  | inl t ↦
      let same : Rank' p difs below ≡ u = same_Some (Rank' p difs below) u (rw t.0 at at) in
      let here : slice_get difs n ≡ Some d = subst (λ (v : Tower). dif_of v n ≡ Some d) (sym same) own in
      subst (λ (m : ℕ). IsOfPlan plan m d) (sym t.1) (h.0 n d here)
  | inr f ↦ planned_there plan below r n u d h.1 (rw f.0 at at) own
]

-- its number is that of its place
own_number : (u : Tower) (n : ℕ) (d : Dif) → IsTower u → dif_of u n ≡ Some d → d.settings.fac ≡ n
own_number (Wires a) n d v own = absurd (none_some d own)
own_number (Rank' p difs below) n d v own = v.0.standing.number n d own

-- The stack

same_is : (n : ℕ) → n == n ≡ true
same_is n = elim (eqb_tells n n) [ inl t ↦ t.0 | inr f ↦ absurd (f.1 refl) ]

numbered : (difs : List DifPlan) (i r : ℕ) (d : DifPlan) → slice_get difs i ≡ Some d → d.rank ≡ r → number_in_rank difs i ≡ count_by (λ (z : DifPlan). z.rank == r) (take i difs)
numbered difs i r d at is = let rank : rank_in_stack difs (IsDif i) ≡ r = ap rank_in at ∙ is in ap (λ (m : ℕ). count_by (λ (z : DifPlan). z.rank == m) (take i difs)) rank

-- the number of a DIF in its rank tells its place in the stack
one_dif : (difs : List DifPlan) (i k : ℕ) (d e : DifPlan) → slice_get difs i ≡ Some d → slice_get difs k ≡ Some e → d.rank ≡ e.rank → number_in_rank difs i ≡ number_in_rank difs k → i ≡ k
one_dif difs i k d e at_i at_k rank same =
    same_place (λ (z : DifPlan). z.rank == e.rank) difs i k d e at_i at_k (ap (λ (m : ℕ). m == e.rank) rank ∙ same_is e.rank) (same_is e.rank) (sym (numbered difs i e.rank d at_i rank) ∙ (same ∙ numbered difs k e.rank e at_k refl))

or_true : (b : Bool) → b || true ≡ true
or_true true = refl
or_true false = refl

is_among : (cubes : List Cube) (i : ℕ) (c : Cube) → slice_get cubes i ≡ Some c → list_any (λ (x : Cube). x.id == c.id) cubes ≡ true
is_among [] i c at = cc
is_among (x ∷ xs) zero c at =
    let same : x ≡ c = same_Some x c at in
    ap (λ (y : Cube). (y.id == c.id) || list_any (λ (z : Cube). z.id == c.id) xs) same ∙ ap (λ (b : Bool). b || list_any (λ (z : Cube). z.id == c.id) xs) (same_is c.id)
is_among (x ∷ xs) (suc i) c at = ap (λ (b : Bool). (x.id == c.id) || b) (is_among xs i c at) ∙ or_true (x.id == c.id)

found_cube : (id : ℕ) (cubes : List Cube) → list_any (λ (c : Cube). c.id == id) cubes ≡ true → IsSome (cube_by id cubes)
found_cube id [] h = cc
found_cube id (c ∷ cs) h = elim (c.id == id) as (λ b. (b || list_any (λ (z : Cube). z.id == id) cs) ≡ true → IsSome (cond b (Some c) (cube_by id cs))) [
  | true ↦ λ g. refl
  | false ↦ λ g. found_cube id cs g
] h

-- Facilities stay

stays_one : (s s' : Seen) (x : Fixed) (p q : Port) (n : ℕ) (f : Fac) → IsBound s x p q s' → slice_get s.facs n ≡ Some f → (g : Fac) × (slice_get s'.facs n ≡ Some g)
stays_one s s' x p q n f b at = elim (eqb_tells x.fac n) [
  | inl t ↦
      let there : slice_get s'.facs x.fac ≡ Some (bound b.facility x b.flow) = subst (λ (z : Seen). slice_get z.facs x.fac ≡ Some (bound b.facility x b.flow)) (sym b.new_is) (slice_get-set_same s.facs x.fac b.facility (bound b.facility x b.flow) b.stands) in
      (bound b.facility x b.flow, subst (λ (m : ℕ). slice_get s'.facs m ≡ Some (bound b.facility x b.flow)) t.1 there)
  | inr u ↦ (f, subst (λ (z : Seen). slice_get z.facs n ≡ Some f) (sym b.new_is) (slice_get-set_other s.facs x.fac n (bound b.facility x b.flow) (λ e. u.1 (sym e)) ∙ at))
]

-- a facility is still there when flows were bound
stays : (s : Seen) (xs : List Fixed) (ps : List (Port × Port)) (s' : Seen) (n : ℕ) (f : Fac) → BindsAll s xs ps s' → slice_get s.facs n ≡ Some f → (g : Fac) × (slice_get s'.facs n ≡ Some g)
stays s [] [] s' n f b at = (f, subst (λ (z : Seen). slice_get z.facs n ≡ Some f) (sym b) at)
stays s [] (p ∷ ps) s' n f b at = absurd b
stays s (x ∷ xs) [] s' n f b at = absurd b
stays s (x ∷ xs) (p ∷ ps) s' n f b at =
    let one = stays_one s b.0 x p.0 p.1 n f b.1 at in
    stays b.0 xs ps s' n one.0 b.2 one.1

-- a rank of the tower shows the i-th DIF of the stack
record IsShownAt (plan : Plan) (t : Tower) (r i : ℕ) : Type 0 where
  tower : Tower
  is_rank : rank_of t r ≡ Some tower
  facility : Fac
  stands : slice_get (seen_of tower).facs (number_in_rank plan.difs i) ≡ Some facility

shown_at : (plan : Plan) (t : Tower) (fresh : Seen) (r i : ℕ) (d : DifPlan) → IsBuiltFrom plan t fresh → 1 ≤ r → r ≤ height_of t → slice_get plan.difs i ≡ Some d → d.rank ≡ r → IsShownAt plan t r i
shown_at plan (Wires a) fresh r i d b least most at rank = absurd (omega (arith, least, most))
shown_at plan (Rank' p difs below) fresh r i d b least most at rank = elim (eqb_tells r (height_of below + 1)) [
  | inl t ↦
      let made : AreMade plan (places_in plan r (length plan.difs)) b.0 b.2.difs b.2.below = subst (λ (m : ℕ). AreMade plan (places_in plan m (length plan.difs)) b.0 b.2.difs b.2.below) (sym t.1) b.2.made in
      let is_fresh : IsFreshRank plan r fresh = subst (IsFreshRank plan r) (sym b.2.shows) (fresh_rank plan r b.0 b.2.difs b.2.below least made) in
      let s = stays fresh (links_at plan (height_of below + 1 + 1) ++ flows_at plan (height_of below + 1)) b.3.ports (seen_of (Rank' p difs below)) (number_in_rank plan.difs i) (fresh_dif d) b.3.bound (is_fresh.each i d at rank) in
      record {
        tower = Rank' p difs below;
        is_rank = ap (λ (v : Bool). cond v (Some (Rank' p difs below)) (rank_of below r)) t.0;
        facility = s.0;
        stands = s.1;
      }
  | inr u ↦
      let ne = u.1 in
      let deep = shown_at plan below b.0 r i d b.1 least (omega (arith, most, ne)) at rank in
      record {
        tower = deep.tower;
        is_rank = ap (λ (v : Bool). cond v (Some (Rank' p difs below)) (rank_of below r)) u.0 ∙ deep.is_rank;
        facility = deep.facility;
        stands = deep.stands;
      }
]

-- The DIFs of the stack

-- one stands in the tower
record IsThere (plan : Plan) (t : Tower) (i : ℕ) (d : DifPlan) (x : Dif) : Type 0 where
  tower : Tower
  is_rank : rank_of t d.rank ≡ Some tower
  own : dif_of tower (number_in_rank plan.difs i) ≡ Some x

its_dif : (plan : Plan) (t : Tower) (i : ℕ) (d : DifPlan) → IsTowerOf plan t → slice_get plan.difs i ≡ Some d → (x : Dif) × IsThere plan t i d x
its_dif plan t i d is at =
    let least = (all_at (IsRangedDif (length plan.nodes) (length plan.wires) (length plan.difs)) plan.difs i d is.is_plan.difs at).least_rank in
    let o = shown_at plan t is.built.0 d.rank i d is.built.1 least (is.height.most i d at) at refl in
    let s = dif_shown t d.rank (number_in_rank plan.difs i) o.tower o.facility least o.is_rank o.stands in
    (s.0, record { tower = o.tower; is_rank = o.is_rank; own = s.1 })

is_there : (plan : Plan) (t : Tower) (i : ℕ) (d : DifPlan) → IsTowerOf plan t → slice_get plan.difs i ≡ Some d → dif_at t d.rank (number_in_rank plan.difs i) ≡ None → ⊥
is_there plan t i d is at none =
    let x = its_dif plan t i d is at in
    none_some x.0 (sym none ∙ (own_there t d.rank (number_in_rank plan.difs i) x.1.tower x.1.is_rank ∙ x.1.own))

-- it has the cubes that the stack says
its_cubes : (plan : Plan) (t : Tower) (i : ℕ) (d : DifPlan) (x : Dif) → IsTowerOf plan t → slice_get plan.difs i ≡ Some d → IsThere plan t i d x → x.settings.cubes ≡ d.cubes
its_cubes plan t i d x is at there =
    let n : ℕ = number_in_rank plan.difs i in
    let p : IsOfPlan plan d.rank x = planned_there plan t d.rank n there.tower x is.planned there.is_rank there.own in
    let settings : settings_by plan p.place p.dif ≡ x.settings = same_Some (settings_by plan p.place p.dif) x.settings (ap (settings_in plan p.place) (sym p.is_dif) ∙ p.settings) in
    let number : x.settings.fac ≡ n = own_number there.tower n x (rank_valid t d.rank there.tower is.stands there.is_rank) there.own in
    let fac : number_in_rank plan.difs p.place ≡ x.settings.fac = ap (λ (s : Settings). s.fac) settings in
    let place : p.place ≡ i = one_dif plan.difs p.place i p.dif d p.is_dif at p.its_rank (fac ∙ number) in
    let dif : p.dif ≡ d = same_Some p.dif d (sym p.is_dif ∙ (ap (slice_get plan.difs) place ∙ at)) in
    sym (ap (λ (s : Settings). s.cubes) settings) ∙ ap (λ (e : DifPlan). e.cubes) dif

has_its_cube : (plan : Plan) (t : Tower) (i : ℕ) (d : DifPlan) (f : FlowPlan) (x : Dif) → IsTowerOf plan t → IsFlowOf plan i d f → dif_at t d.rank (number_in_rank plan.difs i) ≡ Some x → IsSome (cube_by f.cube x.settings.cubes)
has_its_cube plan t i d f x is of at =
    let y = its_dif plan t i d is of.dif in
    let same : y.0 ≡ x = same_Some y.0 x (sym y.1.own ∙ (sym (own_there t d.rank (number_in_rank plan.difs i) y.1.tower y.1.is_rank) ∙ at)) in
    let cubes : x.settings.cubes ≡ d.cubes = subst (λ (z : Dif). z.settings.cubes ≡ d.cubes) same (its_cubes plan t i d y.0 is of.dif y.1) in
    let carried : IsCarriedFlow d f = all_at (IsCarriedFlow d) d.flows of.place f (all_at (λ (e : DifPlan). All (IsCarriedFlow e) e.flows) plan.difs i d is.is_plan.flows of.dif) of.flow in
    subst (λ (cs : List Cube). IsSome (cube_by f.cube cs)) (sym cubes) (found_cube f.cube d.cubes carried.cube)

-- the same of a rank and a number that are these

pub is_there_by : (plan : Plan) (t : Tower) (i : ℕ) (d : DifPlan) (r n : ℕ) → IsTowerOf plan t → slice_get plan.difs i ≡ Some d → r ≡ d.rank → n ≡ number_in_rank plan.difs i → dif_at t r n ≡ None → ⊥
is_there_by plan t i d r n is at rank number none =
    is_there plan t i d is at (subst (λ (m : ℕ). dif_at t d.rank m ≡ None) number (subst (λ (m : ℕ). dif_at t m n ≡ None) rank none))

pub has_its_cube_by : (plan : Plan) (t : Tower) (i : ℕ) (d : DifPlan) (f : FlowPlan) (r n : ℕ) (x : Dif) (below : Tower) → IsTowerOf plan t → IsFlowOf plan i d f → r ≡ d.rank → n ≡ number_in_rank plan.difs i → IsStanding t r n x below → IsSome (cube_by f.cube x.settings.cubes)
has_its_cube_by plan t i d f r n x below is of rank number stands =
    has_its_cube plan t i d f x is of (subst (λ (m : ℕ). dif_at t d.rank m ≡ Some x) number (subst (λ (m : ℕ). dif_at t m n ≡ Some x) rank stands.is_dif))

-- its ends are at nodes
flow_fits : (plan : Plan) (i : ℕ) (d : DifPlan) (f : FlowPlan) → length plan.nodes ≤ 64 → (f.from.node < length plan.nodes) × (f.to.node < length plan.nodes) → (f.from.node < 2 ^ 16) × (f.to.node < 2 ^ 16)
flow_fits plan i d f few h = (omega (arith, few, h.0), omega (arith, few, h.1))

pub nodes_fit : (plan : Plan) (t : Tower) (i : ℕ) (d : DifPlan) (f : FlowPlan) → IsTowerOf plan t → IsFlowOf plan i d f → (f.from.node < 2 ^ 16) × (f.to.node < 2 ^ 16)
nodes_fit plan t i d f is of = flow_fits plan i d f is.is_plan.few_nodes (flow_nodes plan i of.place d f is.is_plan of.dif of.flow)

-- Cubes

-- a cube of a list is found by its id
pub cube_found : (cubes : List Cube) (i : ℕ) (c : Cube) → slice_get cubes i ≡ Some c → IsSome (cube_by c.id cubes)
cube_found cubes i c at = found_cube c.id cubes (is_among cubes i c at)
