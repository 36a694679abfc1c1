-- A rank more, and the whole tower.
use Rattle.std.proofs.Common.{◌≡◌, ◌≢◌, ◌∙◌, ℕ, ◌+◌, ◌≤◌, ◌<◌, ◌==◌, cond, Bool, true, false, List, [], ◌∷◌, ◌++◌, length, slice_get, Option, Some, None, refl, sym, ap, subst, arith, inl, inr, ◌⊎◌}
use Rattle.std.specs.Prelude.{filter, flat_map}
use Rattle.std.specs.List.{range_with_len}
use Rattle.std.proofs.lemmas.Bool.Decides.{eqb_tells, nat_tests}
use Rattle.std.proofs.lemmas.List.Concat.{flat_map-cons}
use Rattle.std.proofs.lemmas.Option.{same_Some, slice_get_within}
use Rattle.rina_base.specs.declared.number.Port.{Port}
use Rattle.rina_iface.specs.declared.ask.Fixed.{Fixed}
use Rattle.rina_iface.specs.Seen.{Seen}
use Rattle.rina_plan.specs.declared.dif.DifPlan.{DifPlan}
use Rattle.rina_plan.specs.declared.dif.Lower.TheVariants.{Dif as IsDif}
use Rattle.rina_plan.specs.Links.{rank_in, rank_of}
use Rattle.rina_stack.specs.declared.plan.Plan.{Plan}
use Rattle.rina_stack.specs.Plan.{IsPlan}
use Rattle.rina_dif.specs.declared.dif.Dif.{Dif}
use Rattle.rina_dif.specs.Holding.{Stands}
use Rattle.rina_dif.specs.Laying.{BindsAll, BindsInTurn, CanBindAll, CanLay, IsNew, Lays}
use Rattle.rina_dif.specs.Linking.{IsConnected}
use Rattle.rina_dif.specs.Planned.{links_in, links_of}
use Rattle.rina_dif.specs.Whole.{IsDif as IsValid}
use Rattle.rina_wire.specs.Air.{Air, seen_of as seen_of_wires}
use Rattle.rina_wire.specs.Plan.{air_of}
use Rattle.rina_wire.specs.Sound.{IsSound}
use Rattle.rina_tower.specs.declared.tower.Tower.{Tower, Rank', Wires}
use Rattle.rina_tower.specs.Built.{AreMade, IsBuilt, IsBuiltFrom, IsRankOf, IsTop, IsUsed, has_rank, places_in}
use Rattle.rina_tower.specs.BuiltWhole.{AreMadeOver, IsBuiltWhole}
use Rattle.rina_tower.specs.Calls.{BindsWhole}
use Rattle.rina_tower.specs.Fits.{flows_at, links_at}
use Rattle.rina_tower.specs.Layout.{IsGround, IsLaying}
use Rattle.rina_tower.specs.BuildSteps.{AreBound, AreLaid, HasBound, IsHalfMade, IsHighest, IsRaised, LaysNext}
use Rattle.rina_tower.specs.PlanSettings.{AreOfPlan, IsAsPlanned}
use Rattle.rina_tower.specs.Ranks.{height_of, now_of, seen_of, seen_of_difs}
use Rattle.rina_tower.specs.Stands.{AreStanding, IsTower, clock_of, kept_of}
use Rattle.rina_tower.specs.Levels.{SameBelow, same_refl, same_trans}
use Rattle.rina_tower.proofs.FitBound.{bound_on, rank_no, rank_yes}
use Rattle.rina_tower.proofs.FitGround.{none_flat, rank_ground, wires_ground}
use Rattle.rina_tower.proofs.FitMade.{all_made, begun, can_lay, laid_on, passed_over}
use Rattle.rina_tower.proofs.FitNames.{are_named}
use Rattle.rina_tower.proofs.FitWhole.{built_whole, fresh_up, fresh_wires, over_next, over_same}
use Rattle.rina_tower.proofs.Ranking.{is_rank, standing_beside}
use Rattle.rina_tower.proofs.Serving.{same_height}
use Rattle.rina_tower.proofs.Staying.{next_planned, none_planned, same_planned}

-- The clock

now_bound : (s : Seen) (xs : List Fixed) (ps : List (Port × Port)) (s' : Seen) → BindsAll s xs ps s' → s'.now ≡ s.now
now_bound s [] [] s' b = ap (λ (t : Seen). t.now) b
now_bound s [] (p ∷ ps) s' b = absurd b
now_bound s (x ∷ xs) [] s' b = absurd b
now_bound s (x ∷ xs) (p ∷ ps) s' b = now_bound b.0 xs ps s' b.2 ∙ ap (λ (t : Seen). t.now) b.1.new_is

built_now : (plan : Plan) (t : Tower) (fresh : Seen) → IsBuiltFrom plan t fresh → now_of t ≡ 0
built_now plan (Wires a) fresh h = now_bound fresh (links_at plan (0 + 1) ++ flows_at plan 0) h.1.ports (seen_of_wires a) h.1.bound ∙ ap (λ (s : Seen). s.now) h.0
built_now plan (Rank' p difs below) fresh h = built_now plan below h.0 h.1

-- Ground

pub top_ground : (plan : Plan) (t : Tower) → IsPlan plan → IsTop plan t → IsGround plan (height_of t) (seen_of t)
top_ground plan (Wires a) p top = subst (λ (b : Air). IsGround plan 0 (seen_of_wires b)) (sym top) (wires_ground plan p)
top_ground plan (Rank' q difs below) p top =
    let now : now_of below ≡ 0 = built_now plan below top.0 top.1 in
    subst (λ (n : ℕ). IsGround plan (height_of below + 1) (seen_of_difs n difs)) (sym now) (rank_ground plan (height_of below + 1) top.0 difs top.2.0 p (omega arith) top.2.1)

-- What was bound

flat_filter : (p : ℕ → Bool) (g : ℕ → List Fixed) (is : List ℕ) → flat_map g (filter p is) ≡ flat_map (λ i. cond (p i) (g i) []) is
flat_filter p g [] = refl
flat_filter p g (i ∷ is) = elim (p i) as (λ b. flat_map g (cond b (i ∷ filter p is) (filter p is)) ≡ cond b (g i) [] ++ flat_map (λ j. cond (p j) (g j) []) is) [
  | true ↦ flat_map-cons g i (filter p is) ∙ ap (λ (fs : List Fixed). g i ++ fs) (flat_filter p g is)
  | false ↦ flat_filter p g is
]

made_links : (plan : Plan) (is : List ℕ) (s : Seen) (ds : List Dif) (s' : Seen) → AreMade plan is s ds s' → AreBound s (flat_map (links_of plan) is) s'
made_links plan [] s [] s' m = record { ports = []; bound = m }
made_links plan [] s (d ∷ ds) s' m = absurd m
made_links plan (i ∷ is) s [] s' m = absurd m
made_links plan (i ∷ is) s (d ∷ ds) s' m =
    subst (λ (fs : List Fixed). AreBound s fs s') (sym (flat_map-cons (links_of plan) i is)) (bound_on s m.0 s' (links_of plan i) (flat_map (links_of plan) is) (record { ports = m.1.ports; bound = m.1.bound }) (made_links plan is m.0 ds s' m.2))

all_links : (plan : Plan) (r : ℕ) (s : Seen) (ds : List Dif) (s' : Seen) → AreMade plan (places_in plan r (length plan.difs)) s ds s' → AreBound s (links_at plan r) s'
all_links plan r s ds s' m = subst (λ (fs : List Fixed). AreBound s fs s') (flat_filter (has_rank plan r) (links_of plan) (range_with_len 0 (length plan.difs))) (made_links plan (places_in plan r (length plan.difs)) s ds s' m)

-- a rank that nobody had used is used
used_here : (plan : Plan) (difs difs' : List Dif) (below : Tower) → (ground : Seen) → IsBuiltFrom plan below ground → (new : Seen) → AreMade plan (places_in plan (height_of below + 1) (length plan.difs)) ground difs new → AreBound (seen_of_difs (now_of below) difs) (links_at plan (height_of below + 1 + 1) ++ flows_at plan (height_of below + 1)) (seen_of_difs (now_of below) difs') → IsRankOf plan (height_of below + 1) ground (seen_of_difs (now_of below) difs) × IsUsed plan (height_of below + 1) (seen_of_difs (now_of below) difs) (seen_of_difs (now_of below) difs')
used_here plan difs difs' below ground built new made b =
    (record { difs = difs; below = new; made = made; shows = ap (λ (n : ℕ). seen_of_difs n difs) (built_now plan below ground built) }, record { ports = b.ports; bound = b.bound })

pub top_used : (plan : Plan) (t t' : Tower) → IsTop plan t → SameBelow t t' → AreBound (seen_of t) (links_at plan (height_of t + 1) ++ flows_at plan (height_of t)) (seen_of t') → IsBuiltFrom plan t' (seen_of t)
top_used plan (Wires a) (Wires a') top same b = (ap seen_of_wires top, record { ports = b.ports; bound = b.bound })
top_used plan (Wires a) (Rank' p' difs' below') top same b = absurd same
top_used plan (Rank' p difs below) (Wires a') top same b = absurd same
top_used plan (Rank' p difs below) (Rank' p' difs' below') top same b =
    let bound = subst (λ (z : Tower). AreBound (seen_of_difs (now_of below) difs) (links_at plan (height_of below + 1 + 1) ++ flows_at plan (height_of below + 1)) (seen_of_difs (now_of z) difs')) same.1 b in
    let u = used_here plan difs difs' below top.0 top.1 top.2.0 top.2.1 bound in
    subst (λ (z : Tower). IsBuiltFrom plan (Rank' p' difs' z) (seen_of_difs (now_of below) difs)) (sym same.1) (top.0, top.1, u.0, u.1)

-- A rank more

pub start_raised : (plan : Plan) (a : Air) → IsSound a → a ≡ air_of plan → IsRaised plan 0 (Wires a)
start_raised plan a sound is = record { valid = sound; top = is; height = refl; planned = tt; fresh = fresh_wires plan a is }

pub raised_ground : (plan : Plan) (k : ℕ) (t : Tower) → IsPlan plan → IsRaised plan k t → IsGround plan k (seen_of t)
raised_ground plan k t p h = subst (λ (n : ℕ). IsGround plan n (seen_of t)) h.height (top_ground plan t p h.top)

pub laid_can : (plan : Plan) (k : ℕ) (t : Tower) (difs : List Dif) (u : Tower) → AreLaid plan k (length plan.difs) t difs u → CanBindAll (seen_of u) (flows_at plan k)
laid_can plan k t difs u laid = all_made plan k (seen_of t) difs (seen_of u) laid.laying

below_built : (plan : Plan) (k : ℕ) (t u v : Tower) (difs : List Dif) → IsRaised plan k t → AreLaid plan k (length plan.difs) t difs u → HasBound u (flows_at plan k) v → IsBuiltFrom plan v (seen_of t)
below_built plan k t u v difs h laid flows =
    let links = all_links plan (k + 1) (seen_of t) difs (seen_of u) laid.laying.made in
    let all : AreBound (seen_of t) (links_at plan (k + 1) ++ flows_at plan k) (seen_of v) = bound_on (seen_of t) (seen_of u) (seen_of v) (links_at plan (k + 1)) (flows_at plan k) links flows.bound in
    top_used plan t v h.top (same_trans t u v laid.below flows.below) (subst (λ (n : ℕ). AreBound (seen_of t) (links_at plan (n + 1) ++ flows_at plan n) (seen_of v)) (sym h.height) all)

pub raised : (plan : Plan) (k : ℕ) (p : _) (t u v : Tower) (difs : List Dif) → k < 8 → IsRaised plan k t → AreLaid plan k (length plan.difs) t difs u → HasBound u (flows_at plan k) v → IsRaised plan (k + 1) (Rank' p difs v)
raised plan k p t u v difs low h laid flows =
    let height : height_of v ≡ k = same_height t v (same_trans t u v laid.below flows.below) ∙ h.height in
    let standing : AreStanding difs (seen_of v) = standing_beside difs (seen_of u) (seen_of v) (kept_of u laid.valid) (kept_of v flows.valid) flows.alone laid.laying.standing in
    record {
      valid = (is_rank difs v flows.valid (omega (arith, height, low)) standing, flows.valid);
      top = (seen_of t, below_built plan k t u v difs h laid flows, (seen_of u, subst (λ (n : ℕ). AreMade plan (places_in plan (n + 1) (length plan.difs)) (seen_of t) difs (seen_of u)) (sym height) laid.laying.made));
      height = ap (λ (n : ℕ). n + 1) height;
      planned = (subst (λ (n : ℕ). AreOfPlan plan (n + 1) difs) (sym height) laid.planned, same_planned plan t v (same_trans t u v laid.below flows.below) h.planned);
      fresh = fresh_up plan k p t u v difs h.fresh laid.made flows.whole;
    }

-- The highest rank

-- of so many DIFs
pub record IsHighestTo (difs : List DifPlan) (n r : ℕ) : Type 0 where
  pub most : (i : ℕ) (d : DifPlan) → i < n → slice_get difs i ≡ Some d → d.rank ≤ r
  pub least : (r ≡ 0) ⊎ ((i : ℕ) × (d : DifPlan) × (slice_get difs i ≡ Some d) × (d.rank ≡ r))

pub high_none : (difs : List DifPlan) (n r : ℕ) → n ≡ 0 → r ≡ 0 → IsHighestTo difs n r
high_none difs n r none least = record { most = λ i d before at. absurd (omega (arith, before, none)); least = inl least }

pub high_up : (difs : List DifPlan) (n r r' : ℕ) (d : DifPlan) → IsHighestTo difs n r → slice_get difs n ≡ Some d → r < d.rank → r' ≡ d.rank → IsHighestTo difs (n + 1) r'
high_up difs n r r' d h is up now = record {
  most = λ i e before at. elim (eqb_tells i n) [
    | inl t ↦ (let same : d ≡ e = same_Some d e (sym is ∙ (ap (slice_get difs) (sym t.1) ∙ at)) in let rank : d.rank ≡ e.rank = ap (λ (x : DifPlan). x.rank) same in omega (arith, rank, now))
    | inr u ↦ (let ne = u.1 in let old = h.most i e (omega (arith, before, ne)) at in omega (arith, old, up, now))
  ];
  least = inr (n, d, is, sym now);
}

pub high_on : (difs : List DifPlan) (n r : ℕ) (d : DifPlan) → IsHighestTo difs n r → slice_get difs n ≡ Some d → d.rank ≤ r → IsHighestTo difs (n + 1) r
high_on difs n r d h is low = record {
  most = λ i e before at. elim (eqb_tells i n) [
    | inl t ↦ (let same : d ≡ e = same_Some d e (sym is ∙ (ap (slice_get difs) (sym t.1) ∙ at)) in let rank : d.rank ≡ e.rank = ap (λ (x : DifPlan). x.rank) same in omega (arith, rank, low))
    | inr u ↦ (let ne = u.1 in h.most i e (omega (arith, before, ne)) at)
  ];
  least = h.least;
}

pub high_all : (difs : List DifPlan) (n r : ℕ) → length difs ≤ n → IsHighestTo difs n r → IsHighest difs r
high_all difs n r past h = record { most = λ i d at. (let within = slice_get_within difs i d at in h.most i d (omega (arith, within, past)) at); least = h.least }

no_links_in : (plan : Plan) (r : ℕ) → ((i : ℕ) (d : DifPlan) → slice_get plan.difs i ≡ Some d → d.rank ≤ r) → (i : ℕ) (o : Option DifPlan) → slice_get plan.difs i ≡ o → cond (rank_in o == r + 1) (links_in plan o) [] ≡ []
no_links_in plan r most i None at = elim (0 == r + 1) as (λ b. cond b (links_in plan None) [] ≡ []) [
  | true ↦ refl
  | false ↦ refl
]
no_links_in plan r most i (Some d) at =
    let least = most i d at in
    let no : (d.rank == r + 1) ≡ false = grind (arith, nat_tests, least) in
    ap (λ (b : Bool). cond b (links_in plan (Some d)) []) no

no_links : (plan : Plan) (r : ℕ) → ((i : ℕ) (d : DifPlan) → slice_get plan.difs i ≡ Some d → d.rank ≤ r) → links_at plan (r + 1) ≡ []
no_links plan r most = none_flat (λ i. cond (rank_of plan.difs (IsDif i) == r + 1) (links_of plan i) []) (range_with_len 0 (length plan.difs)) (λ i. no_links_in plan r most i (slice_get plan.difs i) refl)

-- so many ranks
pub at_top : (plan : Plan) (k r : ℕ) (t : Tower) → k ≤ r → r ≤ k → IsRaised plan k t → IsRaised plan r t
at_top plan k r t low high h = (let same : k ≡ r = omega (arith, low, high) in subst (λ (n : ℕ). IsRaised plan n t) same h)

pub last_can : (plan : Plan) (r : ℕ) (t : Tower) → IsPlan plan → IsRaised plan r t → ((i : ℕ) (d : DifPlan) → slice_get plan.difs i ≡ Some d → d.rank ≤ r) → CanBindAll (seen_of t) (flows_at plan r)
last_can plan r t p h most = subst (λ (fs : List Fixed). CanBindAll (seen_of t) (fs ++ flows_at plan r)) (no_links plan r most) (raised_ground plan r t p h).can

pub last_built : (plan : Plan) (r : ℕ) (t t' : Tower) → IsRaised plan r t → ((i : ℕ) (d : DifPlan) → slice_get plan.difs i ≡ Some d → d.rank ≤ r) → HasBound t (flows_at plan r) t' → IsBuilt plan t'
last_built plan r t t' h most flows =
    let all : AreBound (seen_of t) (links_at plan (r + 1) ++ flows_at plan r) (seen_of t') = subst (λ (fs : List Fixed). AreBound (seen_of t) (fs ++ flows_at plan r) (seen_of t')) (sym (no_links plan r most)) flows.bound in
    (seen_of t, top_used plan t t' h.top flows.below (subst (λ (n : ℕ). AreBound (seen_of t) (links_at plan (n + 1) ++ flows_at plan n) (seen_of t')) (sym h.height) all))

pub last_planned : (plan : Plan) (r : ℕ) (t t' : Tower) → IsRaised plan r t → HasBound t (flows_at plan r) t' → IsAsPlanned plan t'
last_planned plan r t t' h flows = same_planned plan t t' flows.below h.planned

pub last_height : (plan : Plan) (r : ℕ) (t t' : Tower) → IsRaised plan r t → HasBound t (flows_at plan r) t' → height_of t' ≡ r
last_height plan r t t' h flows = same_height t t' flows.below ∙ h.height

pub last_whole : (plan : Plan) (r : ℕ) (t t' : Tower) → IsRaised plan r t → HasBound t (flows_at plan r) t' → IsBuiltWhole plan t'
last_whole plan r t t' h flows = built_whole plan r t t' (last_height plan r t t' h flows) h.fresh flows.whole

-- The DIFs of a rank, one after the other

pub laid_none : (plan : Plan) (k : ℕ) (t : Tower) (difs : List Dif) → IsTower t → IsGround plan k (seen_of t) → difs ≡ [] → AreLaid plan k 0 t difs t
laid_none plan k t difs valid ground none = record {
  valid = valid;
  below = same_refl t;
  laying = subst (λ (ds : List Dif). IsLaying plan k 0 (seen_of t) ds (seen_of t)) (sym none) (begun plan k (seen_of t) ground);
  planned = subst (AreOfPlan plan (k + 1)) (sym none) (none_planned plan (k + 1));
  made = subst (λ (ds : List Dif). AreMadeOver plan (places_in plan (k + 1) 0) t ds t) (sym none) refl;
}

pub laid_more : (plan : Plan) (k at : ℕ) (t u v : Tower) (difs difs' : List Dif) → IsGround plan k (seen_of t) → AreLaid plan k at t difs u → LaysNext plan k at difs u difs' v → AreLaid plan k (at + 1) t difs' v
laid_more plan k at t u v difs difs' ground a b = record {
  valid = b.valid;
  below = same_trans t u v a.below b.below;
  laying = b.laying (seen_of t) ground a.laying;
  planned = b.planned a.planned;
  made = b.made t a.made;
}

pub laid_over : (plan : Plan) (k at : ℕ) (d : DifPlan) (difs : List Dif) (t : Tower) → slice_get plan.difs at ≡ Some d → d.rank ≢ k + 1 → at < length plan.difs → IsTower t → LaysNext plan k at difs t difs t
laid_over plan k at d difs t is other within valid = record {
  valid = valid;
  below = same_refl t;
  laying = λ ground g h. passed_over plan k at ground difs (seen_of t) within (rank_no plan (k + 1) at d is other) h;
  planned = λ h. h;
  made = λ start m. over_same plan (k + 1) at difs start t (rank_no plan (k + 1) at d is other) m;
}

pub may_lay : (plan : Plan) (k at : ℕ) (d : DifPlan) (difs : List Dif) (t : Tower) → slice_get plan.difs at ≡ Some d → d.rank ≡ k + 1 → at < length plan.difs → IsPlan plan → IsHalfMade plan k at difs (seen_of t) → CanLay plan at (seen_of t)
may_lay plan k at d difs t is own within p half = can_lay plan k at half.0 difs (seen_of t) (are_named plan p) half.1 within (rank_yes plan (k + 1) at d is own) half.2

-- a DIF that stands on a tower is one
made_valid : (d : Dif) (t : Tower) → IsTower t → Stands d (seen_of t) → IsValid d
made_valid d t valid stands =
    let clock = stands.1.standing.clock in
    let ends = clock_of t valid in
    record { below = seen_of t; stands = stands; clock = omega (arith, clock, ends) }

pub laid_next : (plan : Plan) (k at : ℕ) (d : DifPlan) (difs difs' : List Dif) (made : Dif) (t u : Tower) → slice_get plan.difs at ≡ Some d → d.rank ≡ k + 1 → at < length plan.difs → IsPlan plan → IsTower t → IsTower u → SameBelow t u → Lays plan at (seen_of t) (seen_of u) → Stands made (seen_of u) → IsNew plan at made (seen_of t) (seen_of u) → ((dif : DifPlan) → slice_get plan.difs at ≡ Some dif → IsConnected made dif.manage (links_of plan at) (seen_of t) (seen_of u)) → BindsInTurn BindsWhole t (links_of plan at) u → made.laid ≡ record { is_static = d.is_static; links = d.links; wait = d.wait } → difs' ≡ difs ++ made ∷ [] → LaysNext plan k at difs t difs' u
laid_next plan k at d difs difs' made t u is own within p valid valid' same lays stands new connected turn laid more = record {
  valid = valid';
  below = same;
  laying = λ ground g h. subst (λ (ds : List Dif). IsLaying plan k (at + 1) ground ds (seen_of u)) (sym more) (laid_on plan k at ground difs (seen_of t) (seen_of u) made (are_named plan p) within (rank_yes plan (k + 1) at d is own) (kept_of t valid) (kept_of u valid') h lays stands new);
  planned = next_planned plan at (k + 1) d difs difs' made (seen_of t) (seen_of u) is own new laid more;
  made = λ start m. over_next plan (k + 1) at difs difs' made start t u (rank_yes plan (k + 1) at d is own) (record { is_new = new; connected = connected; stands = stands; valid = made_valid made u valid' stands }) turn more m;
}

pub all_laid : (plan : Plan) (k at n : ℕ) (t u : Tower) (difs : List Dif) → at ≤ n → n ≤ at → n ≡ length plan.difs → AreLaid plan k at t difs u → AreLaid plan k (length plan.difs) t difs u
all_laid plan k at n t u difs low high is h = (let same : at ≡ length plan.difs = omega (arith, low, high, is) in subst (λ (m : ℕ). AreLaid plan k m t difs u) same h)
