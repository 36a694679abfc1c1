-- Before the first line of a run the labels of the stack's flows tell the journals of their ends, which are empty.
use Rattle.std.proofs.Common.{arith, ◌≡◌, ◌≢◌, ◌∙◌, ◌==◌, ◌+◌, ◌*◌, ◌<◌, ◌≤◌, ℕ, Bool, true, false, List, [], length, nat_lt, slice_get, take, Option, Some, option_map, refl, sym, ap, subst, inl, inr, ◌⊎◌}
use Rattle.std.specs.Prelude.{count_by, option_and_then}
use Rattle.std.proofs.lemmas.Bool.Decides.{eqb_tells, nat_tests}
use Rattle.std.proofs.lemmas.Option.{get_or_from_slice_get, same_Some, slice_get-map, slice_get_within}
use Rattle.rina_base.specs.declared.number.Port.{Port}
use Rattle.rina_law.specs.declared.entry.Entry.{Entry}
use Rattle.rina_iface.specs.declared.ends.End.{End}
use Rattle.rina_iface.specs.Seen.{Fac}
use Rattle.rina_plan.specs.declared.dif.DifPlan.{DifPlan}
use Rattle.rina_plan.specs.declared.dif.FlowPlan.{FlowPlan}
use Rattle.rina_plan.specs.declared.dif.Lower.TheVariants.{Dif}
use Rattle.rina_plan.specs.Links.{rank_in, rank_of as rank_in_stack}
use Rattle.rina_plan.specs.Numbers.{number_in_rank}
use Rattle.rina_policy.specs.Slots.{Slot}
use Rattle.rina_stack.specs.declared.plan.Plan.{Plan}
use Rattle.rina_stack.specs.Unbroken.{AreDistinct}
use Rattle.rina_stack.specs.Plan.{IsPlan}
use Rattle.rina_stack.specs.Rules.{labels}
use Rattle.rina_wire.proofs.Kept.{is_mapped}
use Rattle.rina_tower.specs.declared.tower.Tower.{Tower}
use Rattle.rina_tower.specs.Bystanders.{IsIpc, is_ipc}
use Rattle.rina_tower.specs.Built.{IsBuilt}
use Rattle.rina_tower.specs.Flows.{HasFlow, links_on}
use Rattle.rina_tower.specs.BuildSteps.{IsHighest}
use Rattle.rina_tower.specs.Ranks.{height_of, rank_of, seen_of}
use Rattle.rina_tower.specs.Stands.{IsTower, kept_of}
use Rattle.rina_tower.proofs.FitCounts.{same_place}
use Rattle.rina_tower.proofs.Opened.{opened}
use Rattle.rina_notes.specs.declared.label.Label.{Label}
use Rattle.rina_notes.specs.Look.{ends_at, or_no_ends}
use Rattle.rina_run.specs.Opening.{IsOpening}
use Rattle.rina_words.specs.Step.{Stage}
use Rattle.rina_laws.proofs.LabelBuilt.{built_blank}
use Rattle.rina_laws.proofs.LabelLines.{Stays}
use Rattle.rina_laws.proofs.LabelMoves.{IsView}
use Rattle.rina_laws.proofs.LabelRanks.{AllPorts, facs_of, ports_of, rank_kept, shown}
use Rattle.rina_laws.proofs.LabelSpots.{IsSpot, behind, name_of, names_from, side_of, spot_of}
use Rattle.rina_laws.proofs.LabelTells.{AllFit, HoldsAt, WaitsAt, one_place_at}

-- the labels of a stack's flows differ, since a stack with two of one name is refused
labels_differ : (plan : Plan) → IsPlan plan → AreDistinct (labels plan.difs)
labels_differ plan p = p.labels_differ

below_or : (j k : ℕ) → j ≢ k → (j < k) ⊎ (k < j)
below_or j k ne = elim (nat_lt j k) as (λ b. nat_lt j k ≡ b → (j < k) ⊎ (k < j)) [ true ↦ λ e. inl (grind (arith, nat_tests)) | false ↦ λ e. inr (grind (arith, nat_tests)) ] refl

-- what stands at two places of a list without twins differs
one_index : (ts : List (List ℕ)) (j k : ℕ) (x y : List ℕ) → AreDistinct ts → slice_get ts j ≡ Some x → slice_get ts k ≡ Some y → x ≡ y → j ≡ k
one_index ts j k x y apart hx hy same = elim (eqb_tells j k) [
  | inl t ↦ t.1
  | inr f ↦ absurd (elim (below_or j k f.1) [
    | inl lt ↦ apart j k x lt (slice_get_within ts k y hy) (get_or_from_slice_get ts j x x hx ∙ same ∙ sym (get_or_from_slice_get ts k y x hy))
    | inr gt ↦ apart k j x gt (slice_get_within ts j x hx) (get_or_from_slice_get ts k y x hy ∙ sym same ∙ sym (get_or_from_slice_get ts j x x hx))
  ])
]

-- ---- the ends

-- the label and its end
record HasSpot (plan : Plan) (t : Tower) (l : Label) : Type 0 where
  spot : IsSpot plan t l
  rank_is : l.rank ≡ spot.dif.rank
  name_is : l.name ≡ (side_of spot.far spot.flow).label
  fac_is : l.port.fac ≡ number_in_rank plan.difs spot.i
  end : End
  holds : HoldsAt (shown t) l.rank l.port.fac (2 * (links_on plan spot.i spot.dif + spot.k) + behind spot.far) end
  its : end.port ≡ l.port
  plain : is_ipc end.app ≡ false

-- an end of a flow as it was opened
record IsSide (n : ℕ) (ends : List End) (place : ℕ) (far : Bool) : Type 0 where
  end : End
  at : slice_get ends (place + behind far) ≡ Some end
  fac : end.port.fac ≡ n
  plain : IsIpc end.app → ⊥

side_at : (n : ℕ) (f : FlowPlan) (ends : List End) (place : ℕ) (far : Bool) → HasFlow n f ends place → IsSide n ends place far
side_at n f ends place true h = record { end = h.to; at = h.to_at; fac = h.to_is.fac; plain = h.to_is.plain }
side_at n f ends place false h = (let same : place + 0 ≡ place = omega arith in record { end = h.from; at = subst (λ (m : ℕ). slice_get ends m ≡ Some h.from) (sym same) h.from_at; fac = h.from_is.fac; plain = h.from_is.plain })

not_true : (b : Bool) → (b ≡ true → ⊥) → b ≡ false
not_true true never = absurd (never refl)
not_true false never = refl

-- what the ends of a facility of a rank are
ends_are : (t u : Tower) (r n : ℕ) (f : Fac) → rank_of t r ≡ Some u → slice_get (seen_of u).facs n ≡ Some f → ends_at t r n ≡ f.ends
ends_are t u r n f is at = ap (λ (o : Option Tower). or_no_ends (option_and_then (λ (x : Tower). option_map (λ (g : Fac). g.ends) (slice_get (seen_of x).facs n)) o)) is ∙ ap (λ (o : Option Fac). or_no_ends (option_map (λ (g : Fac). g.ends) o)) at

has_spot : (plan : Plan) (t : Tower) (l : Label) → IsPlan plan → IsBuilt plan t → IsHighest plan.difs (height_of t) → IsSpot plan t l → HasSpot plan t l
has_spot plan t l p built high s =
    let o = opened plan t p built high s.i s.k s.dif s.flow s.is_dif s.is_flow in
    let side = side_at (number_in_rank plan.difs s.i) s.flow o.facility.ends (2 * (links_on plan s.i s.dif + s.k)) s.far o.flow in
    let ends : ends_at t s.dif.rank (number_in_rank plan.difs s.i) ≡ o.facility.ends = ends_are t o.tower s.dif.rank (number_in_rank plan.difs s.i) o.facility o.is_rank o.stands in
    let there : slice_get o.facility.ends (2 * (links_on plan s.i s.dif + s.k) + behind s.far) ≡ Some s.names.end = subst (λ (es : List End). slice_get es (2 * (links_on plan s.i s.dif + s.k) + behind s.far) ≡ Some s.names.end) ends s.names.stands in
    let one : side.end ≡ s.names.end = same_Some side.end s.names.end (sym side.at ∙ there) in
    let rank : l.rank ≡ s.dif.rank = ap (λ (x : Label). x.rank) s.names.is in
    let port : l.port ≡ s.names.end.port = ap (λ (x : Label). x.port) s.names.is in
    let fac : l.port.fac ≡ number_in_rank plan.difs s.i = ap (λ (q : Port). q.fac) port ∙ (ap (λ (e : End). e.port.fac) (sym one) ∙ side.fac) in
    let holds : HoldsAt (shown t) s.dif.rank (number_in_rank plan.difs s.i) (2 * (links_on plan s.i s.dif + s.k) + behind s.far) s.names.end = record { facs = facs_of o.tower; is_rank = ap (option_map facs_of) o.is_rank; holds = record { facility = o.facility; stands = o.stands; is = there } } in
    record {
      spot = s;
      rank_is = rank;
      name_is = ap (λ (x : Label). x.name) s.names.is;
      fac_is = fac;
      end = s.names.end;
      holds = subst (λ (r : ℕ). HoldsAt (shown t) r l.port.fac (2 * (links_on plan s.i s.dif + s.k) + behind s.far) s.names.end) (sym rank) (subst (λ (n : ℕ). HoldsAt (shown t) s.dif.rank n (2 * (links_on plan s.i s.dif + s.k) + behind s.far) s.names.end) (sym fac) holds);
      its = sym port;
      plain = not_true (is_ipc s.names.end.app) (λ ipc. side.plain (subst (λ (e : End). IsIpc e.app) (sym one) ipc));
    }

-- ---- ends of one port

same_is : (n : ℕ) → n == n ≡ true
same_is n = elim (eqb_tells n n) [ inl t ↦ t.0 | inr f ↦ absurd (f.1 refl) ]

-- the number of a DIF of this rank
numbered : (difs : List DifPlan) (i r : ℕ) (d : DifPlan) → slice_get difs i ≡ Some d → d.rank ≡ r → number_in_rank difs i ≡ count_by (λ (z : DifPlan). z.rank == r) (take i difs)
numbered difs i r d at is = let rank : rank_in_stack difs (Dif i) ≡ r = ap rank_in at ∙ is in ap (λ (m : ℕ). count_by (λ (z : DifPlan). z.rank == m) (take i difs)) rank

-- it tells its place
one_dif : (difs : List DifPlan) (i k : ℕ) (d e : DifPlan) → slice_get difs i ≡ Some d → slice_get difs k ≡ Some e → d.rank ≡ e.rank → number_in_rank difs i ≡ number_in_rank difs k → i ≡ k
one_dif difs i k d e at_i at_k rank same =
    same_place (λ (z : DifPlan). z.rank == e.rank) difs i k d e at_i at_k (ap (λ (m : ℕ). m == e.rank) rank ∙ same_is e.rank) (same_is e.rank) (sym (numbered difs i e.rank d at_i rank) ∙ (same ∙ numbered difs k e.rank e at_k refl))

one_side : (a b : ℕ) (far other : Bool) → 2 * a + behind far ≡ 2 * b + behind other → (a ≡ b) × (far ≡ other)
one_side a b true true h = (omega (arith, h), refl)
one_side a b false false h = (omega (arith, h), refl)
one_side a b true false h = absurd (omega (arith, h))
one_side a b false true h = absurd (omega (arith, h))

same_name : (plan : Plan) (t : Tower) (l m : Label) → AllPorts (shown t) → HasSpot plan t l → HasSpot plan t m → l.rank ≡ m.rank → l.port ≡ m.port → l.name ≡ m.name
same_name plan t l m ports x y rank port =
    let i_is : x.spot.i ≡ y.spot.i = one_dif plan.difs x.spot.i y.spot.i x.spot.dif y.spot.dif x.spot.is_dif y.spot.is_dif (sym x.rank_is ∙ (rank ∙ y.rank_is)) (sym x.fac_is ∙ (ap (λ (q : Port). q.fac) port ∙ y.fac_is)) in
    let dif_is : x.spot.dif ≡ y.spot.dif = same_Some x.spot.dif y.spot.dif (sym x.spot.is_dif ∙ (ap (slice_get plan.difs) i_is ∙ y.spot.is_dif)) in
    let moved : HoldsAt (shown t) m.rank m.port.fac (2 * (links_on plan x.spot.i x.spot.dif + x.spot.k) + behind x.spot.far) x.end = subst (λ (r : ℕ). HoldsAt (shown t) r m.port.fac (2 * (links_on plan x.spot.i x.spot.dif + x.spot.k) + behind x.spot.far) x.end) rank (subst (λ (q : Port). HoldsAt (shown t) l.rank q.fac (2 * (links_on plan x.spot.i x.spot.dif + x.spot.k) + behind x.spot.far) x.end) port x.holds) in
    let places = one_place_at (shown t) m.rank m.port.fac (2 * (links_on plan x.spot.i x.spot.dif + x.spot.k) + behind x.spot.far) (2 * (links_on plan y.spot.i y.spot.dif + y.spot.k) + behind y.spot.far) x.end y.end ports moved y.holds (x.its ∙ (port ∙ sym y.its)) in
    let links : links_on plan x.spot.i x.spot.dif ≡ links_on plan y.spot.i y.spot.dif = ap (λ (n : ℕ). links_on plan n x.spot.dif) i_is ∙ ap (links_on plan y.spot.i) dif_is in
    let sides = one_side (links_on plan x.spot.i x.spot.dif + x.spot.k) (links_on plan y.spot.i y.spot.dif + y.spot.k) x.spot.far y.spot.far places in
    let sums = sides.0 in
    let k_is : x.spot.k ≡ y.spot.k = omega (arith, sums, links) in
    let flow_is : x.spot.flow ≡ y.spot.flow = same_Some x.spot.flow y.spot.flow (sym x.spot.is_flow ∙ (ap (λ (d : DifPlan). slice_get d.flows x.spot.k) dif_is ∙ (ap (slice_get y.spot.dif.flows) k_is ∙ y.spot.is_flow))) in
    x.name_is ∙ (ap (λ (b : Bool). (side_of b x.spot.flow).label) sides.1 ∙ (ap (λ (f : FlowPlan). (side_of y.spot.far f).label) flow_is ∙ sym y.name_is))

-- ---- the opening

none_waits : (plan : Plan) (t : Tower) (r n at place : ℕ) → IsBuilt plan t → WaitsAt (shown t) r n at place → ⊥
none_waits plan t r n at place built w =
    let m = is_mapped facs_of (rank_of t r) w.facs w.is_rank in
    let blank = (built_blank plan t r m.0 built m.1).of n w.waits.facility (subst (λ (fs : List Fac). slice_get fs n ≡ Some w.waits.facility) (sym m.2) w.waits.stands) in
    let none : slice_get [] at ≡ Some place = subst (λ (xs : List ℕ). slice_get xs at ≡ Some place) blank.waiting w.waits.is in
    cc

taken_came : (t : Tower) → IsTower t → (r n i : ℕ) (e : End) → HoldsAt (shown t) r n i e → e.taken ≤ length e.got
taken_came t v r n i e h =
    let m = is_mapped facs_of (rank_of t r) h.facs h.is_rank in
    let kept = kept_of m.0 (rank_kept t r m.0 v m.1) in
    let at = subst (λ (fs : List Fac). slice_get fs n ≡ Some h.holds.facility) (sym m.2) h.holds.stands in
    ((kept.kept n h.holds.facility at).whole i e h.holds.is).taken

blank_end : (plan : Plan) (t : Tower) → IsTower t → (r n i : ℕ) (e : End) → IsBuilt plan t → HoldsAt (shown t) r n i e → (e.sent ≡ []) × (e.taken ≡ 0)
blank_end plan t v r n i e built h =
    let m = is_mapped facs_of (rank_of t r) h.facs h.is_rank in
    let blank = (built_blank plan t r m.0 built m.1).of n h.holds.facility (subst (λ (fs : List Fac). slice_get fs n ≡ Some h.holds.facility) (sym m.2) h.holds.stands) in
    let none = blank.ends i e h.holds.is in
    let came = taken_came t v r n i e h in
    let got : length e.got ≡ 0 = ap (λ (xs : List Entry). length xs) none.1 in
    (none.0, omega (arith, came, got))

fit_tower : (t : Tower) → IsTower t → AllFit (shown t)
fit_tower t v = record { of = λ r n i e h plain. taken_came t v r n i e h }

pub start_stays : {X : Type 0} (V : End → List X) (plan : Plan) (shelf : List Slot) (s : Stage) → IsView V → IsPlan plan → IsOpening plan shelf s → Stays V (λ name. []) s
start_stays V plan shelf s view p o =
    let ports = ports_of s.run.tower o.stands in
    let all = names_from plan s.run.tower [] plan.difs s.run.labels refl o.labels in
    let spot = λ (k : ℕ) (l : Label) (is : slice_get s.run.labels k ≡ Some l). has_spot plan s.run.tower l p o.built o.height (spot_of plan s.run.tower _ s.run.labels k l o.labels is) in
    let named = λ (k : ℕ) (l : Label) (is : slice_get s.run.labels k ≡ Some l). subst (λ (ts : List (List ℕ)). slice_get ts k ≡ Some l.name) all (slice_get-map name_of s.run.labels k ∙ ap (option_map name_of) is) in
    record {
      stands = o.stands;
      holds = record {
        ports = ports;
        fits = fit_tower s.run.tower o.stands;
        named = record {
          names = λ j k l m hl hm same.
              let place : j ≡ k = one_index (labels plan.difs) j k l.name m.name (labels_differ plan p) (named j l hl) (named k m hm) same in
              let one : l ≡ m = same_Some l m (sym hl ∙ (ap (slice_get s.run.labels) place ∙ hm)) in
              (ap (λ (x : Label). x.rank) one, ap (λ (x : Label). x.port) one);
          ports = λ j k l m hl hm rank same. same_name plan s.run.tower l m ports (spot j l hl) (spot k m hm) rank same;
          waits = λ r n at place e w h. absurd (none_waits plan s.run.tower r n at place o.built w);
          within = λ r n at place w. absurd (none_waits plan s.run.tower r n at place o.built w);
          once = λ r n j k place v w. absurd (none_waits plan s.run.tower r n j place o.built v);
        };
        tells = record {
          stands = λ k l is.
              let x = spot k l is in
              let blank = blank_end plan s.run.tower o.stands l.rank l.port.fac _ x.end o.built x.holds in
              record { place = _; end = x.end; holds = x.holds; its = x.its; plain = x.plain; view = view.fresh x.end blank.0 blank.1 };
          fresh = λ r n i e h bare. (let blank = blank_end plan s.run.tower o.stands r n i e o.built h in view.fresh e blank.0 blank.1);
          silent = λ name unknown. refl;
        };
      };
    }
