-- The labels that a run begins with.
use Rattle.std.proofs.Common.{◌≡◌, ◌∙◌, ℕ, zero, suc, ◌+◌, ◌-◌, ◌*◌, ◌<◌, ◌≤◌, ◌==◌, Bool, true, false, List, [], ◌∷◌, ◌++◌, length, map, take, get_or, slice_get, Some, refl, sym, ap, subst, arith, append_assoc}
use Rattle.std.specs.Prelude.{count_by, flat_map}
use Rattle.std.specs.List.{range_with_len}
use Rattle.std.proofs.lemmas.List.{append-nil, length-take, map-append, take_more}
use Rattle.std.proofs.lemmas.Option.{slice_get_within}
use Rattle.std.proofs.lemmas.List.Concat.{flat_map-append, flat_map-cons}
use Rattle.rina_iface.specs.declared.ask.Fixed.{Fixed}
use Rattle.rina_iface.specs.declared.ends.End.{End}
use Rattle.rina_iface.proofs.Changed.{all_at}
use Rattle.rina_plan.specs.declared.dif.DifPlan.{DifPlan}
use Rattle.rina_plan.specs.declared.dif.FlowPlan.{FlowPlan}
use Rattle.rina_plan.specs.declared.dif.LinkPlan.{LinkPlan}
use Rattle.rina_plan.specs.declared.dif.Lower.{Lower}
use Rattle.rina_plan.specs.declared.dif.Lower.TheVariants.{Wire, Dif}
use Rattle.rina_plan.specs.Numbers.{IsLower, number_in_rank}
use Rattle.rina_stack.specs.declared.plan.Plan.{Plan}
use Rattle.rina_stack.specs.Ranges.{IsRangedDif, IsSoundLink}
use Rattle.rina_stack.specs.Plan.{IsPlan}
use Rattle.rina_dif.specs.Planned.{link_fixed}
use Rattle.rina_tower.specs.declared.tower.Tower.{Tower}
use Rattle.rina_tower.specs.Built.{IsBuilt}
use Rattle.rina_tower.specs.Fits.{links_at}
use Rattle.rina_tower.specs.Flows.{links_on}
use Rattle.rina_tower.specs.BuildSteps.{IsHighest}
use Rattle.rina_tower.specs.Ranks.{height_of, rank_of, seen_of}
use Rattle.rina_tower.proofs.FitCounts.{count_append}
use Rattle.rina_tower.proofs.FitMade.{range_more}
use Rattle.rina_tower.proofs.Opened.{opened}
use Rattle.rina_notes.specs.declared.label.Label.{Label}
use Rattle.rina_notes.specs.Look.{ends_at}
use Rattle.rina_run.specs.Opening.{Adds, AreDifLabels, AreFlowLabels, AreLabelsOf, IsLabelOf, links_of_rank}

-- Lists

all_there : {X : Type 0} (xs : List X) (i : ℕ) → i < length xs → (x : X) × (slice_get xs i ≡ Some x)
all_there [] i lt = absurd (omega (arith, lt))
all_there (x ∷ xs) zero lt = (x, refl)
all_there (x ∷ xs) (suc i) lt = all_there xs i (omega (arith, lt))

-- Links

-- a link of a plan is on a wire or DIF that is there
low_of : (wires difs : ℕ) (on : Lower) → wires ≤ 128 → IsLower wires difs on → IsLower 128 difs on
low_of wires difs (Wire i) few h = omega (arith, few, h)
low_of wires difs (Dif i) few h = h

pub link_low : (plan : Plan) (at : ℕ) (d : DifPlan) (i : ℕ) (l : LinkPlan) → IsPlan plan → slice_get plan.difs at ≡ Some d → slice_get d.links i ≡ Some l → IsLower 128 (length plan.difs) l.on
link_low plan at d i l p here there = low_of (length plan.wires) (length plan.difs) l.on p.few_wires (all_at (IsSoundLink (length plan.nodes) (length plan.wires) (length plan.difs)) d.links i l (all_at (IsRangedDif (length plan.nodes) (length plan.wires) (length plan.difs)) plan.difs at d p.difs here).links there).on

-- one more link was counted
pub counted : (p : Fixed → Bool) (f : LinkPlan → Fixed) (links : List LinkPlan) (i : ℕ) (d : LinkPlan) → i < length links → count_by p (map f (take (i + 1) links)) ≡ count_by p (map f (take i links)) + count_by p (f (get_or links i d) ∷ [])
counted p f links i d lt =
    ap (λ (ls : List LinkPlan). count_by p (map f ls)) (take_more links i d lt) ∙ ap (count_by p) (map-append f (take i links) (get_or links i d ∷ [])) ∙ count_append p (map f (take i links)) (f (get_or links i d) ∷ [])

-- the links of a DIF, by its rank
pub links_are : (plan : Plan) (rank at : ℕ) (d : DifPlan) → slice_get plan.difs at ≡ Some d → (d.rank == rank) ≡ true → links_of_rank plan rank at ≡ map (link_fixed plan d) d.links
links_are plan rank at d here is = rw here (rw is refl)

pub links_none : (plan : Plan) (rank at : ℕ) (d : DifPlan) → slice_get plan.difs at ≡ Some d → (d.rank == rank) ≡ false → links_of_rank plan rank at ≡ []
links_none plan rank at d here is = rw here (rw is refl)

same_place : (at : ℕ) → 0 + at ≡ at
same_place at = omega arith

next_place : (at : ℕ) → range_with_len 0 (at + 1) ≡ range_with_len 0 at ++ at ∷ []
next_place at = range_more 0 at ∙ ap (λ (n : ℕ). range_with_len 0 at ++ n ∷ []) (same_place at)

-- the links of one more DIF were counted
pub links_more : (p : Fixed → Bool) (plan : Plan) (rank at : ℕ) → count_by p (flat_map (links_of_rank plan rank) (range_with_len 0 (at + 1))) ≡ count_by p (flat_map (links_of_rank plan rank) (range_with_len 0 at)) + count_by p (links_of_rank plan rank at)
links_more p plan rank at =
    let f = links_of_rank plan rank in
    let one : flat_map f (at ∷ []) ≡ f at = flat_map-cons f at [] ∙ append-nil (f at) in
    ap (λ (is : List ℕ). count_by p (flat_map f is)) (next_place at) ∙ ap (count_by p) (flat_map-append f (range_with_len 0 at) (at ∷ [])) ∙ count_append p (flat_map f (range_with_len 0 at)) (flat_map f (at ∷ [])) ∙ ap (λ (fs : List Fixed). count_by p (flat_map f (range_with_len 0 at)) + count_by p fs) one

-- Labels

adds_on : (P Q R : List Label → Type 0) (a b c : List Label) → Adds P a b → Adds Q b c → ((ls ms : List Label) → P ls → Q ms → R (ls ++ ms)) → Adds R a c
adds_on P Q R a b c p q join = record {
  labels = p.labels ++ q.labels;
  are = join p.labels q.labels p.are q.are;
  new_are = q.new_are ∙ ap (λ (ls : List Label). ls ++ q.labels) p.new_are ∙ append_assoc a p.labels q.labels;
}

two_ends : (t : Tower) (rank fac place : ℕ) (flow : FlowPlan) (ls ms : List Label) → IsLabelOf t rank fac place flow.from ls → IsLabelOf t rank fac (place + 1) flow.to ms → AreFlowLabels t rank fac place (flow ∷ []) (ls ++ ms)
two_ends t rank fac place flow ls ms (l, names, is) (m, named, is') = (l, m, [], names, named, refl, rw (is, is') refl)

-- both ends of a flow have their labels
pub flow_labels : (t : Tower) (rank fac place : ℕ) (flow : FlowPlan) (a b c : List Label) → Adds (IsLabelOf t rank fac place flow.from) a b → Adds (IsLabelOf t rank fac (place + 1) flow.to) b c → Adds (AreFlowLabels t rank fac place (flow ∷ [])) a c
flow_labels t rank fac place flow a b c p q = adds_on (IsLabelOf t rank fac place flow.from) (IsLabelOf t rank fac (place + 1) flow.to) (AreFlowLabels t rank fac place (flow ∷ [])) a b c p q (two_ends t rank fac place flow)

flows_on : (t : Tower) (rank fac place : ℕ) (fs gs : List FlowPlan) (ls ms : List Label) → AreFlowLabels t rank fac place fs ls → AreFlowLabels t rank fac (place + 2 * length fs) gs ms → AreFlowLabels t rank fac place (fs ++ gs) (ls ++ ms)
flows_on t rank fac place [] gs ls ms p q =
    let here : AreFlowLabels t rank fac place gs ms = subst (λ (n : ℕ). AreFlowLabels t rank fac n gs ms) (omega arith) q in
    rw p here
flows_on t rank fac place (f ∷ fs) gs ls ms (from, to, rest, one, two, others, is) q =
    let next : AreFlowLabels t rank fac ((place + 2) + 2 * length fs) gs ms = subst (λ (n : ℕ). AreFlowLabels t rank fac n gs ms) (omega arith) q in
    (from, to, rest ++ ms, one, two, flows_on t rank fac (place + 2) fs gs rest ms others next, rw is refl)

-- no labels yet
pub flows_none : (t : Tower) (rank fac place : ℕ) (a : List Label) → Adds (AreFlowLabels t rank fac place []) a a
flows_none t rank fac place a = record { labels = []; are = refl; new_are = sym (append-nil a) }

taken : {X : Type 0} (i : ℕ) (xs : List X) → i < length xs → length (take i xs) ≡ i
taken i xs lt = omega (arith, lt, length-take i xs)

-- the labels of one more flow
pub flows_more : (t : Tower) (rank fac first place : ℕ) (fs : List FlowPlan) (i : ℕ) (d : FlowPlan) (a b c : List Label) → i < length fs → place ≡ first + 2 * i → Adds (AreFlowLabels t rank fac first (take i fs)) a b → Adds (AreFlowLabels t rank fac place (get_or fs i d ∷ [])) b c → Adds (AreFlowLabels t rank fac first (take (i + 1) fs)) a c
flows_more t rank fac first place fs i d a b c lt at p q =
    let next : place ≡ first + 2 * length (take i fs) = omega (arith, at, taken i fs lt) in
    rw (take_more fs i d lt) (adds_on (AreFlowLabels t rank fac first (take i fs)) (AreFlowLabels t rank fac place (get_or fs i d ∷ [])) (AreFlowLabels t rank fac first (take i fs ++ get_or fs i d ∷ [])) a b c p q
    (λ ls ms x y. flows_on t rank fac first (take i fs) (get_or fs i d ∷ []) ls ms x (subst (λ (n : ℕ). AreFlowLabels t rank fac n (get_or fs i d ∷ []) ms) next y)))

labels_on : (plan : Plan) (t : Tower) (is js : List ℕ) (ls ms : List Label) → AreLabelsOf plan t is ls → AreLabelsOf plan t js ms → AreLabelsOf plan t (is ++ js) (ls ++ ms)
labels_on plan t [] js ls ms p q = rw p q
labels_on plan t (i ∷ is) js ls ms (first, rest, one, others, is_all) q = (first, rest ++ ms, one, labels_on plan t is js rest ms others q, ap (λ (xs : List Label). xs ++ ms) is_all ∙ append_assoc first rest ms)

-- the labels of one more DIF
pub labels_more : (plan : Plan) (t : Tower) (at : ℕ) (a b : List Label) → AreLabelsOf plan t (range_with_len 0 at) a → Adds (AreDifLabels plan t at) a b → AreLabelsOf plan t (range_with_len 0 (at + 1)) b
labels_more plan t at a b p q =
    let one : AreLabelsOf plan t (at ∷ []) q.labels = (q.labels, [], q.are, refl, sym (append-nil q.labels)) in
    rw (next_place at, q.new_are) (labels_on plan t (range_with_len 0 at) (at ∷ []) a q.labels p one)

-- so many links, and those of one more DIF
pub links_counted : (p : Fixed → Bool) (plan : Plan) (rank at count there after : ℕ) → count ≡ count_by p (flat_map (links_of_rank plan rank) (range_with_len 0 at)) → there ≡ count_by p (links_of_rank plan rank at) → after ≡ count + there → after ≡ count_by p (flat_map (links_of_rank plan rank) (range_with_len 0 (at + 1)))
links_counted p plan rank at count there after so_far is sum = omega (arith, links_more p plan rank at, so_far, is, sum)

-- more DIFs have no fewer links
links_up : (p : Fixed → Bool) (plan : Plan) (rank k more : ℕ) → count_by p (flat_map (links_of_rank plan rank) (range_with_len 0 k)) ≤ count_by p (flat_map (links_of_rank plan rank) (range_with_len 0 (k + more)))
links_up p plan rank k zero =
    let same : k ≡ k + 0 = omega arith in
    subst (λ (n : ℕ). count_by p (flat_map (links_of_rank plan rank) (range_with_len 0 k)) ≤ count_by p (flat_map (links_of_rank plan rank) (range_with_len 0 n))) same (omega arith)
links_up p plan rank k (suc more) =
    let up = links_up p plan rank k more in
    let next = links_more p plan rank (k + more) in
    let last : (k + more) + 1 ≡ k + suc more = omega arith in
    subst (λ (n : ℕ). count_by p (flat_map (links_of_rank plan rank) (range_with_len 0 k)) ≤ count_by p (flat_map (links_of_rank plan rank) (range_with_len 0 n))) last (omega (arith, up, next))

-- so many links of one more DIF that they can't be counted
pub links_beyond : (p : Fixed → Bool) (plan : Plan) (rank at count there : ℕ) → at < length plan.difs → count ≡ count_by p (flat_map (links_of_rank plan rank) (range_with_len 0 at)) → there ≡ count_by p (links_of_rank plan rank at) → 18446744073709551616 ≤ count + there → 18446744073709551616 ≤ count_by p (links_at plan rank)
links_beyond p plan rank at count there lt so_far is much =
    let next = links_more p plan rank at in
    let up = links_up p plan rank (at + 1) (length plan.difs - (at + 1)) in
    let whole : (at + 1) + (length plan.difs - (at + 1)) ≡ length plan.difs = omega (arith, lt) in
    let all = subst (λ (n : ℕ). count_by p (flat_map (links_of_rank plan rank) (range_with_len 0 (at + 1))) ≤ count_by p (flat_map (links_of_rank plan rank) (range_with_len 0 n))) whole up in
    omega (arith, next, all, so_far, is, much)

-- the place behind the links on a DIF
pub first_is : (plan : Plan) (at : ℕ) (d : DifPlan) (fac links n : ℕ) → fac ≡ number_in_rank plan.difs at → links ≡ count_by (λ (f : Fixed). f.fac == fac) (links_at plan (d.rank + 1)) → n ≡ links * 2 → n ≡ 2 * links_on plan at d
first_is plan at d fac links n is count twice =
    let all : links ≡ links_on plan at d = rw is at count in
    omega (arith, all, twice)

-- the ends of each flow of a DIF stand in its journal
pub open_there : (plan : Plan) (t : Tower) (at : ℕ) (d : DifPlan) (rank fac first : ℕ) (ends : List End) → IsPlan plan → IsBuilt plan t → IsHighest plan.difs (height_of t) → slice_get plan.difs at ≡ Some d → rank ≡ d.rank → fac ≡ number_in_rank plan.difs at → first ≡ 2 * links_on plan at d → ends ≡ ends_at t rank fac
    → (k : ℕ) → k < length d.flows → first + 2 * k + 1 < length ends
open_there plan t at d rank fac first ends p built high here rank_is fac_is first_is ends_are k lt =
    let (f, there) = all_there d.flows k lt in
    let o = opened plan t p built high at k d f here there in
    let rank' : rank_of t rank ≡ Some o.tower = ap (rank_of t) rank_is ∙ o.is_rank in
    let fac' : slice_get (seen_of o.tower).facs fac ≡ Some o.facility = ap (slice_get (seen_of o.tower).facs) fac_is ∙ o.stands in
    let ends' : ends_at t rank fac ≡ o.facility.ends = rw (rank', fac') refl in
    let within : 2 * (links_on plan at d + k) + 1 < length o.facility.ends = slice_get_within o.facility.ends (2 * (links_on plan at d + k) + 1) o.flow.to o.flow.to_at in
    let same : length ends ≡ length o.facility.ends = ap length (ends_are ∙ ends') in
    omega (arith, within, same, first_is)
